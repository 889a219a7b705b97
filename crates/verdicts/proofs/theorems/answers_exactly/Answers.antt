use Rattle.verdicts.proofs.Exactly.{strong_exactly, weak_exactly, dynamic_exactly}
use Rattle.verdicts.proofs.theorems.answers_exactly.Goals as goal

pub returns : goal.returns
returns c = record { strong = strong_exactly; weak = weak_exactly; dynamic = dynamic_exactly }
