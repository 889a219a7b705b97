use Rattle.std.proofs.Common.{List, length, sym, ap, ◌∙◌, subst}
use Rattle.book.specs.declared.parts.Job.{Job}
use Rattle.book.specs.declared.keeping.Book.{Book}
use Rattle.book.specs.Held.{held, held_sound}
use Rattle.rules.specs.Rules.{Sound}
use Rattle.grades.specs.Systems.{holds}
use Rattle.grades.proofs.Limits.{systems_sound}
use Rattle.systems.proofs.Made.{hold_system}
use Rattle.systems.proofs.graded.strong_system.Goals as goal

pub invariant_of-result : goal.invariant_of-result
invariant_of-result c =
    let b = held c.args.book.now in
    let made = hold_system _ _ _ _ (ap (λ (js : List Job). length js) c.jobs.ensures)
    (c.of-all.result.whole ∙ ap (λ (k : Book). holds (held k)) c.of-all.ensures) in
    record { sound = subst Sound (sym made) ((systems_sound b (held_sound c.args.book.now)).0) }
