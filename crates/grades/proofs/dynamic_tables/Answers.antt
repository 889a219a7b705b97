use Rattle.grades.proofs.Dynamic.{dynamic_tables}
use Rattle.grades.proofs.dynamic_tables.Goals as goal

pub returns : goal.returns
returns c = dynamic_tables
