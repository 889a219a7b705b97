use Rattle.walks.specs.Rows.{JobsBelow}
use Rattle.runs.proofs.rows.due_in.Given as goal

abbrev pub invariant-loop-j : goal.invariant-loop-j
invariant-loop-j l = JobsBelow l.row l.minute l.j l.jobs
