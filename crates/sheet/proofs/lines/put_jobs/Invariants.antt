use Rattle.std.proofs.Common.{◌≡◌, ◌*◌, ◌≤◌, ◌++◌, length}
use Rattle.format.specs.Named.{name}
use Rattle.sheet.specs.Sheet.{job_lines}
use Rattle.sheet.proofs.lines.put_jobs.Given as goal

abbrev pub invariant-loop-job : goal.invariant-loop-job
invariant-loop-job l = record {
  put : l.page ≡ l.initial.page ++ job_lines (name l.names) l.row l.job;
  short : length (job_lines (name l.names) l.row l.job) ≤ 20 * l.job;
}
