use Rattle.std.proofs.Common.{◌≡◌, ◌*◌, ◌≤◌, ◌++◌, length}
use Rattle.format.specs.Named.{name}
use Rattle.sheet.specs.Sheet.{cases_lines}
use Rattle.sheet.proofs.lines.put_cases.Given as goal

abbrev pub invariant-loop-case : goal.invariant-loop-case
invariant-loop-case l = record {
  put : l.page ≡ l.initial.page ++ cases_lines (name l.plan.names) l.jobs l.minutes l.case;
  short : length (cases_lines (name l.plan.names) l.jobs l.minutes l.case) ≤ 435 * l.case;
}
