use Rattle.std.proofs.Common.{sym, ◌∙◌}
use Rattle.reader.specs.Says.{knows}
use Rattle.reader.proofs.Spoken.{job_said}
use Rattle.reader.proofs.register.Register.entry.Goals as goal

pub returns : goal.returns
returns c =
    job_said (knows c.args.self.now) c.args.line c.words-words.result c.next.new.self c.next-2.new.self c.in-Some-Some.first
    c.in-Some-Some.name c.words-words.ensures c.in-Some-Some.ensures.steps c.in-Some-Some.ensures'.steps c.in_ok-work.work c.in_ok-label.label
    (sym c.in_ok-work.ensures.ok_part ∙ c.work_of.ensures)
    c.in_ok-new_name.ensures c.in_ok-label.ensures
