use Rattle.std.proofs.Common.{◌-◌, length, take, ap, ◌∙◌}
use Rattle.book.specs.Held.{held, held_sound}
use Rattle.reader.specs.Names.{number_among}
use Rattle.reader.proofs.Naming.{Found, found_job}
use Rattle.reader.proofs.register.Register.find_job.Goals as goal

found : (c : goal.After-job_number)
    → Found c.args.self.now.text.now c.args.self.now.names.now (held c.args.self.now.book.now) c.args.name.now c.job_number.result
found c =
    let r = c.args.self.now in
    found_job r.text.now r.names.now (held r.book.now) c.args.name.now c.job_number.result (held_sound r.book.now) r.stands
    (c.job_number.ensures ∙ ap (λ js. number_among r.text.now (take (length js - 1) r.names.now) c.args.name.now) c.jobs.ensures)

pub returns-clause-value : goal.returns-clause-value
returns-clause-value c = (found c).value

pub returns-clause-within : goal.returns-clause-within
returns-clause-within c = (found c).within
