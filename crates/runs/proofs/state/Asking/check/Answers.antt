use Rattle.std.proofs.Common.{refl, sym, ◌∙◌, subst, IsSome}
use Rattle.book.specs.Held.{held_sound}
use Rattle.book.proofs.Found.{check_found}
use Rattle.runs.specs.Sheets.{plan}
use Rattle.runs.proofs.state.Asking.check.Goals as goal

pub unwrap-requires : goal.unwrap-requires
unwrap-requires c =
    let r = c.args.self.now in
    let found = check_found (plan r.run.sheet.now) (held_sound r.run.sheet.now.book) r.check r.asks.0.0 in
    subst IsSome (sym (c.check_job.ensures ∙ found)) refl
