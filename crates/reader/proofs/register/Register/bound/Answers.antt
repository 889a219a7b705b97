use Rattle.std.proofs.Common.{◌≡◌, Err, sym, ap, ◌∙◌, w32, SFits, to_z, of_z, rules}
use Rattle.std.proofs.lemmas.Result.{err_from_is_err_and}
use Rattle.std.specs.Option.{ok_or}
use Rattle.std.proofs.lemmas.Int.{to_z-of_z}
use Rattle.format.proofs.Steps.{same_err}
use Rattle.reader.specs.Says.{knows}
use Rattle.reader.proofs.Spoken.{second_stop, minutes_stop, bound_said}
use Rattle.reader.proofs.register.Register.bound.Goals as goal

pub returns-in_err-second : goal.returns-in_err-second
returns-in_err-second c =
    let s = c.in-Some-Some-Some-Some-None in
    let stop = second_stop (knows c.args.self.now) c.args.line _ _ _ _ _ s.key s.first s.second s.number c.words-words.ensures s.ensures.steps s.ensures'.steps
    s.ensures''.steps s.ensures'''.steps s.ensures''''.steps.0 c.in_ok-kind.kind (sym c.in_ok-kind.ensures.ok_part ∙ c.kind_of.ensures)
    c.in_ok-first.first c.in_ok-first.ensures
    c.in_err-second.field-0.0 c.in_err-second.ensures in
    let p = err_from_is_err_and c.from_residual-in_err-second.result c.from_residual-in_err-second.ensures.1 in
    rw (p.1, p.2) stop

pub returns-in_err-minutes : goal.returns-in_err-minutes
returns-in_err-minutes c =
    let s = c.in-Some-Some-Some-Some-None in
    let stop = minutes_stop (knows c.args.self.now) c.args.line _ _ _ _ _ s.key s.first s.second s.number c.words-words.ensures s.ensures.steps s.ensures'.steps
    s.ensures''.steps s.ensures'''.steps s.ensures''''.steps.0 c.in_ok-kind.kind (sym c.in_ok-kind.ensures.ok_part ∙ c.kind_of.ensures)
    c.in_ok-first.first c.in_ok-first.ensures
    c.in_ok-second.second c.in_ok-second.ensures (sym c.in_err-minutes.ensures.ok_part ∙ c.minutes.ensures) in
    let p = err_from_is_err_and c.from_residual-in_err-minutes.result c.from_residual-in_err-minutes.ensures.1 in
    let f = c.in_err-minutes.ensures.value ∙ ap (λ o. ok_or o c.fault-3.result) c.in_err-minutes.ensures.ok_part in
    rw (p.1, p.2) (stop ∙ ap Err (sym (same_err c.in_err-minutes.field-0.0 c.fault-3.result f ∙ c.fault-3.ensures)))

pub returns : goal.returns
returns c =
    let s = c.in-Some-Some-Some-Some-None in
    let z = c.in_ok-minutes.minutes in
    let f : SFits w32 z = search rules in
    let fit : to_z w32 (of_z w32 z) ≡ z = to_z-of_z w32 z f in
    rw fit (bound_said (knows c.args.self.now) c.args.line _ _ _ _ _ s.key s.first s.second s.number c.words-words.ensures s.ensures.steps s.ensures'.steps
    s.ensures''.steps s.ensures'''.steps s.ensures''''.steps.0 c.in_ok-kind.kind (sym c.in_ok-kind.ensures.ok_part ∙ c.kind_of.ensures)
    c.in_ok-first.first c.in_ok-first.ensures
    c.in_ok-second.second c.in_ok-second.ensures z (sym c.in_ok-minutes.ensures.ok_part ∙ c.minutes.ensures))
