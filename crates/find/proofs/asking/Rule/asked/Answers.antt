use Rattle.std.proofs.Common.{◌≡◌, ◌≤◌, get_or, sym, ap, ◌∙◌, subst, w32, SFits, to_z, of_z, rules}
use Rattle.std.proofs.lemmas.Int.{to_z-of_z}
use Rattle.rules.specs.Search.{asked, asked_by}
use Rattle.find.proofs.Places.{no_place, minute_at, is_table}
use Rattle.find.proofs.asking.Rule.asked.Goals as goal

pub shifted-requires : goal.shifted-requires
shifted-requires g c =
    let t = c.args.table.now in
    let places = c.table.inside.places in
    let place = c.way-way.result.place in
    let low = (is_table places t c.table.view_is c.table.invariant).low place in
    let sound = c.way-way.ensures.sound in
    (subst (λ v. v ≤ 36771840) (minute_at places t c.table.view_is place) low, search (rules, sound))

pub returns : goal.returns
returns g c =
    let way = c.way-way.result in
    let t = c.args.table.now in
    let places = c.table.inside.places in
    let fits : SFits w32 way.minutes = search rules in
    let same : to_z w32 (of_z w32 way.minutes) ≡ way.minutes = to_z-of_z w32 way.minutes fits in
    c.shifted.ensures ∙ ap (asked (get_or places way.place no_place).minute) same
    ∙ ap (λ v. asked v way.minutes) (sym (minute_at places t c.table.view_is way.place)) ∙ ap (asked_by t.minutes) c.way-way.ensures.value
