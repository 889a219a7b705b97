use Rattle.std.proofs.Common.{refl, ◌≡◌, true, false, rules}
use Rattle.std.proofs.lemmas.Result.{on_ok_weaker}
use Rattle.sheet.proofs.Rows.{on_ok_both}
use Rattle.book.specs.Held.{held, held_sound}
use Rattle.verdicts.specs.declared.answers.WeakAnswer.TheVariants.{Yes, No}
use Rattle.sheet.specs.declared.grade.Grade.TheVariants.{Strong, Dynamic, Weak}
use Rattle.sheet.specs.Sheet.{is_strong, is_dynamic}
use Rattle.format.specs.Named.{name}
use Rattle.sheet.proofs.Fits.{names_short}
use Rattle.sheet.proofs.Rests.{table_rest, loop_rest, looping_of, looping_known}
use Rattle.sheet.proofs.plan.put_rest.Goals as goal

pub put_loop-requires : goal.put_loop-requires
put_loop-requires c =
    let v = c.args.said in
    let strong : is_strong v.strong ≡ false = search rules in
    let dynamic : is_dynamic v.dynamic ≡ false = search rules in
    let weak : v.weak ≡ No c.in-No.case c.in-No.length = search rules in
    record {
      known = looping_known _ _ _ _ (looping_of (held c.args.plan.book.now) v _ _ c.in-No.case c.in-No.length c.requires.judged strong dynamic weak);
    }

pub returns-in-Yes : goal.returns-in-Yes
returns-in-Yes c =
    let v = c.args.said in
    let strong : is_strong v.strong ≡ true = search rules in
    let shown = rw strong at c.requires.judged.shown in
    on_ok_both c.put_table.result (table_rest (held c.args.plan.book.now) (name c.args.plan.names) v Strong c.args.minutes.now _ _ (rw strong refl) shown)
    c.put_table.ensures.put c.put_table.ensures.short

pub returns-in-Yes-2 : goal.returns-in-Yes-2
returns-in-Yes-2 c =
    let v = c.args.said in
    let strong : is_strong v.strong ≡ false = search rules in
    let dynamic : is_dynamic v.dynamic ≡ true = search rules in
    let shown = rw (strong, dynamic) at c.requires.judged.shown in
    let put = c.put_table-in-Yes-2.ensures in
    on_ok_both c.put_table-in-Yes-2.result
    (table_rest (held c.args.plan.book.now) (name c.args.plan.names) v Dynamic c.args.minutes.now _ _ (rw (strong, dynamic) refl) shown) put.put put.short

pub returns-in-Yes-3 : goal.returns-in-Yes-3
returns-in-Yes-3 c =
    let v = c.args.said in
    let strong : is_strong v.strong ≡ false = search rules in
    let dynamic : is_dynamic v.dynamic ≡ false = search rules in
    let weak : v.weak ≡ Yes = search rules in
    let shown = rw (strong, dynamic, weak) at c.requires.judged.shown in
    let put = c.put_table-in-Yes-3.ensures in
    on_ok_both c.put_table-in-Yes-3.result
    (table_rest (held c.args.plan.book.now) (name c.args.plan.names) v Weak c.args.minutes.now _ _ (rw (strong, dynamic, weak) refl) shown) put.put put.short

pub returns-in-No : goal.returns-in-No
returns-in-No c =
    let b = held c.args.plan.book.now in
    let v = c.args.said in
    let names = c.args.plan.names in
    let strong : is_strong v.strong ≡ false = search rules in
    let dynamic : is_dynamic v.dynamic ≡ false = search rules in
    let weak : v.weak ≡ No c.in-No.case c.in-No.length = search rules in
    let looping = looping_of b v _ c.args.origins.now c.in-No.case c.in-No.length c.requires.judged strong dynamic weak in
    on_ok_weaker c.put_loop.result
    (loop_rest b (name names) v c.args.origins.now c.in-No.case c.in-No.length _ _ (held_sound c.args.plan.book.now)
    (names_short names.text.now names.places.now names.all_in) strong dynamic weak looping) c.put_loop.ensures
