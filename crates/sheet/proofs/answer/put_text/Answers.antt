use Rattle.std.proofs.Common.{◌≡◌, ◌≤◌, ◌++◌, length, OnOk, sym, ap, ◌∙◌, subst, refl, inl}
use Rattle.std.proofs.lemmas.Result.{on_ok_weaker}
use Rattle.book.specs.Held.{held}
use Rattle.format.specs.Named.{name}
use Rattle.format.specs.Names.{name_of}
use Rattle.sheet.specs.Sheet.{fault_line}
use Rattle.sheet.proofs.Rows.{on_ok_both}
use Rattle.sheet.proofs.Rests.{text_put}
use Rattle.sheet.proofs.answer.put_text.Goals as goal

pub returns-in-Ok : goal.returns-in-Ok
returns-in-Ok c =
    let names = c.in-Some.names in
    let places = names.places.now in
    let named : name names ≡ name_of c.args.text.now places = c.in-Some.ensures.names ∙ ap (name_of c.args.text.now) (sym c.in-Some.ensures.places) in
    on_ok_weaker c.put_plan.result (text_put c.args.text.now (held c.read.new.book) places (name names) _ _ named) c.put_plan.ensures

pub returns-in-Err-Fault : goal.returns-in-Err-Fault
returns-in-Err-Fault c =
    let r = c.put_fault.result in
    let is = c.in-Err-Fault.fault-is in
    let put = subst (λ f. OnOk r (c.put_fault.new.page ≡ c.args.page.now ++ fault_line f)) is c.put_fault.ensures.put in
    let short = subst (λ f. OnOk r (length (fault_line f) ≤ 8192)) is c.put_fault.ensures.short in
    on_ok_both r (λ p s. (fault_line c.in-Err-Fault.fault, inl (c.in-Err-Fault.fault, refl), s, p)) put short
