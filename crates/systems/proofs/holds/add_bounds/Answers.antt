use Rattle.std.proofs.Common.{◌≡◌, ◌<◌, List, [], ◌∷◌, length, get_or, pos, neg_ℤ, ◌≤ℤ◌, sym, ap, ◌∙◌, subst, arith}
use Rattle.book.specs.declared.parts.Bound.{Bound}
use Rattle.book.specs.Plain.{no_bound}
use Rattle.book.specs.Held.{held, held_sound}
use Rattle.rules.specs.declared.parts.Origin.TheVariants.{Bound as FromBound}
use Rattle.rules.specs.Tables.{Adds}
use Rattle.grades.specs.declared.holds.Hold.{Hold}
use Rattle.grades.specs.Systems.{hold_of, bound_hold}
use Rattle.systems.proofs.Adding.{adds_none, adds_more}
use Rattle.systems.proofs.holds.add_bounds.Goals as goal

pub loop-i-init : goal.loop-i-init
loop-i-init c = adds_none 164 c.args.out.now

pub bound_hold-requires : goal.bound_hold-requires
bound_hold-requires c =
    let b = held c.args.book.now in
    let same : c.bounds-bound-items.result.now ≡ b.bounds = c.bounds-bound-items.ensures in
    let h : c.loop-i.i < length b.bounds = omega (arith, ap length same) in
    let low = ((held_sound c.args.book.now).each_bound c.loop-i.i h).low in
    record { low = subst (λ (ls : List Bound). neg_ℤ (pos 4320) ≤ℤ (get_or ls c.loop-i.i no_bound).minutes) (sym same) low }

pub loop-i-preserved : goal.loop-i-preserved
loop-i-preserved c =
    let b = held c.args.book.now in
    let i = c.loop-i.i in
    let at_i : Bound → Hold = λ l. hold_of l.kind l.first l.second l.minutes (FromBound i) in
    let one : c.bound_hold.result ≡ bound_hold b i = c.bound_hold.ensures ∙ ap (λ ls. at_i (get_or ls i no_bound)) c.bounds-bound-items.ensures in
    let put = subst (λ x. Adds 164 c.loop-i.out (x ∷ []) c.push.new.self) one c.push.ensures.adds in
    adds_more 164 c.args.out.now c.loop-i.out c.push.new.self i (λ n. bound_hold b n ∷ []) c.loop-i.invariant put
