use Rattle.std.proofs.Common.{◌≡◌, true, false, is_some, sym, ap, ◌∙◌, codes, refl}
use Rattle.format.specs.Format.{same}
use Rattle.format.specs.Faults.{work_of, kind_of}
use Rattle.reader.proofs.lines.head_of.Goals as goal

pub returns-then-is_some : goal.returns-then-is_some
returns-then-is_some c =
    let w : is_some (work_of c.args.word.now) ≡ true = sym (ap is_some c.work_of.ensures) ∙ (sym c.is_some.ensures ∙ c.if-is_some.true) in
    let a : same c.args.word.now (codes "jobs") ≡ false =
    ap (same c.args.word.now) (sym c.as_slice.ensures) ∙ (sym c.eq.ensures ∙ c.if-eq.false) in
    let b : same c.args.word.now (codes "bounds") ≡ false =
    ap (same c.args.word.now) (sym c.as_slice-else-eq.ensures) ∙ (sym c.eq-else-eq.ensures ∙ c.if-eq-2.false) in
    rw (a, b, w) refl

pub returns-then-is_some-2 : goal.returns-then-is_some-2
returns-then-is_some-2 c =
    let w : is_some (work_of c.args.word.now) ≡ false = sym (ap is_some c.work_of.ensures) ∙ (sym c.is_some.ensures ∙ c.if-is_some.false) in
    let k : is_some (kind_of c.args.word.now) ≡ true =
    sym (ap is_some c.kind_of.ensures) ∙ (sym c.is_some-else-is_some.ensures ∙ c.if-is_some-2.true) in
    let a : same c.args.word.now (codes "jobs") ≡ false =
    ap (same c.args.word.now) (sym c.as_slice.ensures) ∙ (sym c.eq.ensures ∙ c.if-eq.false) in
    let b : same c.args.word.now (codes "bounds") ≡ false =
    ap (same c.args.word.now) (sym c.as_slice-else-eq.ensures) ∙ (sym c.eq-else-eq.ensures ∙ c.if-eq-2.false) in
    rw (a, b, w, k) refl

pub returns-else-is_some-2 : goal.returns-else-is_some-2
returns-else-is_some-2 c =
    let w : is_some (work_of c.args.word.now) ≡ false = sym (ap is_some c.work_of.ensures) ∙ (sym c.is_some.ensures ∙ c.if-is_some.false) in
    let k : is_some (kind_of c.args.word.now) ≡ false =
    sym (ap is_some c.kind_of.ensures) ∙ (sym c.is_some-else-is_some.ensures ∙ c.if-is_some-2.false) in
    let a : same c.args.word.now (codes "jobs") ≡ false =
    ap (same c.args.word.now) (sym c.as_slice.ensures) ∙ (sym c.eq.ensures ∙ c.if-eq.false) in
    let b : same c.args.word.now (codes "bounds") ≡ false =
    ap (same c.args.word.now) (sym c.as_slice-else-eq.ensures) ∙ (sym c.eq-else-eq.ensures ∙ c.if-eq-2.false) in
    rw (a, b, w, k) refl
