-- The tests on words decide what they say.
use Rattle.std.proofs.Common.{◌≡◌, ℕ, ◌≤◌, ◌&&◌, leb, List, [], ◌∷◌, length, Decides, refl, arith, rules}
use Rattle.std.proofs.lemmas.Bool.{leb-true, le-leb}
use Rattle.std.proofs.lemmas.Slice.Eq.{compares_Decides}
use Rattle.std.proofs.lemmas.Bool.Decides.{Decides-and, Decides-or}
use Rattle.format.specs.Format.{Every, SomeOf, Letter, NameForm, same}
use Rattle.format.specs.Faults.{letters, name_form, among}

pub same_decides : (a b : List ℕ) → Decides (same a b) (a ≡ b)
same_decides = compares_Decides same (search rules)

leb_decides : (a b : ℕ) → Decides (leb a b) (a ≤ b)
leb_decides a b = (leb-true a b, le-leb a b)

letters_decide : (w : List ℕ) → Decides (letters w) (Every Letter w)
letters_decide [] = (λ e. tt, λ e. refl)
letters_decide (c ∷ cs) =
    Decides-and (leb 97 c && leb c 122) (letters cs) (Decides-and (leb 97 c) (leb c 122) (leb_decides 97 c) (leb_decides c 122)) (letters_decide cs)

pub name_decides : (w : List ℕ) → Decides (name_form w) (NameForm w)
name_decides w =
    let few = Decides-and (leb (length w) 8) (letters w) (leb_decides (length w) 8) (letters_decide w) in
    let d = Decides-and (leb 1 (length w)) (leb (length w) 8 && letters w) (leb_decides 1 (length w)) few in
    (λ e. let p = d.0 e in record { some = p.0; few = p.1.0; letters = p.1.1 }, λ n. d.1 (n.some, (n.few, n.letters)))

pub among_decides : (w : List ℕ) (rs : List (List ℕ)) → Decides (among w rs) (SomeOf (λ (r : List ℕ). r ≡ w) rs)
among_decides w [] = (λ e. let z : ◌≡◌ {A = ℕ} 0 1 = cc in omega arith, λ b. absurd b)
among_decides w (r ∷ rs) = Decides-or (same r w) (among w rs) (same_decides r w) (among_decides w rs)
