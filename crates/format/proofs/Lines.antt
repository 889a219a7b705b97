-- The words of a line: what is read is what is written.
use Rattle.std.proofs.Common.{◌≡◌, ℕ, ◌+◌, ◌≤◌, Bool, true, false, cond, eqb, List, [], ◌∷◌, map, length, Some, None, Ok, codes, refl, ap}
use Rattle.std.proofs.Common.{◌∙◌, subst, arith}
use Rattle.std.proofs.lemmas.Bool.{eqb-true}
use Rattle.std.proofs.lemmas.Bool.Decides.{not_from_Decides}
use Rattle.book.specs.declared.parts.Kind.{Kind}
use Rattle.book.specs.declared.parts.Kind.TheVariants.{Least, Most}
use Rattle.format.specs.declared.parts.Work.{Work}
use Rattle.format.specs.declared.parts.Work.TheVariants.{Job, Check}
use Rattle.format.specs.declared.parts.Sign.{Sign}
use Rattle.format.specs.declared.parts.Sign.TheVariants.{Plus, Minus}
use Rattle.format.specs.declared.parts.FileFault.TheVariants.{WrongLine, NotANumber, BadName, NameTaken, NameReserved, UnknownName}
use Rattle.format.specs.Format.{Want, JobLine, BoundLine, Known, Every, SomeOf, NameForm, GoodWant, GoodJob, GoodBound}
use Rattle.format.specs.Format.{work_word, kind_word, sign_byte, want_word, job_words, bound_words, count_words, reserved_words, same}
use Rattle.format.specs.Format.{job_number, check_number}
use Rattle.format.specs.Faults.{fault_at, given, among, name_form, work_of, kind_of, sign_of, new_name, job_named, check_named, want_of, wants_of}
use Rattle.format.specs.Faults.{natural_of, minutes_of, count_of, job_line, bound_line}
use Rattle.format.proofs.Steps.{no_fault, no_value, same_ok, same_some, then_ok, then_is, given_ok, untaken, passed, spared}
use Rattle.format.proofs.Words.{same_decides, name_decides, among_decides}
use Rattle.format.proofs.Numbers.{natural_sound, natural_complete, minutes_sound, minutes_complete}

-- what stands for a word by a table of two
pub work_sound : (w : List ℕ) (k : Work) → work_of w ≡ Some k → w ≡ work_word k
work_sound w k e = go (same w (codes "job")) refl (same w (codes "check")) refl e
  where
    go : (s : Bool) → same w (codes "job") ≡ s → (t : Bool) → same w (codes "check") ≡ t → cond s (Some Job) (cond t (Some Check) None) ≡ Some k
        → w ≡ work_word k
    go true d t f q = (same_decides w (codes "job")).0 d ∙ ap work_word (same_some Job k q)
    go false d true f q = (same_decides w (codes "check")).0 f ∙ ap work_word (same_some Check k q)
    go false d false f q = no_value k q

pub work_complete : (k : Work) → work_of (work_word k) ≡ Some k
work_complete Job = refl
work_complete Check = refl

pub kind_sound : (w : List ℕ) (k : Kind) → kind_of w ≡ Some k → w ≡ kind_word k
kind_sound w k e = go (same w (codes "least")) refl (same w (codes "most")) refl e
  where
    go : (s : Bool) → same w (codes "least") ≡ s → (t : Bool) → same w (codes "most") ≡ t → cond s (Some Least) (cond t (Some Most) None) ≡ Some k
        → w ≡ kind_word k
    go true d t f q = (same_decides w (codes "least")).0 d ∙ ap kind_word (same_some Least k q)
    go false d true f q = (same_decides w (codes "most")).0 f ∙ ap kind_word (same_some Most k q)
    go false d false f q = no_value k q

pub kind_complete : (k : Kind) → kind_of (kind_word k) ≡ Some k
kind_complete Least = refl
kind_complete Most = refl

pub sign_sound : (c : ℕ) (s : Sign) → sign_of c ≡ Some s → c ≡ sign_byte s
sign_sound c k e = go (eqb c 43) refl (eqb c 45) refl e
  where
    go : (s : Bool) → eqb c 43 ≡ s → (t : Bool) → eqb c 45 ≡ t → cond s (Some Plus) (cond t (Some Minus) None) ≡ Some k → c ≡ sign_byte k
    go true d t f q = eqb-true c 43 d ∙ ap sign_byte (same_some Plus k q)
    go false d true f q = eqb-true c 45 f ∙ ap sign_byte (same_some Minus k q)
    go false d false f q = no_value k q

pub sign_complete : (s : Sign) → sign_of (sign_byte s) ≡ Some s
sign_complete Plus = refl
sign_complete Minus = refl

module _ (ks : List Known) (l : ℕ) where
  -- names
  abbrev pub New : List ℕ → Type 0
  New w = NameForm w × (job_number ks w ≡ None) × (SomeOf (λ (r : List ℕ). r ≡ w) reserved_words → ⊥)

  pub new_sound : (b : ℕ) (w n : List ℕ) → new_name ks l b w ≡ Ok n → New w × (w ≡ n)
  new_sound b w n e =
      let p = passed (name_form w) _ (fault_at BadName l b) n e in
      let q = untaken (job_number ks w) (fault_at NameTaken l b) _ n p.1 in
      let r = spared (among w reserved_words) _ (fault_at NameReserved l b) n q.1 in
      (((name_decides w).0 p.0, q.0, not_from_Decides (among w reserved_words) (among_decides w reserved_words) r.0), same_ok w n r.1)

  false_from : {P : Type 0} (t : Bool) → (t ≡ true → P) → (P → ⊥) → t ≡ false
  false_from true f g = absurd (g (f refl))
  false_from false f g = refl

  pub new_complete : (b : ℕ) (w : List ℕ) → New w → new_name ks l b w ≡ Ok w
  new_complete b w g = rw ((name_decides w).1 g.0, g.1, false_from (among w reserved_words) (among_decides w reserved_words).0 g.2) refl

  pub job_named_sound : (b : ℕ) (w : List ℕ) (j : ℕ) → job_named ks l b w ≡ Ok j → NameForm w × (job_number ks w ≡ Some j)
  job_named_sound b w j e =
      let p = passed (name_form w) _ (fault_at BadName l b) j e in
      ((name_decides w).0 p.0, given_ok (job_number ks w) _ j p.1)

  pub job_named_complete : (b : ℕ) (w : List ℕ) (j : ℕ) → NameForm w → job_number ks w ≡ Some j → job_named ks l b w ≡ Ok j
  job_named_complete b w j f g = rw ((name_decides w).1 f, g) refl

  pub check_named_sound : (b : ℕ) (w : List ℕ) (c : ℕ) → check_named ks l b w ≡ Ok c → NameForm w × (check_number ks w ≡ Some c)
  check_named_sound b w c e =
      let p = passed (name_form w) _ (fault_at BadName l b) c e in
      ((name_decides w).0 p.0, given_ok (check_number ks w) _ c p.1)

  pub check_named_complete : (b : ℕ) (w : List ℕ) (c : ℕ) → NameForm w → check_number ks w ≡ Some c → check_named ks l b w ≡ Ok c
  check_named_complete b w c f g = rw ((name_decides w).1 f) (ap (λ o. given o (fault_at UnknownName l b)) g)

  -- label words
  pub want_sound : (b : ℕ) (w : List ℕ) (a : Want) → want_of ks l b w ≡ Ok a → (w ≡ want_word a) × GoodWant ks a
  want_sound b [] a e = no_fault (fault_at BadName l b) a e
  want_sound b (c ∷ w) a e =
      let (s, q, f) = then_ok (given (sign_of c) (fault_at BadName l b)) _ a e in
      let (n, r, g) = then_ok (check_named ks l b w) _ a f in
      let x = sign_sound c s (given_ok (sign_of c) _ s q) in
      let (y, z) = check_named_sound b w n r in
      subst (λ t. (c ∷ w ≡ want_word t) × GoodWant ks t) (same_ok (record { sign = s; name = w }) a g) (cc, record { form = y; is_check = (n, z) })

  pub want_complete : (b : ℕ) (a : Want) → GoodWant ks a → want_of ks l b (want_word a) ≡ Ok a
  want_complete b a g =
      let (c, z) = g.is_check in
      then_is (given (sign_of (sign_byte a.sign)) (fault_at BadName l b)) _ a.sign (ap (λ o. given o (fault_at BadName l b)) (sign_complete a.sign))
      ∙ then_is (check_named ks l b a.name) _ c (check_named_complete b a.name c g.form z)

  pub wants_sound : (b : ℕ) (ws : List (List ℕ)) (xs : List Want) → wants_of ks l b ws ≡ Ok xs → (ws ≡ map want_word xs) × Every (GoodWant ks) xs
  wants_sound b [] xs e = subst (λ t. ([] ≡ map want_word t) × Every (GoodWant ks) t) (same_ok [] xs e) (refl, tt)
  wants_sound b (w ∷ ws) xs e =
      let (a, q, f) = then_ok (want_of ks l b w) _ xs e in
      let (ys, r, g) = then_ok (wants_of ks l (b + length w + 1) ws) _ xs f in
      let (x, y) = want_sound b w a q in
      let (u, v) = wants_sound (b + length w + 1) ws ys r in
      subst (λ t. (w ∷ ws ≡ map want_word t) × Every (GoodWant ks) t) (same_ok (a ∷ ys) xs g) (cc, (y, v))

  pub wants_complete : (b : ℕ) (xs : List Want) → Every (GoodWant ks) xs → wants_of ks l b (map want_word xs) ≡ Ok xs
  wants_complete b [] g = refl
  wants_complete b (a ∷ xs) g =
      then_is (want_of ks l b (want_word a)) _ a (want_complete b a g.0)
      ∙ then_is (wants_of ks l (b + length (want_word a) + 1) (map want_word xs)) _ xs (wants_complete (b + length (want_word a) + 1) xs g.1)

  -- lines
  pub job_sound : (b : ℕ) (ws : List (List ℕ)) (j : JobLine) → job_line ks l b ws ≡ Ok j → (ws ≡ job_words j) × GoodJob ks j
  job_sound b [] j e = no_fault (fault_at WrongLine l b) j e
  job_sound b (w ∷ []) j e = no_fault (fault_at WrongLine l b) j e
  job_sound b (w ∷ (v ∷ vs)) j e =
      let (k, q, f) = then_ok (given (work_of w) (fault_at WrongLine l b)) _ j e in
      let (n, r, g) = then_ok (new_name ks l (b + length w + 1) v) _ j f in
      let (xs, s, h) = then_ok (wants_of ks l (b + length w + length v + 2) vs) _ j g in
      let x = work_sound w k (given_ok (work_of w) _ k q) in
      let (y, u) = new_sound (b + length w + 1) v n r in
      let (z, t) = wants_sound (b + length w + length v + 2) vs xs s in
      let good : GoodJob ks (record { work = k; name = v; wants = xs }) = record { form = y.0; fresh = y.1; free = y.2; labelled = t } in
      subst (λ i. (w ∷ (v ∷ vs) ≡ job_words i) × GoodJob ks i) (same_ok (record { work = k; name = n; wants = xs }) j h)
      (cc, subst (λ m. GoodJob ks (record { work = k; name = m; wants = xs })) u good)

  pub job_complete : (b : ℕ) (j : JobLine) → GoodJob ks j → job_line ks l b (job_words j) ≡ Ok j
  job_complete b j g = rw (work_complete j.work, new_complete _ j.name (g.form, g.fresh, g.free), wants_complete _ j.wants g.labelled) refl

  pub bound_sound : (b : ℕ) (ws : List (List ℕ)) (j : BoundLine) → bound_line ks l b ws ≡ Ok j → (ws ≡ bound_words j) × GoodBound ks j
  bound_sound b [] j e = no_fault (fault_at WrongLine l b) j e
  bound_sound b (w ∷ []) j e = no_fault (fault_at WrongLine l b) j e
  bound_sound b (w ∷ (v ∷ [])) j e = no_fault (fault_at WrongLine l b) j e
  bound_sound b (w ∷ (v ∷ (u ∷ []))) j e = no_fault (fault_at WrongLine l b) j e
  bound_sound b (w ∷ (v ∷ (u ∷ (t ∷ (r ∷ rs))))) j e = no_fault (fault_at WrongLine l b) j e
  bound_sound b (w ∷ (v ∷ (u ∷ (t ∷ [])))) j e =
      let (k, q1, f) = then_ok (given (kind_of w) (fault_at WrongLine l b)) _ j e in
      let (m, q2, g) = then_ok (job_named ks l (b + length w + 1) v) _ j f in
      let (n, q3, h) = then_ok (job_named ks l (b + length w + length v + 2) u) _ j g in
      let (z, q4, i) = then_ok (given (minutes_of t) (fault_at NotANumber l (b + length w + length v + length u + 3))) _ j h in
      let x = kind_sound w k (given_ok (kind_of w) _ k q1) in
      let (fm, im) = job_named_sound (b + length w + 1) v m q2 in
      let (fn, jn) = job_named_sound (b + length w + length v + 2) u n q3 in
      let (y, s) = minutes_sound t z (given_ok (minutes_of t) _ z q4) in
      subst (λ i. (w ∷ (v ∷ (u ∷ (t ∷ []))) ≡ bound_words i) × GoodBound ks i) (same_ok (record { kind = k; first = v; second = u; minutes = z }) j i)
      (cc, record { first_form = fm; first_is = (m, im); second_form = fn; second_is = (n, jn); small = s })

  pub bound_complete : (b : ℕ) (j : BoundLine) → GoodBound ks j → bound_line ks l b (bound_words j) ≡ Ok j
  bound_complete b j g =
      let (m, im) = g.first_is in
      let (n, jn) = g.second_is in
      rw (
        kind_complete j.kind,
        job_named_complete _ j.first m g.first_form im,
        job_named_complete _ j.second n g.second_form jn,
        minutes_complete j.minutes g.small,
      ) refl

-- the line of a count
pub count_sound : (key : List ℕ) (l b : ℕ) (ws : List (List ℕ)) (n : ℕ) → count_of key l b ws ≡ Ok n → (ws ≡ count_words key n) × (n ≤ 99)
count_sound key l b [] n e = no_fault (fault_at WrongLine l b) n e
count_sound key l b (w ∷ []) n e = no_fault (fault_at WrongLine l b) n e
count_sound key l b (w ∷ (v ∷ (u ∷ us))) n e = no_fault (fault_at WrongLine l b) n e
count_sound key l b (w ∷ (v ∷ [])) n e =
    let p = passed (same w key) _ (fault_at WrongLine l b) n e in
    let x = (same_decides w key).0 p.0 in
    let (y, h) = natural_sound 2 v n (omega arith) (given_ok (natural_of 2 v) _ n p.1) in
    (cc, omega arith)

pub count_complete : (key : List ℕ) (l b n : ℕ) → n ≤ 99 → count_of key l b (count_words key n) ≡ Ok n
count_complete key l b n h = rw ((same_decides key key).1 refl, natural_complete 2 n (omega arith) (omega arith) (omega arith)) refl
