-- The heart of the dynamic grade, over any cases, jobs and minutes.
use Rattle.std.proofs.Common.{◌≡◌, ℕ, zero, suc, ◌+◌, ◌<◌, ◌≤◌, ◌⊎◌, sym, inl, inr, ⊎_elim, arith}
use native.Mathlib.Decide.{ℕ_discrete, dec_le}

-- a decidable search among the numbers below n
pub look : (n : ℕ) (P : ℕ → Type 0) → ((c : ℕ) → Dec (P c)) → ((c : ℕ) × (c < n) × P c) ⊎ ((c : ℕ) → c < n → P c → ⊥)
look zero P dec = inr (λ c h p. omega arith)
look (suc n) P dec = go (look n P dec) (dec n)
  where
    here : (P n → ⊥) → ((c : ℕ) → c < n → P c → ⊥) → (c : ℕ) → c < suc n → P c → ⊥
    here no_n none c h p = at_end (ℕ_discrete c n)
      where
        at_end : Dec (c ≡ n) → ⊥
        at_end (yes e) = no_n (mathlib.Core.Path.subst P e p)
        at_end (no e) = let h2 : c < n = omega arith in none c h2 p

    go : ((c : ℕ) × (c < n) × P c) ⊎ ((c : ℕ) → c < n → P c → ⊥) → Dec (P n) → ((c : ℕ) × (c < suc n) × P c) ⊎ ((c : ℕ) → c < suc n → P c → ⊥)
    go (inl f) d = inl (f.0, omega (arith, f.1), f.2)
    go (inr none) (yes p) = inl (n, omega arith, p)
    go (inr none) (no p) = inr (here p none)

-- k checks; what a case says of a check; the job of a check; how long after it the outcome is known; which jobs a case does; their minutes
module _ (k : ℕ) (says : ℕ → ℕ → ℕ) (asks late : ℕ → ℕ) (some : (c : ℕ) → 1 ≤ late c) (Does : ℕ → ℕ → Type 0) (M : ℕ → ℕ → ℕ) where
  -- check c tells s from t, and is done in s
  pub record Tells (s t c : ℕ) : Type 0 where
    pub is : c < k
    pub apart : says s c ≡ says t c → ⊥
    pub does : Does s (asks c)

  -- job j in s is held back by j in t, or by a check that tells s from t
  abbrev pub Waits : ℕ → ℕ → ℕ → Type 0
  Waits s t j = (M t j ≤ M s j) ⊎ ((c : ℕ) × Tells s t c × (M s (asks c) + late c ≤ M s j))

  abbrev pub Agreeing : ℕ → ℕ → ℕ → Type 0
  Agreeing t s j = (c : ℕ) → c < k → Does s (asks c) → M s (asks c) + late c ≤ M s j → says t c ≡ says s c

  -- an earlier check that tells t from s
  abbrev pub Earlier : ℕ → ℕ → ℕ → Type 0
  Earlier s t c = (d : ℕ) × Tells t s d × (M t (asks d) + late d ≤ M t (asks c))

  -- a check that tells t from s, known in t no later than c, and done in s no later than in t
  abbrev pub Shared : ℕ → ℕ → ℕ → Type 0
  Shared s t c = (e : ℕ) × Tells t s e × Does s (asks e) × (M t (asks e) + late e ≤ M t (asks c) + late c) × (M s (asks e) ≤ M t (asks e))

  -- there is one: by going down the minutes at which outcomes are known in t
  pub shared : (s t : ℕ) → ((j : ℕ) → Dec (Does s j))
      → ((c : ℕ) → Tells t s c → Does s (asks c) → Waits t s (asks c))
      → ((c : ℕ) → Tells t s c → (Does s (asks c) → ⊥) → Earlier s t c)
      → (fuel c : ℕ) → Tells t s c → M t (asks c) + late c < fuel → Shared s t c
  shared s t dec waits earlier zero c tells h = absurd (omega arith)
  shared s t dec waits earlier (suc fuel) c tells h = go (shared s t dec waits earlier fuel) (dec (asks c))
    where
      again : ((e : ℕ) → Tells t s e → M t (asks e) + late e < fuel → Shared s t e) → Earlier s t c → Shared s t c
      again ih (d, w, l) = let r = ih d w (omega (arith, some c)) in (r.0, r.1, r.2, omega (arith, r.3), r.4)

      go : ((e : ℕ) → Tells t s e → M t (asks e) + late e < fuel → Shared s t e) → Dec (Does s (asks c)) → Shared s t c
      go ih (no n) = again ih (earlier c tells n)
      go ih (yes y) = ⊎_elim (λ (l : M s (asks c) ≤ M t (asks c)). (c, tells, y, omega arith, l)) (again ih) (waits c tells y)

  -- where both wait for each other and t agrees with what is known before j in s, the minutes are equal
  pub settled : (s t j : ℕ) → ((i : ℕ) → Dec (Does s i))
      → Waits s t j → Waits t s j
      → ((c : ℕ) → Tells t s c → Does s (asks c) → Waits t s (asks c))
      → ((c : ℕ) → Tells t s c → (Does s (asks c) → ⊥) → Earlier s t c)
      → Agreeing t s j → M s j ≡ M t j
  settled s t j dec (inr (c, w, l)) back waits earlier agree = absurd (w.apart (sym (agree c w.is w.does l)))
  settled s t j dec (inl le) (inl ge) waits earlier agree = omega arith
  settled s t j dec (inl le) (inr (c, w, l)) waits earlier agree =
      let (e, v, d, m, n) = shared s t dec waits earlier (suc (M t (asks c) + late c)) c w (omega arith) in
      absurd (v.apart (agree e v.is d (omega arith)))

  -- a check that tells s from t is known before j in s
  abbrev Told : ℕ → ℕ → ℕ → ℕ → Type 0
  Told s t j c = (says s c ≡ says t c → ⊥) × Does s (asks c) × (M s (asks c) + late c ≤ M s j)

  -- where agreement makes the minutes equal, j in s waits for j in t
  pub waiting : (s t j : ℕ) → ((i : ℕ) → Dec (Does s i)) → (Agreeing t s j → M s j ≡ M t j) → Waits s t j
  waiting s t j dec same = go (look k (Told s t j) both)
    where
      both : (c : ℕ) → Dec (Told s t j c)
      both c = by (ℕ_discrete (says s c) (says t c)) (dec (asks c)) (dec_le (M s (asks c) + late c) (M s j))
        where
          by : Dec (says s c ≡ says t c) → Dec (Does s (asks c)) → Dec (M s (asks c) + late c ≤ M s j) → Dec (Told s t j c)
          by (yes e) q r = no (λ x. x.0 e)
          by (no e) (no q) r = no (λ x. q x.1)
          by (no e) (yes q) (no r) = no (λ x. r x.2)
          by (no e) (yes q) (yes r) = yes (e, q, r)

      equal : ((c : ℕ) → c < k → Told s t j c → ⊥) → Agreeing t s j
      equal none c h d l = at (ℕ_discrete (says t c) (says s c))
        where
          at : Dec (says t c ≡ says s c) → says t c ≡ says s c
          at (yes e) = e
          at (no e) = absurd (none c h (λ x. e (sym x), d, l))

      go : ((c : ℕ) × (c < k) × Told s t j c) ⊎ ((c : ℕ) → c < k → Told s t j c → ⊥) → Waits s t j
      go (inl (c, h, p)) = inr (c, record { is = h; apart = p.0; does = p.1 }, p.2)
      go (inr none) = let e = same (equal none) in inl (omega arith)
