-- A growing family of sets of numbers below n stops growing within n steps.
use Prim.Native.Nat.{ℕ, zero, suc, ◌+◌, ◌≤◌, ◌<◌, zero-le}
use mathlib.Core.Path.{◌≡◌, refl, ap}
use mathlib.Core.Logic.{◌⊎◌, inl, inr}
use mathlib.Core.Bool.{Bool, true, false}
use native.Mathlib.Nat.{le_trans, not-suc-le-zero, not-suc-le_self, eq-or-lt_of_le, le_of_suc-le-suc, lt_of_not-le}
use native.Mathlib.Decide.{dec_le}
use native.Mathlib.Omega.{arith}

one : Bool → ℕ
one true = 1
one false = 0

-- how many numbers below n pass the test
count : (ℕ → Bool) → ℕ → ℕ
count f zero = 0
count f (suc n) = one (f n) + count f n

one_le : (x : Bool) → one x ≤ 1
unfolding one
one_le true = omega arith
one_le false = omega arith

one_grows : (x y : Bool) → (x ≡ true → y ≡ true) → one x ≤ one y
unfolding one
one_grows true y k = rw (k refl) (omega arith)
one_grows false y k = zero-le

one_true : (x : Bool) → 1 ≤ one x → x ≡ true
unfolding one
one_true true h = refl
one_true false h = absurd (not-suc-le-zero h)

count_le : (f : ℕ → Bool) (n : ℕ) → count f n ≤ n
unfolding count
count_le f zero = omega arith
count_le f (suc n) = omega (arith, one_le (f n), count_le f n)

module _ (f f' : ℕ → Bool) (grows : (a : ℕ) → f a ≡ true → f' a ≡ true) where
  count_grows : (n : ℕ) → count f n ≤ count f' n
  unfolding count
  count_grows zero = zero-le
  count_grows (suc n) = omega (arith, one_grows (f n) (f' n) (grows n), count_grows n)

  -- where the count does not rise, nothing is new
  count_same : (n : ℕ) → count f' n ≤ count f n → (a : ℕ) → a < n → f' a ≡ true → f a ≡ true
  unfolding count one
  count_same zero l a h e = absurd (not-suc-le-zero h)
  count_same (suc n) l a h e = go (eq-or-lt_of_le (le_of_suc-le-suc h)) (count_same n (omega (arith, one_grows (f n) (f' n) (grows n))) a)
    where
      go : (a ≡ n) ⊎ (a < n) → (a < n → f' a ≡ true → f a ≡ true) → f a ≡ true
      go (inl q) ih =
          let new : one (f' n) ≡ 1 = ap one (rw q at e) in
          rw q (one_true (f n) (omega (arith, count_grows n)))
      go (inr k) ih = ih k e

-- the sets S 0, S 1, .. category
module _ (S : ℕ → ℕ → Bool) (grows : (t a : ℕ) → S t a ≡ true → S (suc t) a ≡ true) (n : ℕ) where
  -- step t adds nothing
  abbrev pub Still : ℕ → Type 0
  Still t = (a : ℕ) → a < n → S (suc t) a ≡ true → S t a ≡ true

  rise : (k : ℕ) → ((t : ℕ) × (t < k) × Still t) ⊎ (k ≤ count (S k) n)
  rise zero = inr zero-le
  rise (suc k) = go (rise k) (dec_le (count (S (suc k)) n) (count (S k) n))
    where
      go : ((t : ℕ) × (t < k) × Still t) ⊎ (k ≤ count (S k) n) → Dec (count (S (suc k)) n ≤ count (S k) n) → ((t : ℕ) × (t < suc k) × Still t) ⊎ (suc k ≤ count (S (suc k)) n)
      go (inl r) d = inl (r.0, omega (arith, r.1), r.2)
      go (inr l) (yes d) = inl (k, omega arith, count_same (S k) (S (suc k)) (grows k) n d)
      go (inr l) (no d) = inr (omega (arith, lt_of_not-le d))

  pub settles : (t : ℕ) × (t ≤ n) × Still t
  settles = go (rise (suc n))
    where
      go : ((t : ℕ) × (t < suc n) × Still t) ⊎ (suc n ≤ count (S (suc n)) n) → (t : ℕ) × (t ≤ n) × Still t
      go (inl r) = (r.0, le_of_suc-le-suc r.1, r.2)
      go (inr l) = absurd (not-suc-le_self n (le_trans l (count_le (S (suc n)) n)))
