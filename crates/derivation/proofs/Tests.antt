-- What a test that passes tells: `some`, `&&` and `||`.
use Prim.Native.Nat.{ℕ, zero, suc, ◌<◌}
use mathlib.Core.Path.{◌≡◌, refl, sym}
use mathlib.Core.Logic.{◌⊎◌, inl, inr}
use mathlib.Core.Bool.{Bool, true, false, ◌&&◌, ◌||◌, false≢true}
use native.Mathlib.Nat.{eq-or-lt_of_le, le_of_suc-le-suc, not-suc-le-zero}
use native.Mathlib.Omega.{arith}
use Rattle.derivation.specs.computed.Search.{some}

pub and_parts : (a b : Bool) → a && b ≡ true → (a ≡ true) × (b ≡ true)
and_parts true b e = (refl, e)
and_parts false b e = absurd (false≢true e)

pub and_both : {a b : Bool} → a ≡ true → b ≡ true → a && b ≡ true
and_both {a} {b} p q = rw (p, q)

pub or_cases : (a b : Bool) → a || b ≡ true → (a ≡ true) ⊎ (b ≡ true)
or_cases true b e = inl refl
or_cases false b e = inr e

pub or_left : (a b : Bool) → a ≡ true → a || b ≡ true
or_left a b e = rw e

pub or_right : (a b : Bool) → b ≡ true → a || b ≡ true
or_right true b e = refl
or_right false b e = e

-- two tests that pass together are equal
pub same_test : (a b : Bool) → (a ≡ true → b ≡ true) → (b ≡ true → a ≡ true) → a ≡ b
same_test true b p q = sym (p refl)
same_test false true p q = q refl
same_test false false p q = refl

pub some_found : (f : ℕ → Bool) (n : ℕ) → some f n ≡ true → (m : ℕ) × (m < n) × (f m ≡ true)
unfolding some
some_found f zero e = absurd (false≢true e)
some_found f (suc n) e = go (or_cases (f n) (some f n) e) (λ k. some_found f n k)
  where
    go : (f n ≡ true) ⊎ (some f n ≡ true) → (some f n ≡ true → (m : ℕ) × (m < n) × (f m ≡ true)) → (m : ℕ) × (m < suc n) × (f m ≡ true)
    go (inl k) ih = (n, omega arith, k)
    go (inr k) ih = let r = ih k in (r.0, omega (arith, r.1), r.2)

pub some_here : (f : ℕ → Bool) (n m : ℕ) → m < n → f m ≡ true → some f n ≡ true
unfolding some
some_here f zero m h e = absurd (not-suc-le-zero h)
some_here f (suc n) m h e = go (eq-or-lt_of_le (le_of_suc-le-suc h)) (λ k. some_here f n m k e)
  where
    go : (m ≡ n) ⊎ (m < n) → (m < n → some f n ≡ true) → some f (suc n) ≡ true
    go (inl q) ih = or_left (f n) (some f n) (rw q at e)
    go (inr k) ih = or_right (f n) (some f n) (ih k)
