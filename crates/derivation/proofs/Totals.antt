-- Laws of totals.
use Prim.Native.Nat.{ℕ, zero, suc, ◌+◌, ◌*◌, ◌≤◌, ◌<◌, zero-le}
use mathlib.Core.Path.{◌≡◌, refl, sym, ap, ap₂, ◌∙◌}
use native.Mathlib.Nat.{le_refl, le_step, le-add_right, add-zero, add-suc, add_assoc, zero-mul, suc-mul}
use native.Mathlib.Numerals.{add-one}
use native.Mathlib.Omega.{arith}
use Rattle.derivation.specs.computed.FactCount.{total}

module _ (f : ℕ → ℕ) where
  pub total_none : total f 0 ≡ 0
  unfolding total
  total_none = refl

  pub total_next : (n : ℕ) → total f (n + 1) ≡ total f n + f n
  unfolding total
  total_next n = ap (total f) (add-one n)

  -- n numbers that are at most b each
  pub total_le : (b n : ℕ) → ((k : ℕ) → f k ≤ b) → total f n ≤ n * b
  unfolding total
  total_le b zero h = zero-le
  total_le b (suc n) h = omega (arith, total_le b n h, h n, suc-mul n b)

  -- past n all are 0
  pub total_past : (n d : ℕ) → ((k : ℕ) → n ≤ k → f k ≡ 0) → total f (n + d) ≡ total f n
  unfolding total
  total_past n zero h = ap (total f) (add-zero n)
  total_past n (suc d) h = ap (total f) (add-suc n d) ∙ ap₂ ◌+◌ (total_past n d h) (h (n + d) (le-add_right n d)) ∙ add-zero (total f n)

  -- what comes after the first m
  total_add : (m n : ℕ) → total f (m + n) ≡ total f m + total (λ k. f (m + k)) n
  unfolding total
  total_add m zero = ap (total f) (add-zero m) ∙ sym (add-zero (total f m))
  total_add m (suc n) = ap (total f) (add-suc m n) ∙ ap (λ (x : ℕ). x + f (m + n)) (total_add m n) ∙ add_assoc (total f m) (total (λ k. f (m + k)) n) (f (m + n))

  -- row by row
  pub total_rows : (n w : ℕ) → total f (n * w) ≡ total (λ a. total (λ i. f (a * w + i)) w) n
  unfolding total
  total_rows zero w = ap (total f) (zero-mul w)
  total_rows (suc n) w = ap (total f) (suc-mul n w) ∙ total_add (n * w) w ∙ ap (λ (x : ℕ). x + total (λ i. f (n * w + i)) w) (total_rows n w)

-- equal numbers have equal totals
pub total_same : (f g : ℕ → ℕ) (n : ℕ) → ((k : ℕ) → k < n → f k ≡ g k) → total f n ≡ total g n
unfolding total
total_same f g zero h = refl
total_same f g (suc n) h = ap₂ ◌+◌ (total_same f g n (λ k l. h k (le_step l))) (h n (le_refl (suc n)))
