-- Rows side by side: each has `width` entries.
use Prim.Native.Nat.{ℕ, ◌+◌, ◌*◌, ◌/◌, ◌%◌, ◌≤◌, ◌<◌}
use mathlib.Core.Path.{◌≡◌, sym, ap}
use native.Mathlib.Nat.{mul-le-mul_right, suc-mul, div-add-mod', div-lt_iff_lt-mul, mod-lt}
use native.Mathlib.Decide.{dec_lt}
use native.Mathlib.Omega.{arith}

-- an earlier row ends before a later one begins
pub row_before_lem : (a b width : ℕ) → a < b → a * width + width ≤ b * width
row_before_lem a b width l = omega (arith, mul-le-mul_right width l, suc-mul a width)

-- the last of n rows ends where the rows end
pub row_inside : (a n width i : ℕ) → a < n → i < width → a * width + i < n * width
row_inside a n width i l h = omega (arith, row_before_lem a n width l)

-- a place is in one row only, at one entry
pub row_one : (a b width i j : ℕ) → i < width → j < width → a * width + i ≡ b * width + j → (a ≡ b) × (i ≡ j)
row_one a b width i j h k e = go (dec_lt a b) (dec_lt b a)
  where
    go : Dec (a < b) → Dec (b < a) → (a ≡ b) × (i ≡ j)
    go (yes l) d = absurd (omega (arith, row_before_lem a b width l))
    go (no l) (yes m) = absurd (omega (arith, row_before_lem b a width m))
    go (no l) (no m) =
        let same : a ≡ b = omega arith in
        let start : a * width ≡ b * width = ap (λ (x : ℕ). x * width) same in
        (same, omega arith)

-- a place among n rows is in some row
pub row_of : (q n width : ℕ) → 0 < width → q < n * width → (a : ℕ) × (i : ℕ) × (a < n) × (i < width) × (q ≡ a * width + i)
row_of q n width h l = (q / width, q % width, (div-lt_iff_lt-mul h).1 l, mod-lt q h, sym (div-add-mod' q width))
