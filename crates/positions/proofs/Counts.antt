-- The number of ones of a word is the number of its positions, at most one for each.
use mathlib.Core.Path.{◌≡◌, refl}
use Prim.Native.Nat.{ℕ, zero, suc, ◌+◌, ◌/◌, ◌^◌, ◌≤◌, ◌<◌, zero-le}
use native.Mathlib.Numerals.{add-one}
use native.Mathlib.Omega.{arith}
use lib.Count.{ones, ones_step, ones-le}
use Rattle.positions.specs.Member.{digit}
use Rattle.positions.specs.Count.{count_below}
use Rattle.positions.proofs.Digits.{digit_zero, digit_suc, digit_lt, half_lt}

pub count_none : (set : ℕ) → count_below 0 set ≡ 0
unfolding count_below
count_none set = refl

pub count_step : (k set : ℕ) → count_below (k + 1) set ≡ count_below k set + digit set k
unfolding count_below
count_step k set = rw add-one refl

-- position 0 counted apart
count_low : (k x : ℕ) → count_below (suc k) x ≡ digit x 0 + count_below k (x / 2)
unfolding count_below
count_low zero x = omega arith
count_low (suc k) x = omega (arith, count_low k x, digit_suc x k)

pub ones_count : (k x : ℕ) → x < 2 ^ k → ones x ≡ count_below k x
unfolding count_below
ones_count zero x h = omega (arith, ones-le zero x h)
ones_count (suc k) x h = omega (arith, ones_step x, ones_count k (x / 2) (half_lt x k h), count_low k x, digit_zero x)

pub count_le : (k x : ℕ) → count_below k x ≤ k
unfolding count_below
count_le zero x = zero-le
count_le (suc k) x = omega (arith, count_le k x, digit_lt x k)
