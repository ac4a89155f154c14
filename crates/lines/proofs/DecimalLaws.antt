-- The digits of a number: one at a time from the last, as the library has them, and how many there are.
use Prim.Native.Nat.{ℕ, zero, suc, ◌+◌, ◌*◌, ◌/◌, ◌%◌, ◌^◌, ◌≤◌, ◌<◌}
use mathlib.Core.Path.{◌≡◌, sym, ◌∙◌, ap}
use mathlib.Core.List.{List, [], ◌∷◌, ◌++◌}
use native.Mathlib.Decide.{dec_lt}
use native.Mathlib.Omega.{arith}
use lib.ListN.{length, length-append}
use borrow.Author.Tests.{lt-ltb, le-ltb}
use Rattle.std.specs.Fmt as fmt
use Rattle.std.proofs.lemmas.Fmt.{decimal_by_steps}
use Rattle.lines.specs.Decimal.{digit_code, digits, decimal}

-- room for more digits than there are changes nothing
digits_enough : (most more n : ℕ) → n < most → n < more → digits most n ≡ digits more n
unfolding digits
digits_enough zero more n h k = absurd (omega arith)
digits_enough (suc most) zero n h k = absurd (omega arith)
digits_enough (suc most) (suc more) n h k = go (dec_lt n 10) (digits_enough most more (n / 10))
  where
    go : Dec (n < 10) → (n / 10 < most → n / 10 < more → digits most (n / 10) ≡ digits more (n / 10)) → digits (suc most) n ≡ digits (suc more) n
    go (yes l) ih = rw (lt-ltb n 10 l)
    go (no l) ih = rw (le-ltb n 10 (omega arith), ih (omega arith) (omega arith))

pub decimal_small : (n : ℕ) → n < 10 → decimal n ≡ digit_code n ∷ []
unfolding decimal digits
decimal_small n l = rw (lt-ltb n 10 l)

pub decimal_short : (n : ℕ) → n < 10 → length (decimal n) ≡ 1
decimal_short n l = rw (decimal_small n l)

pub decimal_more : (n : ℕ) → 10 ≤ n → decimal n ≡ decimal (n / 10) ++ (digit_code (n % 10) ∷ [])
unfolding decimal digits
decimal_more n l = rw (le-ltb n 10 l, digits_enough n (suc (n / 10)) (n / 10) (omega arith) (omega arith))

pub decimal_two : (n : ℕ) → 10 ≤ n → n < 100 → decimal n ≡ digit_code (n / 10) ∷ digit_code (n % 10) ∷ []
decimal_two n l h = rw (decimal_more n l, decimal_small (n / 10) (omega arith))

pub decimal_three : (n : ℕ) → 100 ≤ n → n < 1000 → decimal n ≡ digit_code (n / 100) ∷ digit_code (n / 10 % 10) ∷ digit_code (n % 10) ∷ []
decimal_three n l h =
    let part : n / 10 / 10 ≡ n / 100 = omega arith in
    rw (decimal_more n (omega arith), decimal_two (n / 10) (omega arith) (omega arith), part)

-- the library writes a number in the same way
pub decimal_same : (n : ℕ) → n < 2 ^ 64 → fmt.decimal n ≡ decimal n
decimal_same = decimal_by_steps (λ n (x : List ℕ). x ≡ decimal n) (λ n h. sym (decimal_small n h)) (λ n x h e. ap (λ (x : List ℕ). x ++ (digit_code (n % 10) ∷ [])) e ∙ sym (decimal_more n h))

pub decimal_length : (n : ℕ) → 10 ≤ n → length (decimal n) ≡ length (decimal (n / 10)) + 1
decimal_length n l = rw (decimal_more n l, length-append (decimal (n / 10)) (digit_code (n % 10) ∷ []))

-- 10, 100, 1,000, ..
abbrev pub tens : ℕ → ℕ
tens zero = 10
tens (suc k) = 10 * tens k

-- a number below 10 has one digit, one below 100 two, and so on
pub decimal_few : (k n : ℕ) → n < tens k → length (decimal n) ≤ suc k
decimal_few zero n h = omega (arith, decimal_short n h)
decimal_few (suc k) n h = go (dec_lt n 10) (decimal_few k (n / 10) (omega arith))
  where
    go : Dec (n < 10) → length (decimal (n / 10)) ≤ suc k → length (decimal n) ≤ suc (suc k)
    go (yes l) ih = omega (arith, decimal_short n l)
    go (no l) ih = let high : 10 ≤ n = omega arith in omega (arith, decimal_length n high)
