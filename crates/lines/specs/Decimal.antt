-- A number in decimal: its ASCII digits, the greatest first, without leading zeros.
use Rattle.std.specs.Prelude.{ℕ, zero, suc, ◌+◌, ◌-◌, ◌*◌, ◌/◌, ◌%◌, ◌≤◌, ◌<◌, ◌≡◌, cond, List, [], ◌∷◌, ◌++◌, length, get_or, ltb}

-- the ASCII code of a digit
abbrev pub digit_code : ℕ → ℕ
digit_code d = 48 + d

-- the digits of n, of which there are at most `most`
unfoldable pub digits : ℕ → ℕ → List ℕ
digits zero n = []
digits (suc most) n = cond (ltb n 10) (digit_code n ∷ []) (digits most (n / 10) ++ (digit_code (n % 10) ∷ []))

-- n has no more than n + 1 digits; 0 has one
unfoldable pub decimal : ℕ → List ℕ
decimal n = digits (suc n) n

-- the value of digits after others of value `before`
unfoldable pub value_after : ℕ → List ℕ → ℕ
value_after before [] = before
value_after before (b ∷ rest) = value_after (10 * before + (b - digit_code 0)) rest

abbrev pub value : List ℕ → ℕ
value = value_after 0

-- x is n in decimal: one or more digits, the first of several is not 0, and their value is n
pub record IsDecimal (n : ℕ) (x : List ℕ) : Type 0 where
  pub some : 1 ≤ length x
  pub each : (i : ℕ) → i < length x → (digit_code 0 ≤ get_or x i 0) × (get_or x i 0 ≤ digit_code 9)
  pub lead : 2 ≤ length x → digit_code 0 < get_or x 0 0
  pub worth : value x ≡ n
