-- The digits of a number are its decimal, and the only one.
use Prim.Native.Nat.{ℕ, zero, suc, ◌+◌, ◌-◌, ◌*◌, ◌/◌, ◌%◌, ◌≤◌, ◌<◌}
use mathlib.Core.Path.{◌≡◌, refl, ap, sym, ◌∙◌}
use mathlib.Core.List.{List, [], ◌∷◌, ◌++◌}
use native.Mathlib.Nat.{le_trans}
use native.Mathlib.Decide.{dec_lt}
use native.Mathlib.Omega.{arith}
use lib.ListN.{length, length-append, get_or, take, drop, drop_of_length-le, get_or-append}
use lib.Seq.{length-take-le, split_at, get_or-take, get_or_at}
use Rattle.lines.specs.Decimal.{digit_code, decimal, value_after, value, IsDecimal}
use Rattle.lines.proofs.DecimalLaws.{decimal_small, decimal_more}

-- the value of digits and one more
value_snoc : (before b : ℕ) (x : List ℕ) → value_after before (x ++ (b ∷ [])) ≡ 10 * value_after before x + (b - digit_code 0)
unfolding value_after
value_snoc before b [] = refl
value_snoc before b (d ∷ x) = value_snoc (10 * before + (d - digit_code 0)) b x

-- the first digit of a number above 0 is not 0
lead_above : (n : ℕ) (x : List ℕ) → IsDecimal n x → 1 ≤ n → digit_code 0 < get_or x 0 0
unfolding value_after
lead_above n [] is l = absurd (omega (arith, is.some))
lead_above n (d ∷ []) is l = omega (arith, is.worth)
lead_above n (d ∷ e ∷ x) is l = is.lead (omega arith)

-- one digit, and a digit after others
one_decimal : (n : ℕ) → n < 10 → IsDecimal n (digit_code n ∷ [])
unfolding value_after
one_decimal n l = record { some = omega arith; each = each; lead = λ h. absurd (omega arith); worth = omega arith }
  where
    each : (i : ℕ) → i < 1 → (digit_code 0 ≤ get_or (digit_code n ∷ []) i 0) × (get_or (digit_code n ∷ []) i 0 ≤ digit_code 9)
    each zero h = (omega arith, omega arith)
    each (suc i) h = absurd (omega arith)

snoc_decimal : (n b : ℕ) (x : List ℕ) → IsDecimal n x → 1 ≤ n → b < 10 → IsDecimal (10 * n + b) (x ++ (digit_code b ∷ []))
snoc_decimal n b x is above l = record { some = rw long (omega arith); each = λ i h. each i (dec_lt i (length x)) (rw long at h); lead = λ h. lead; worth = worth }
  where
    long : length (x ++ (digit_code b ∷ [])) ≡ length x + 1
    long = length-append x (digit_code b ∷ [])

    each : (i : ℕ) → Dec (i < length x) → i < length x + 1 → (digit_code 0 ≤ get_or (x ++ (digit_code b ∷ [])) i 0) × (get_or (x ++ (digit_code b ∷ [])) i 0 ≤ digit_code 9)
    each i (yes k) h = rw (get_or-append x (digit_code b ∷ []) 0 i k) (is.each i k)
    each i (no k) h = let z : length x ≡ i = omega arith in rw (get_or_at x (digit_code b) [] 0 i z) (omega arith, omega arith)

    lead : digit_code 0 < get_or (x ++ (digit_code b ∷ [])) 0 0
    lead = rw (get_or-append x (digit_code b ∷ []) 0 0 is.some) (lead_above n x is above)

    worth : value (x ++ (digit_code b ∷ [])) ≡ 10 * n + b
    worth = rw (value_snoc 0 (digit_code b) x, is.worth) (omega arith)

decimal_below : (most n : ℕ) → n < most → IsDecimal n (decimal n)
decimal_below zero n h = absurd (omega arith)
decimal_below (suc most) n h = go (dec_lt n 10) (decimal_below most (n / 10))
  where
    go : Dec (n < 10) → (n / 10 < most → IsDecimal (n / 10) (decimal (n / 10))) → IsDecimal n (decimal n)
    go (yes l) ih = rw (decimal_small n l) (one_decimal n l)
    go (no l) ih =
        let z : 10 * (n / 10) + n % 10 ≡ n = omega arith in
        rw (decimal_more n (omega arith)) (rw z at (snoc_decimal (n / 10) (n % 10) (decimal (n / 10)) (ih (omega arith)) (omega arith) (omega arith)))

-- the digits of n are n in decimal
pub decimal_is : (n : ℕ) → IsDecimal n (decimal n)
decimal_is n = decimal_below (suc n) n (omega arith)

-- digits have at least the value of those before them
value_grows : (before : ℕ) (x : List ℕ) → before ≤ value_after before x
unfolding value_after
value_grows before [] = omega arith
value_grows before (b ∷ x) = le_trans (omega arith) (value_grows (10 * before + (b - digit_code 0)) x)

value_above : (x : List ℕ) → 1 ≤ length x → digit_code 0 < get_or x 0 0 → 1 ≤ value x
unfolding value_after
value_above [] h l = absurd (omega arith)
value_above (b ∷ x) h l = le_trans (omega arith) (value_grows (10 * 0 + (b - digit_code 0)) x)

only_one : (n : ℕ) (x : List ℕ) → IsDecimal n x → length x < 2 → x ≡ decimal n
unfolding value_after
only_one n [] is l = absurd (omega (arith, is.some))
only_one n (d ∷ []) is l =
    let low : digit_code 0 ≤ d = (is.each 0 (omega arith)).0 in
    let high : d ≤ digit_code 9 = (is.each 0 (omega arith)).1 in
    let worth : 10 * 0 + (d - digit_code 0) ≡ n = is.worth in
    let same : d ≡ digit_code n = omega arith in
    rw (decimal_small n (omega arith), same)
only_one n (d ∷ e ∷ x) is l = absurd (omega arith)

-- of several digits: the last one, and the others, which are the decimal of their value
module _ (n : ℕ) (x : List ℕ) (is : IsDecimal n x) (several : 2 ≤ length x) where
  abbrev front : List ℕ
  front = take (length x - 1) x

  abbrev last : ℕ
  last = get_or x (length x - 1) 0

  front_length : length front ≡ length x - 1
  front_length = length-take-le (length x - 1) x (omega arith)

  front_and_last : x ≡ front ++ (last ∷ [])
  front_and_last =
      let none : drop (suc (length x - 1)) x ≡ [] = drop_of_length-le x {i = suc (length x - 1)} (omega arith) in
      split_at x (length x - 1) 0 (omega arith) ∙ rw none

  front_decimal : IsDecimal (value front) front
  front_decimal = record {
    some = rw front_length (omega arith);
    each = λ i h. let l : i < length x - 1 = rw front_length at h in rw (get_or-take (length x - 1) x i 0 l) (is.each i (omega arith));
    lead = λ h. rw (get_or-take (length x - 1) x 0 0 (omega arith)) (is.lead several);
    worth = refl;
  }

  front_above : 1 ≤ value front
  front_above = value_above front (rw front_length (omega arith)) (rw (get_or-take (length x - 1) x 0 0 (omega arith)) (is.lead several))

  worth_of : 10 * value front + (last - digit_code 0) ≡ n
  worth_of = sym (value_snoc 0 last front) ∙ ap value (sym front_and_last) ∙ is.worth

  only_more : ((m : ℕ) → m < n → IsDecimal m front → front ≡ decimal m) → x ≡ decimal n
  only_more ih =
      let low : digit_code 0 ≤ last = (is.each (length x - 1) (omega arith)).0 in
      let high : last ≤ digit_code 9 = (is.each (length x - 1) (omega arith)).1 in
      let worth = worth_of in
      let above = front_above in
      let rest : value front ≡ n / 10 = omega arith in
      let digits : last ≡ digit_code (n % 10) = omega arith in
      let fronts : front ≡ decimal (n / 10) = ih (n / 10) (omega arith) (rw rest at front_decimal) in
      front_and_last ∙ sym (decimal_more n (omega arith) ∙ rw (← fronts, ← digits))

only_below : (most n : ℕ) (x : List ℕ) → n < most → IsDecimal n x → x ≡ decimal n
only_below zero n x h is = absurd (omega arith)
only_below (suc most) n x h is = go (dec_lt (length x) 2) (λ y m l. only_below most m y (omega arith))
  where
    go : Dec (length x < 2) → ((y : List ℕ) (m : ℕ) → m < n → IsDecimal m y → y ≡ decimal m) → x ≡ decimal n
    go (yes l) ih = only_one n x is l
    go (no l) ih = only_more n x is (omega arith) (ih (take (length x - 1) x))

-- and nothing else is
pub decimal_only : (n : ℕ) (x : List ℕ) → IsDecimal n x → x ≡ decimal n
decimal_only n x = only_below (suc n) n x (omega arith)
