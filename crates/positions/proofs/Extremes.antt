-- The zeros below the lowest digit of a word give its first position, those above the highest its last, and so both ends.
use mathlib.Core.Path.{◌≡◌, refl, sym, ap, ◌∙◌}
use mathlib.Core.Logic.{⊎_elim, ◌↔◌}
use Prim.Native.Nat.{ℕ, zero, suc, ◌-◌, ◌/◌, ◌^◌, ◌≤◌, ◌<◌}
use native.Mathlib.Nat.{zero-lt-suc}
use native.Mathlib.Omega.{arith}
use lib.Count.{count_trailing_zeros, count_leading_zeros, under, trailing_le, leading_top}
use Rattle.positions.specs.Member.{digit, Member}
use Rattle.positions.specs.First.{First}
use Rattle.positions.specs.Last.{Last}
use Rattle.positions.specs.BothEnds.{no_end, BothEnds, some, none}
use Rattle.positions.proofs.Digits.{digit_zero, digit_suc, digit_top}
use Rattle.positions.proofs.Members.{member?, no_digit, none_member, member_below, empty_word}

-- without position 0 there is one zero more than below the half, and with it none
trailing_even : (k n : ℕ) → digit n zero ≡ 0 → count_trailing_zeros (suc k) n ≡ suc (count_trailing_zeros k (n / 2))
unfolding count_trailing_zeros
trailing_even k n e = ap (λ (d : ℕ). under d (count_trailing_zeros k (n / 2))) (sym (digit_zero n) ∙ e)

trailing_odd : (k n : ℕ) → Member n zero → count_trailing_zeros (suc k) n ≡ 0
unfolding count_trailing_zeros
trailing_odd k n m = ap (λ (d : ℕ). under d (count_trailing_zeros k (n / 2))) (sym (digit_zero n) ∙ m)

trailing_below : (k n j : ℕ) → j < count_trailing_zeros k n → Member n j → ⊥
trailing_below zero n j h m = omega (arith, trailing_le zero n)
trailing_below (suc k) n zero h m = omega (arith, trailing_odd k n m)
trailing_below (suc k) n (suc j) h m =
    ⊎_elim (λ o. omega (arith, trailing_odd k n o))
    (λ o. trailing_below k (n / 2) j (omega (arith, trailing_even k n (no_digit n zero o))) (sym (digit_suc n j) ∙ m)) (member? n zero)

trailing_found : (k n : ℕ) → count_trailing_zeros k n < k → Member n (count_trailing_zeros k n)
trailing_found zero n h = absurd (omega arith)
trailing_found (suc k) n h =
    ⊎_elim (λ o. rw (trailing_odd k n o) o)
    (λ o.
    let t : count_trailing_zeros (suc k) n ≡ suc (count_trailing_zeros k (n / 2)) = trailing_even k n (no_digit n zero o) in
    rw t (digit_suc n (count_trailing_zeros k (n / 2)) ∙ trailing_found k (n / 2) (omega arith)))
    (member? n zero)

pub first_trailing : (x : ℕ) → First x (count_trailing_zeros 64 x)
first_trailing x = record { within = trailing_le 64 x; none_below = trailing_below 64 x; found = trailing_found 64 x }

-- 64 is for the empty set alone
pub first_empty : (set r : ℕ) → set < 2 ^ 64 → First set r → (r ≡ 64) ↔ (set ≡ 0)
first_empty set r h p = (
  λ e. (empty_word set).1 (λ j m. p.none_below j (omega (arith, member_below set 64 j h m)) m),
  λ e. let n : r < 64 → ⊥ = λ l. (empty_word set).0 e r (p.found l) in omega (arith, p.within),
)

pub last_leading : (x : ℕ) → 0 < x → x < 2 ^ 64 → Last x (63 - count_leading_zeros 64 x)
last_leading x p h =
    let t = leading_top 64 x p h in
    let e : 63 - count_leading_zeros 64 x ≡ t.0 = omega (arith, t.1) in
    record {
      found = rw e (digit_top x t.0 t.2 t.3);
      none_above = λ j l m. omega (arith, member_below x (suc t.0) j t.3 m);
    }

-- both ends of the empty set, and of a set with a first and a last position
pub both_none : BothEnds 0 no_end no_end
both_none = none none_member refl refl

pub both_some : (set r s : ℕ) → 0 < set → set < 2 ^ 64 → First set r → Last set s → BothEnds set r s
both_some set r s positive fits f l =
    let n : r ≡ 64 → ⊥ = λ e. omega (arith, (first_empty set r fits f).0 e) in
    some (f.found (omega (arith, f.within))) l.found (λ j m. (not_below j m, not_above j m))
  where
    not_below : (j : ℕ) → Member set j → r ≤ j
    not_below j m = let n : j < r → ⊥ = λ b. f.none_below j b m in omega arith

    not_above : (j : ℕ) → Member set j → j ≤ s
    not_above j m = let n : s < j → ⊥ = λ b. l.none_above j b m in omega arith

-- both ends of a word, computed
unfoldable pub smallest_of : ℕ → ℕ
smallest_of zero = no_end
smallest_of (suc x) = count_trailing_zeros 64 (suc x)

unfoldable pub largest_of : ℕ → ℕ
largest_of zero = no_end
largest_of (suc x) = 63 - count_leading_zeros 64 (suc x)

pub both_computed : (set : ℕ) → set < 2 ^ 64 → BothEnds set (smallest_of set) (largest_of set)
unfolding smallest_of largest_of
both_computed zero fits = both_none
both_computed (suc x) fits = both_some (suc x) _ _ (zero-lt-suc x) fits (first_trailing (suc x)) (last_leading (suc x) (zero-lt-suc x) fits)

-- an end of 255, the smallest or the largest, is for the empty set alone
pub both_empty : (set smallest largest : ℕ) → set < 2 ^ 64 → BothEnds set smallest largest →
    ((smallest ≡ no_end) ↔ ((j : ℕ) → Member set j → ⊥)) × ((largest ≡ no_end) ↔ ((j : ℕ) → Member set j → ⊥))
both_empty set smallest largest fits (some s l between) = (
  (λ e. absurd (omega (arith, member_below set 64 smallest fits s)), λ n. absurd (n smallest s)),
  (λ e. absurd (omega (arith, member_below set 64 largest fits l)), λ n. absurd (n largest l)),
)
both_empty set smallest largest fits (none n s l) = ((λ e. n, λ m. s), (λ e. n, λ m. l))
