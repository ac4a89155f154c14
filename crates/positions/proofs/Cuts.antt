-- What shifts leave of a word: down by k, up by k, down and up again; and the word of all 64 positions.
use mathlib.Core.Path.{◌≡◌, sym, ap, ap₂, ◌∙◌}
use mathlib.Core.Logic.{⊎_elim, ◌↔◌}
use Prim.Native.Nat.{ℕ, zero, suc, ◌+◌, ◌-◌, ◌*◌, ◌/◌, ◌%◌, ◌^◌, ◌≤◌, ◌<◌, zero-le, suc-le-suc}
use native.Mathlib.Nat.{pow-suc, zero-add, suc-mul, mul-one, mul_comm, mul_assoc, mul-div_cancel, div-mul-le_self, div-one, div-div-eq-div-mul, mod-eq_of_lt}
use native.Mathlib.Omega.{arith}
use lib.Pow.{pow_pos, pow-add}
use lib.Dec.{lit<}
use lib.Bits.{bit_and, bit_xor, xor_comm}
use Rattle.positions.specs.Member.{digit, Member}
use Rattle.positions.specs.First.{First}
use Rattle.positions.proofs.Digits.{digit_zero, digit_suc, double_zero, double_suc}
use Rattle.positions.proofs.Taking.{at_first, past_first, taken}
use Rattle.positions.proofs.Members.{member?, none_member, member_below, and_member, xor_member, word_below}

-- down by k: position j was j + k
pub down_digit : (x k j : ℕ) → digit (x / 2 ^ k) j ≡ digit x (j + k)
unfolding digit
down_digit x k j = ap (λ (y : ℕ). y % 2) (div-div-eq-div-mul x (2 ^ k) (2 ^ j) ∙ ap (λ (y : ℕ). x / y) (mul_comm (2 ^ k) (2 ^ j) ∙ sym (pow-add 2 j k)))

down_here : (x k : ℕ) → Member x k → Member (x / 2 ^ k) 0
down_here x k here = down_digit x k 0 ∙ ap (digit x) (zero-add k) ∙ here

-- up by k: position j + k was j
up_digit : (x k j : ℕ) → digit (x * 2 ^ k) (j + k) ≡ digit x j
up_digit x k j = sym (down_digit (x * 2 ^ k) k j) ∙ ap (λ (y : ℕ). digit y j) (mul-div_cancel x (pow_pos k))

-- down by k and up again: the positions from k on
cut_half : (k x : ℕ) → x / 2 ^ suc k * 2 ^ suc k ≡ x / 2 / 2 ^ k * 2 ^ k * 2
cut_half k x =
    let half : x / 2 ^ suc k ≡ x / 2 / 2 ^ k = ap (λ (y : ℕ). x / y) (pow-suc 2 k ∙ mul_comm (2 ^ k) 2) ∙ sym (div-div-eq-div-mul x 2 (2 ^ k)) in
    ap₂ ◌*◌ half (pow-suc 2 k) ∙ sym (mul_assoc (x / 2 / 2 ^ k) (2 ^ k) 2)

cut_member : (k x j : ℕ) → Member (x / 2 ^ k * 2 ^ k) j ↔ (Member x j × (k ≤ j))
cut_member zero x j = let same : x / 2 ^ 0 * 2 ^ 0 ≡ x = mul-one (x / 1) ∙ div-one x in rw same (λ h. (h, zero-le), λ h. h.0)
cut_member (suc k) x zero = rw (cut_half k x) (λ h. absurd (omega (arith, double_zero (x / 2 / 2 ^ k * 2 ^ k))), λ h. absurd (omega (arith, h.1)))
cut_member (suc k) x (suc j) =
    let same = cut_member k (x / 2) j in
    rw (cut_half k x) (
      λ h. let p = same.0 (sym (double_suc (x / 2 / 2 ^ k * 2 ^ k) j) ∙ h) in (digit_suc x j ∙ p.0, suc-le-suc p.1),
      λ h. double_suc (x / 2 / 2 ^ k * 2 ^ k) j ∙ same.1 (sym (digit_suc x j) ∙ h.0, omega (arith, h.1)),
    )

-- a word whose members are some of x's is no longer than x
fits_still : (x y : ℕ) → x < 2 ^ 64 → ((j : ℕ) → Member y j → Member x j) → y % 2 ^ 64 ≡ y
fits_still x y fits part = mod-eq_of_lt (word_below y 64 (λ j m. member_below x 64 j fits (part j m)))

pub from_member : (x k : ℕ) → x < 2 ^ 64 → (j : ℕ) → Member ((x / 2 ^ k * 2 ^ k) % 2 ^ 64) j ↔ (Member x j × (k ≤ j))
from_member x k fits j = rw (fits_still x (x / 2 ^ k * 2 ^ k) fits (λ i m. ((cut_member k x i).0 m).0)) (cut_member k x j)

-- the word of all positions below k
all_below : (k j : ℕ) → j < k → Member (2 ^ k - 1) j
all_below zero j l = absurd (omega arith)
all_below (suc k) zero l = digit_zero (2 ^ suc k - 1) ∙ omega (arith, pow-suc 2 k, pow_pos k)
all_below (suc k) (suc j) l =
    let half : (2 ^ suc k - 1) / 2 ≡ 2 ^ k - 1 = omega (arith, pow-suc 2 k, pow_pos k) in
    digit_suc (2 ^ suc k - 1) j ∙ rw half (all_below k j (omega arith))

-- below the width: the word of all positions, down by what the width lacks
pub below_member : (x width : ℕ) → width ≤ 64 → (j : ℕ) → Member (bit_and x (18446744073709551615 / 2 ^ (64 - width))) j ↔ (Member x j × (j < width))
below_member x width narrow j =
    let both = and_member x (18446744073709551615 / 2 ^ (64 - width)) j in
    let down = down_digit 18446744073709551615 (64 - width) j in (
      λ m. let p = both.0 m in (p.0, omega (arith, member_below 18446744073709551615 64 (j + (64 - width)) (lit< tt) (sym down ∙ p.1))),
      λ p. both.1 (p.0, down ∙ all_below 64 (j + (64 - width)) (omega (arith, p.1))),
    )

-- the run of members from m on: it ends at the first position that the word from m on, turned round, has
module _ (x m r : ℕ) (fits : x < 2 ^ 64) (f : First (bit_xor (x / 2 ^ m) 18446744073709551615) r) where
  abbrev tail : ℕ
  tail = x / 2 ^ m

  all : (j : ℕ) → j < 64 → Member 18446744073709551615 j
  all j l = all_below 64 j l

  turned : (j : ℕ) → j < 64 → Member (bit_xor tail 18446744073709551615) j ↔ (Member tail j → ⊥)
  turned j l =
      let x = xor_member 18446744073709551615 tail j (λ h. all j l) in
      rw (xor_comm tail 18446744073709551615) (λ h. (x.0 h).1, λ n. x.1 (all j l, n))

  pub run_some : Member x m → 1 ≤ r
  run_some here =
      let none : r ≡ 0 → ⊥ = λ (q : r ≡ 0). (turned 0 (lit< tt)).0 (rw q at (f.found (omega arith))) (down_here x m here) in
      omega arith

  pub run_member : (j : ℕ) → j < r → Member x (j + m)
  run_member j l = sym (down_digit x m j) ∙ ⊎_elim (λ h. h) (λ n. absurd (f.none_below j l ((turned j (omega (arith, f.within))).1 n))) (member? tail j)

  pub run_low : Member x m → r + m ≤ 64
  run_low here =
      let some = run_some here in
      omega (arith, some, member_below x 64 (r - 1 + m) fits (run_member (r - 1) (omega arith)))

-- past a member: down to it, less it, and up again
module _ (x k : ℕ) (fits : x < 2 ^ 64) (here : Member x k) where
  odd : Member (x / 2 ^ k) 0
  odd = down_here x k here

  pub past_some : 1 ≤ x / 2 ^ k
  past_some = let n : x / 2 ^ k ≡ 0 → ⊥ = λ q. none_member 0 (rw q at odd) in omega arith

  -- of the positions from k on, all but k
  shared : (i : ℕ) → 0 < i → digit ((x / 2 ^ k - 1) * 2 ^ k) (i + k) ≡ digit x (i + k)
  shared i l = up_digit (x / 2 ^ k - 1) k i ∙ past_first 0 (x / 2 ^ k) i odd (λ j b. absurd (omega arith)) l ∙ down_digit x k i

  past_up : (j : ℕ) → Member ((x / 2 ^ k - 1) * 2 ^ k) j ↔ (Member x j × (k < j))
  past_up j =
      let y = (x / 2 ^ k - 1) * 2 ^ k in
      let whole : y / 2 ^ k * 2 ^ k ≡ y = ap (λ (z : ℕ). z * 2 ^ k) (mul-div_cancel (x / 2 ^ k - 1) (pow_pos k)) in
      let gone : Member y k → ⊥ = λ m. omega (arith, m, ap (digit y) (zero-add k), up_digit (x / 2 ^ k - 1) k 0, at_first 0 (x / 2 ^ k) odd (λ j b. absurd (omega arith))) in
      let same : k < j → digit y j ≡ digit x j = λ l. let e : j - k + k ≡ j = omega arith in rw e at (shared (j - k) (omega arith)) in (
        λ m.
            let low : k ≤ j = ((cut_member k y j).0 (rw whole m)).1 in
            let other : j ≡ k → ⊥ = λ (q : j ≡ k). gone (rw q at m) in
            let after : k < j = omega arith in
            (sym (same after) ∙ m, after),
        λ p. same p.1 ∙ p.0,
      )

  pub past_member : (j : ℕ) → Member (((x / 2 ^ k - 1) * 2 ^ k) % 2 ^ 64) j ↔ (Member x j × (k < j))
  past_member j = rw (fits_still x ((x / 2 ^ k - 1) * 2 ^ k) fits (λ i m. ((past_up i).0 m).0)) (past_up j)

  pub past_less : ((x / 2 ^ k - 1) * 2 ^ k) % 2 ^ 64 < x
  past_less =
      let q = x / 2 ^ k in
      let more : suc (q - 1) ≡ q = omega (arith, past_some) in
      let one : q * 2 ^ k ≡ (q - 1) * 2 ^ k + 2 ^ k = ap (λ (z : ℕ). z * 2 ^ k) (sym more) ∙ suc-mul (q - 1) (2 ^ k) in
      rw (fits_still x ((q - 1) * 2 ^ k) fits (λ i m. ((past_up i).0 m).0)) (omega (arith, one, div-mul-le_self x (2 ^ k), pow_pos k))

-- a run of members, from m to its last
pub record Run (x m end : ℕ) : Type 0 where
  pub long : m ≤ end
  pub small : end < 64
  pub each : (j : ℕ) → m ≤ j → j ≤ end → Member x j
  pub last : Member x end

pub run : (x m r : ℕ) → x < 2 ^ 64 → (x ≡ 0 → ⊥) → First x m → First (bit_xor (x / 2 ^ m) 18446744073709551615) r → Run x m (m + r - 1)
run x m r fits positive first f =
    let here : Member x m = (taken x m first fits positive).here in
    let some : 1 ≤ r = run_some x m r fits f here in
    let long : m ≤ m + r - 1 = omega arith in
    let each : (j : ℕ) → m ≤ j → j ≤ m + r - 1 → Member x j = λ j low high. let e : j - m + m ≡ j = omega arith in rw e at (run_member x m r fits f (j - m) (omega arith)) in
    record { long = long; small = omega (arith, run_low x m r fits f here); each = each; last = each (m + r - 1) long (omega arith) }
