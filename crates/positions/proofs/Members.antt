-- The members of a word: of 0, of one digit, and of `or`, `and` and `xor`; two words with the same members are equal.
use mathlib.Core.Path.{◌≡◌, refl, sym, ap, ap₂, ◌∙◌}
use mathlib.Core.Logic.{◌⊎◌, inl, inr, ⊎_elim, ◌↔◌}
use mathlib.Core.Bool.{Bool, true, false}
use Prim.Native.Nat.{ℕ, zero, suc, ◌+◌, ◌^◌, ◌≤◌, ◌<◌}
use native.Mathlib.Nat.{pow-suc, lt_of_lt_of_le, le-add_right, le-add_left, eq-zero-or-pos}
use native.Mathlib.Omega.{arith}
use lib.Dec.{eqb}
use lib.Pow.{pow_pos, pow_mono}
use lib.Bits.{bit_or, bit_and, bit_xor, differ, and_le_l, and_le_r, xor_add_and}
use lib.Count.{leading_top}
use borrow.Author.Tests.{eqb-true, eqb-false}
use Rattle.positions.specs.Member.{digit, Member}
use Rattle.positions.proofs.Digits.{digit_zero, digit_suc, digit_lt, digit_none, digit_above, digit_top, digit_or, digit_and, digit_xor, double_zero, double_suc, same_digits}

-- each position is in the set or is not
pub member? : (x j : ℕ) → Member x j ⊎ (Member x j → ⊥)
member? x j = go (digit x j) (digit_lt x j)
  where
    go : (d : ℕ) → d < 2 → (d ≡ 1) ⊎ (d ≡ 1 → ⊥)
    go zero h = inr (λ e. omega arith)
    go (suc zero) h = inl refl
    go (suc (suc d)) h = absurd (omega arith)

pub no_digit : (x j : ℕ) → (Member x j → ⊥) → digit x j ≡ 0
no_digit x j n = omega (arith, digit_lt x j)

-- what the function `member` answers, as a fact
pub member_true : (x j : ℕ) {b : Bool} → b ≡ eqb (digit x j) 1 → b ≡ true → Member x j
member_true x j e t = eqb-true (digit x j) 1 (sym e ∙ t)

pub member_false : (x j : ℕ) {b : Bool} → b ≡ eqb (digit x j) 1 → b ≡ false → Member x j → ⊥
member_false x j e f = eqb-false (digit x j) 1 (sym e ∙ f)

-- the empty word
pub none_member : (j : ℕ) → Member 0 j → ⊥
none_member j h = omega (arith, digit_none j)

-- a word has no member from its length on
pub member_below : (x k j : ℕ) → x < 2 ^ k → Member x j → j < k
member_below x k j h m = let n : k ≤ j → ⊥ = λ l. omega (arith, digit_above x k j h l) in omega arith

-- a word of one digit has one member
one_has : (k : ℕ) → Member (2 ^ k) k
one_has zero = digit_zero 1
one_has (suc k) = ap (λ (y : ℕ). digit y (suc k)) (pow-suc 2 k) ∙ double_suc (2 ^ k) k ∙ one_has k

one_only : (k j : ℕ) → Member (2 ^ k) j → j ≡ k
one_only zero zero m = refl
one_only zero (suc j) m = absurd (none_member j (sym (digit_suc 1 j) ∙ m))
one_only (suc k) zero m = absurd (omega (arith, ap (λ (y : ℕ). digit y zero) (pow-suc 2 k), double_zero (2 ^ k)))
one_only (suc k) (suc j) m = ap suc (one_only k j (sym (double_suc (2 ^ k) j) ∙ ap (λ (y : ℕ). digit y (suc j)) (sym (pow-suc 2 k)) ∙ m))

pub one_member : (k j : ℕ) → Member (2 ^ k) j ↔ (j ≡ k)
one_member k j = (one_only k j, λ e. rw e (one_has k))

-- `or` is the union, and `and` the common part
pub or_member : (a b j : ℕ) → Member (bit_or a b) j ↔ (Member a j ⊎ Member b j)
or_member a b j = (
  λ h. ⊎_elim inl (λ n. inr (omega (arith, digit_or a b j, no_digit a j n))) (member? a j),
  λ h. ⊎_elim (λ m. omega (arith, digit_or a b j, digit_lt b j)) (λ m. omega (arith, digit_or a b j, digit_lt a j)) h,
)

pub and_member : (a b j : ℕ) → Member (bit_and a b) j ↔ (Member a j × Member b j)
and_member a b j = (
  λ h. (omega (arith, digit_and a b j, digit_lt a j), omega (arith, digit_and a b j, digit_lt b j)),
  λ h. omega (arith, digit_and a b j, h.0, h.1),
)

-- where a has what b has, `xor` is what is in a and not in b
pub xor_member : (a b j : ℕ) → (Member b j → Member a j) → Member (bit_xor a b) j ↔ (Member a j × (Member b j → ⊥))
xor_member a b j s = go (member? a j) (member? b j)
  where
    go : Member a j ⊎ (Member a j → ⊥) → Member b j ⊎ (Member b j → ⊥) → Member (bit_xor a b) j ↔ (Member a j × (Member b j → ⊥))
    go (inl x) (inl y) = let z : digit (bit_xor a b) j ≡ 0 = digit_xor a b j ∙ ap₂ differ x y in (λ m. absurd (omega arith), λ p. absurd (p.1 y))
    go (inl x) (inr n) = (λ m. (x, n), λ p. digit_xor a b j ∙ ap₂ differ x (no_digit b j n))
    go (inr n) y =
        let z : digit (bit_xor a b) j ≡ 0 = digit_xor a b j ∙ ap₂ differ (no_digit a j n) (no_digit b j (λ m. n (s m))) in
        (λ m. absurd (omega arith), λ p. absurd (n p.0))

pub lt_power : (x : ℕ) → x < 2 ^ x
lt_power zero = pow_pos 0
lt_power (suc x) = omega (arith, pow-suc 2 x, lt_power x)

-- two words with the same members have the same digits, and so are equal
same_digit : (a b : ℕ) → ((j : ℕ) → Member a j ↔ Member b j) → (j : ℕ) → digit a j ≡ digit b j
same_digit a b h j = ⊎_elim (λ m. m ∙ sym ((h j).0 m)) (λ n. no_digit a j n ∙ sym (no_digit b j (λ m. n ((h j).1 m)))) (member? a j)

pub same_members : (a b : ℕ) → ((j : ℕ) → Member a j ↔ Member b j) → a ≡ b
same_members a b h =
    same_digits (a + b) a b (lt_of_lt_of_le (lt_power a) (pow_mono (le-add_right a b))) (lt_of_lt_of_le (lt_power b) (pow_mono (le-add_left b a)))
    (λ j l. same_digit a b h j)

-- a word is 0 exactly where it has no member
pub empty_word : (x : ℕ) → (x ≡ 0) ↔ ((j : ℕ) → Member x j → ⊥)
empty_word x = (
  λ e j m. none_member j (ap (λ (y : ℕ). digit y j) (sym e) ∙ m),
  λ n. same_members x 0 (λ j. (λ m. absurd (n j m), λ m. absurd (none_member j m))),
)

-- a word that is not 0 has a member: the digit that gives it its length
top_member : (x : ℕ) → 0 < x → (j : ℕ) × Member x j × (x < 2 ^ suc j)
top_member x p = let t = leading_top x x p (lt_power x) in (t.0, digit_top x t.0 t.2 t.3, t.3)

pub some_member : (x : ℕ) → 0 < x → (j : ℕ) × Member x j
some_member x p = let t = top_member x p in (t.0, t.1)

-- a word whose members lie below k is below 2 ^ k
pub word_below : (x k : ℕ) → ((j : ℕ) → Member x j → j < k) → x < 2 ^ k
word_below x k below =
    ⊎_elim (λ e. rw e (pow_pos k)) (λ p. let t = top_member x p in lt_of_lt_of_le t.2 (pow_mono (below t.0 t.1))) (eq-zero-or-pos x)

-- two words that differ do so at some position
pub xor_some : (a b : ℕ) → (a ≡ b → ⊥) → (j : ℕ) × Member (bit_xor a b) j
xor_some a b n = some_member (bit_xor a b) (omega (arith, xor_add_and a b, and_le_l a b, and_le_r a b))
