-- The first member of a word that is not 0, and the word without it: x and x - 1 differ from that member down.
use mathlib.Core.Path.{◌≡◌, sym, ◌∙◌}
use mathlib.Core.Logic.{◌↔◌}
use Prim.Native.Nat.{ℕ, zero, suc, ◌-◌, ◌/◌, ◌%◌, ◌^◌, ◌≤◌, ◌<◌}
use native.Mathlib.Nat.{zero-lt-suc}
use native.Mathlib.Omega.{arith}
use lib.Bits.{bit_and, and_le_r}
use Rattle.positions.specs.Member.{digit, Member}
use Rattle.positions.specs.First.{First}
use Rattle.positions.proofs.Digits.{digit_zero, digit_suc}
use Rattle.positions.proofs.Members.{no_digit, none_member, and_member}
use Rattle.positions.proofs.Extremes.{first_empty}

-- no position below e is in the set
abbrev pub NoneBelow : ℕ → ℕ → Type 0
NoneBelow x e = (j : ℕ) → j < e → Member x j → ⊥

-- the half of a word without position 0: its first member, and that it is not 0
half_none : (x e : ℕ) → NoneBelow x (suc e) → NoneBelow (x / 2) e
half_none x e none j l m = none (suc j) (omega arith) (digit_suc x j ∙ m)

half_less : (x e : ℕ) → Member x (suc e) → NoneBelow x (suc e) → (x - 1) / 2 ≡ x / 2 - 1
half_less x e m none =
    let even : x % 2 ≡ 0 = sym (digit_zero x) ∙ no_digit x zero (none zero (zero-lt-suc e)) in
    let some : x / 2 ≡ 0 → ⊥ = λ q. none_member e (rw q at (sym (digit_suc x e) ∙ m)) in
    omega arith

-- x - 1 has not the first member of x, and has those after it
pub at_first : (e x : ℕ) → Member x e → NoneBelow x e → digit (x - 1) e ≡ 0
at_first zero x m none = digit_zero (x - 1) ∙ omega (arith, digit_zero x)
at_first (suc e) x m none =
    digit_suc (x - 1) e ∙ rw (half_less x e m none) (at_first e (x / 2) (sym (digit_suc x e) ∙ m) (half_none x e none))

pub past_first : (e x j : ℕ) → Member x e → NoneBelow x e → e < j → digit (x - 1) j ≡ digit x j
past_first e x zero m none l = absurd (omega arith)
past_first zero x (suc j) m none l =
    let same : (x - 1) / 2 ≡ x / 2 = omega (arith, digit_zero x) in
    digit_suc (x - 1) j ∙ rw same (sym (digit_suc x j))
past_first (suc e) x (suc j) m none l =
    digit_suc (x - 1) j
    ∙ rw (half_less x e m none) (past_first e (x / 2) j (sym (digit_suc x e) ∙ m) (half_none x e none) (omega arith))
    ∙ sym (digit_suc x j)

-- the first member e of a set, and what is left without it
pub record Taken (left e : ℕ) : Type 0 where
  pub small : e < 64
  pub here : Member left e
  pub some : 1 ≤ left
  pub less : bit_and left (left - 1) < left
  pub rest : (j : ℕ) → Member (bit_and left (left - 1)) j ↔ (Member left j × (j ≡ e → ⊥))

module _ (left e : ℕ) (f : First left e) where
  -- a position below 64 is found in a word that is not 0
  pub taken_at : e < 64 → Taken left e
  taken_at small =
      let here = f.found small in
      let n : left ≡ 0 → ⊥ = λ q. none_member e (rw q at here) in
      record {
        small = small;
        here = here;
        some = omega arith;
        less = omega (arith, and_le_r left (left - 1));
        rest = λ j. let both = and_member left (left - 1) j in (
          λ m. let p = both.0 m in (p.0, λ (q : j ≡ e). omega (arith, rw q at p.1, at_first e left here f.none_below)),
          λ p.
              let no : j < e → ⊥ = λ l. f.none_below j l p.0 in
              let after : e < j = omega (arith, p.1) in
              both.1 (p.0, past_first e left j here f.none_below after ∙ p.0),
        );
      }

  pub taken : left < 2 ^ 64 → (left ≡ 0 → ⊥) → Taken left e
  taken fits some = let n : e ≡ 64 → ⊥ = λ q. some ((first_empty left e fits f).0 q) in taken_at (omega (arith, f.within))
