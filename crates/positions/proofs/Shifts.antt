-- Insertion by `1 << k`, and the step over a class by `<< 1`: no shift loses a digit.
use mathlib.Core.Path.{◌≡◌, sym, subst, ◌∙◌}
use mathlib.Core.Logic.{inl, inr, ⊎_elim}
use Prim.Native.Nat.{ℕ, zero, suc, ◌*◌, ◌%◌, ◌^◌, ◌<◌}
use native.Mathlib.Nat.{one-mul}
use native.Mathlib.Omega.{arith}
use lib.Dec.{lit<}
use lib.Pow.{shl_exact}
use lib.Bits.{bit_or, bit_and, and_le_r}
use Rattle.positions.specs.With.{With}
use Rattle.positions.specs.AfterClass.{AfterClass}
use Rattle.positions.proofs.Digits.{double_zero, double_suc}
use Rattle.positions.proofs.Members.{one_member, or_member, and_member}

one_shifted : (k : ℕ) → k < 64 → (1 * 2 ^ k) % 2 ^ 64 ≡ 2 ^ k
one_shifted k h = shl_exact 1 k 64 (lit< tt) (omega arith) ∙ one-mul (2 ^ k)

with_one : (set k : ℕ) → With set k (bit_or set (2 ^ k))
with_one set k j = (
  λ h. ⊎_elim inl (λ m. inr ((one_member k j).0 m)) ((or_member set (2 ^ k) j).0 h),
  λ h. (or_member set (2 ^ k) j).1 (⊎_elim inl (λ e. inr ((one_member k j).1 e)) h),
)

pub with_shift : (set k : ℕ) → k < 64 → With set k (bit_or set ((1 * 2 ^ k) % 2 ^ 64))
with_shift set k h = subst (λ (y : ℕ). With set k (bit_or set y)) (sym (one_shifted k h)) (with_one set k)

common_shifted : (set places : ℕ) → places < 2 ^ 63 → (bit_and set places * 2 ^ 1) % 2 ^ 64 ≡ bit_and set places * 2
common_shifted set places h = shl_exact 63 1 64 (omega (arith, and_le_r set places)) (omega arith)

-- what the set and the places share, each position moved on by one
after_double : (set places : ℕ) → AfterClass set places (bit_and set places * 2)
after_double set places zero = (λ m. absurd (omega (arith, double_zero (bit_and set places))), λ v. absurd (omega (arith, v.next)))
after_double set places (suc j) = (
  λ m.
      let b = (and_member set places j).0 (sym (double_suc (bit_and set places) j) ∙ m) in
      record { mid = j; chosen = b.0; classed = b.1; next = omega arith },
  λ v.
      let e : j ≡ v.mid = omega (arith, v.next) in
      double_suc (bit_and set places) j ∙ (and_member set places j).1 (rw e v.chosen, rw e v.classed),
)

pub after_shift : (set places : ℕ) → places < 2 ^ 63 → AfterClass set places ((bit_and set places * 2 ^ 1) % 2 ^ 64)
after_shift set places h = subst (λ (y : ℕ). AfterClass set places y) (sym (common_shifted set places h)) (after_double set places)
