-- Rounds, the greatest depth, is one number, and is the round after which nothing is new.
use Prim.Native.Nat.{ℕ, zero, suc, ◌≤◌, ◌<◌, zero-le}
use mathlib.Core.Path.{◌≡◌}
use mathlib.Core.Bool.{true}
use mathlib.Core.List.{List}
use native.Mathlib.Nat.{le_trans, le_antisymm}
use native.Mathlib.Omega.{arith}
use lib.ListN.{length}
use Rattle.derivation.specs.Bound.{rounds_bound}
use Rattle.derivation.specs.Grammar.{Grammar, Proper}
use Rattle.derivation.specs.Depth.{Depth}
use Rattle.derivation.specs.Rounds.{RoundsIs}
use Rattle.derivation.specs.computed.Round.{within}
use Rattle.derivation.proofs.Within.{within_sound}
use Rattle.derivation.proofs.Bound.{stable}
use Rattle.derivation.proofs.Decide.{rounds_bound_lem}

rounds_below : {g : Grammar} {w : List ℕ} {r q : ℕ} → RoundsIs g w r → RoundsIs g w q → r ≤ q
rounds_below {r = zero} a b = zero-le
rounds_below {r = suc r} a b = let m = a.met (omega arith) in b.most m.0 m.1 m.2 (suc r) m.3

pub rounds_unique : {g : Grammar} {w : List ℕ} {r q : ℕ} → RoundsIs g w r → RoundsIs g w q → r ≡ q
rounds_unique a b = le_antisymm (rounds_below a b) (rounds_below b a)

module _ (g : Grammar) (w : List ℕ) (proper : Proper g) where
  -- round r found something, round r + 1 finds nothing new
  pub rounds_end :
      (r : ℕ) → ((A i j : ℕ) → A < length g.categories → i ≤ j → j ≤ length w → within g w (suc r) A i j ≡ true → within g w r A i j ≡ true) →
      (0 < r → (A : ℕ) × (i : ℕ) × (j : ℕ) × Depth g w A i j r) → RoundsIs g w r
  rounds_end r still met = record { most = most; met = met }
    where
      most : (A i j d : ℕ) → Depth g w A i j d → d ≤ r
      most A i j d p = let t = within_sound g w r A i j (stable g w proper r still p.tree) in le_trans (p.least t.tree) t.low

  pub rounds_most : {r : ℕ} → RoundsIs g w r → r ≤ rounds_bound g w
  rounds_most {r = zero} a = zero-le
  rounds_most {r = suc r} a = let m = a.met (omega arith) in rounds_bound_lem g w proper m.3
