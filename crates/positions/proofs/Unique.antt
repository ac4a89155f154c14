-- Any two outcomes that a contract allows are equal; the contracts of `member` and `count` are equations.
use mathlib.Core.Path.{◌≡◌, sym, ◌∙◌}
use mathlib.Core.Logic.{◌↔◌}
use mathlib.Core.List.{List}
use Prim.Native.Nat.{ℕ, ◌<◌}
use native.Mathlib.Omega.{arith}
use Rattle.positions.specs.Member.{Member}
use Rattle.positions.specs.With.{With}
use Rattle.positions.specs.First.{First}
use Rattle.positions.specs.Last.{Last}
use Rattle.positions.specs.BothEnds.{BothEnds, some, none}
use Rattle.positions.specs.Union.{InUnion, Union}
use Rattle.positions.specs.AfterClass.{InAfterClass, AfterClass}
use Rattle.positions.proofs.Members.{same_members}

-- two words whose members are described by the same P
pub described : (P : ℕ → Type 0) (r s : ℕ) → ((j : ℕ) → Member r j ↔ P j) → ((j : ℕ) → Member s j ↔ P j) → r ≡ s
described P r s p q = same_members r s (λ j. (λ m. (q j).1 ((p j).0 m), λ m. (p j).1 ((q j).0 m)))

pub with_unique : (set k r s : ℕ) → With set k r → With set k s → r ≡ s
with_unique set k r s p q = described _ r s p q

pub first_unique : (set r s : ℕ) → First set r → First set s → r ≡ s
first_unique set r s p q =
    let a : r < s → ⊥ = λ l. q.none_below r l (p.found (omega (arith, q.within))) in
    let b : s < r → ⊥ = λ l. p.none_below s l (q.found (omega (arith, p.within))) in
    omega arith

pub last_unique : (set r s : ℕ) → Last set r → Last set s → r ≡ s
last_unique set r s p q =
    let a : r < s → ⊥ = λ l. p.none_above s l q.found in
    let b : s < r → ⊥ = λ l. q.none_above r l p.found in
    omega arith

pub both_ends_unique : {set r s r' s' : ℕ} → BothEnds set r s → BothEnds set r' s' → (r ≡ r') × (s ≡ s')
both_ends_unique {r = r} {s = s} {r' = r'} {s' = s'} (some f l between) (some f' l' between') = (
  omega (arith, (between r' f').0, (between' r f).0),
  omega (arith, (between s' l').1, (between' s l).1),
)
both_ends_unique {r = r} (some f l between) (none n e e') = absurd (n r f)
both_ends_unique {r' = r'} (none n e e') (some f l between) = absurd (n r' f)
both_ends_unique (none n e e') (none n' d d') = (e ∙ sym d, e' ∙ sym d')

pub union_unique : (set : ℕ) (rows : List ℕ) (base from width r s : ℕ) → Union set rows base from width r → Union set rows base from width s → r ≡ s
union_unique set rows base from width r s p q = described (InUnion set rows base from width) r s p q

pub after_class_unique : (set places r s : ℕ) → AfterClass set places r → AfterClass set places s → r ≡ s
after_class_unique set places r s p q = described (InAfterClass set places) r s p q
