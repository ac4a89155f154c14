-- What a test that passes tells.
use Rattle.std.proofs.Common.{Err, Ok}
use Prim.Native.Nat.{ℕ, zero, suc, ◌<◌}
use mathlib.Core.Path.{◌≡◌, refl, ap, ap₂}
use mathlib.Core.Bool.{Bool, true, false≢true}
use mathlib.Core.Logic.{⊎_elim}
use mathlib.Core.List.{List, [], ◌∷◌}
use native.Mathlib.Nat.{eq-or-lt_of_le, le_of_suc-le-suc, not-suc-le-zero}
use lib.Dec.{eqb}
use borrow.Author.Tests.{eqb-true}
use Rattle.refusals.specs.Check.{Check, nothing_wrong}
use Rattle.refusals.specs.Told.{Told, answered, refused}
use Rattle.derivation.specs.Node.{NodeValue}
use Rattle.derivation.specs.Branch.{BranchValue, branch_numbers}
use Rattle.derivation.proofs.Tests.{and_parts}
use Rattle.tree.specs.Bytes.{node_bytes}
use Rattle.examples.specs.Entry.{node, branch, refused_by}
use Rattle.examples.proofs.Test.{every, same, same_by, same_told, passes}

pub every_each : (f : ℕ → Bool) (n k : ℕ) → every f n ≡ true → k < n → f k ≡ true
unfolding every
every_each f zero k e l = absurd (not-suc-le-zero l)
every_each f (suc n) k e l =
    let p = and_parts (f n) (every f n) e in
    ⊎_elim (λ (q : k ≡ n). rw q p.0) (λ (m : k < n). every_each f n k p.1 m) (eq-or-lt_of_le (le_of_suc-le-suc l))

pub same_is : (xs ys : List ℕ) → same xs ys ≡ true → xs ≡ ys
unfolding same
same_is [] [] e = refl
same_is [] (y ∷ ys) e = absurd (false≢true e)
same_is (x ∷ xs) [] e = absurd (false≢true e)
same_is (x ∷ xs) (y ∷ ys) e = let p = and_parts (eqb x y) (same xs ys) e in ap₂ ◌∷◌ (eqb-true x y p.0) (same_is xs ys p.1)

pub same_by_lem : {X : Type 0} (f : X → List ℕ) → ((x y : X) → f x ≡ f y → x ≡ y) → (xs ys : List X) → same_by f xs ys ≡ true → xs ≡ ys
unfolding same_by
same_by_lem f one [] [] e = refl
same_by_lem f one [] (y ∷ ys) e = absurd (false≢true e)
same_by_lem f one (x ∷ xs) [] e = absurd (false≢true e)
same_by_lem f one (x ∷ xs) (y ∷ ys) e =
    let p = and_parts (same (f x) (f y)) (same_by f xs ys) e in
    ap₂ ◌∷◌ (one x y (same_is (f x) (f y) p.0)) (same_by_lem f one xs ys p.1)

-- the numbers of a node and of a record are its own
pub node_one : (x y : NodeValue) → node_bytes x ≡ node_bytes y → x ≡ y
node_one x y e = let z : node x.kind x.number x.start x.end ≡ node y.kind y.number y.start y.end = cc in z

pub branch_one : (x y : BranchValue) → branch_numbers x ≡ branch_numbers y → x ≡ y
branch_one x y e =
    let z : branch x.rule x.place x.start x.middle x.end ≡ branch y.rule y.place y.start y.middle y.end = cc in z

pub told_is : (a b : Told) → same_told a b ≡ true → a ≡ b
unfolding same_told
told_is (answered xs) (answered ys) e = ap answered (same_is xs ys e)
told_is (answered xs) (refused row) e = absurd (false≢true e)
told_is (refused row) (answered ys) e = absurd (false≢true e)
told_is (refused row) (refused other) e =
    let p = and_parts (eqb row.number other.number) (eqb row.place other.place) e in
    ap₂ refused_by (eqb-true row.number other.number p.0) (eqb-true row.place other.place p.1)

pub passes_is : (c : Check) → passes c ≡ true → c ≡ nothing_wrong
unfolding passes
passes_is (Ok u) e = refl
passes_is (Err refusal) e = absurd (false≢true e)
