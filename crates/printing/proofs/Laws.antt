-- Pieces written one after the other, and how printing ends.
use Prim.Native.Nat.{ℕ, zero, suc, ◌+◌, ◌≤◌, ◌<◌}
use mathlib.Core.Path.{◌≡◌, refl, sym, ◌∙◌, ap}
use mathlib.Core.Bool.{Bool, true, false}
use mathlib.Core.List.{List, [], ◌∷◌}
use native.Mathlib.Omega.{arith}
use native.Mathlib.Numerals.{add-one}
use borrow.Author.Tests.{lt-ltb, ltb-true, ltb-false}
use lib.ListN.{length, get_or, take}
use lib.Dec.{ltb}
use Rattle.std.specs.Prelude.{Result, Ok, Err}
use Rattle.std.proofs.Common.{true≢false}
use Rattle.tree.specs.Bytes.{wrote}
use Rattle.report.specs.Printed.{pieces}
use Rattle.report.proofs.PieceLaws.{pieces_some}
use Rattle.printing.specs.declared.Unwritten.{Unwritten}
use Rattle.printing.specs.Ended.{wrote_each, asked, written, more, Ended}

-- the next piece is written
wrote_next : (row : List ℕ) (all : List (List ℕ)) (k : ℕ) → k < length all → wrote (wrote_each row (take k all)) 0 (get_or all k []) ≡ wrote_each row (take (suc k) all)
unfolding wrote_each
wrote_next row [] k h = absurd (omega arith)
wrote_next row (piece ∷ others) zero h = refl
wrote_next row (piece ∷ others) (suc k) h = wrote_next (wrote row 0 piece) others k (omega arith)

-- so many pieces were asked for, and the row holds them; whether another follows
pub record Reached (input row row' : List ℕ) (count : ℕ) (others : Bool) : Type 0 where
  pub within : count ≤ length (pieces input)
  pub follows : others ≡ ltb count (length (pieces input))
  pub holds : row' ≡ wrote_each row (take count (pieces input))

-- at first there is one to ask for
pub reached_none : (input row : List ℕ) → Reached input row row 0 true
unfolding wrote_each
reached_none input row = record { within = omega arith; follows = sym (lt-ltb _ _ (pieces_some input)); holds = refl }

-- the next is asked for
pub reached_next :
    {input row out out' : List ℕ} {a b : ℕ} {some others : Bool} → Reached input row out a some → some ≡ true → b ≡ a + 1 → others ≡ ltb (a + 1) (length (pieces input)) →
    out' ≡ wrote out 0 (get_or (pieces input) a []) → Reached input row out' b others
reached_next {input} {row} {out} {out'} {a} {b} r more next e written =
    let there = ltb-true _ _ (sym r.follows ∙ more) in
    record {
      within = omega arith;
      follows = e ∙ ap (λ (n : ℕ). ltb n (length (pieces input))) (sym next);
      holds = written ∙ ap (λ (row : List ℕ). wrote row 0 (get_or (pieces input) a [])) r.holds ∙ wrote_next _ _ _ there
          ∙ ap (λ (n : ℕ). wrote_each row (take n (pieces input))) (sym (next ∙ add-one a));
    }

-- none follows: printing ends there
pub ended_whole : {input row out : List ℕ} {count : ℕ} {others : Bool} → Reached input row out count others → others ≡ false → Ended input row out (Ok count)
ended_whole {input} {row} {out} {count} r none =
    let last = ltb-false count (length (pieces input)) (sym r.follows ∙ none) in
    record {
      whole = λ written. omega arith;
      some = omega (arith, pieces_some input);
      within = r.within;
      follows = sym none ∙ r.follows;
      holds = r.holds;
    }

-- the last of them could not be written: it ends there too
pub ended_unwritten : {input row out : List ℕ} {end : Unwritten} → Reached input row out (end.number + 1) end.more → Ended input row out (Err end)
ended_unwritten r = record {
  whole = λ written. absurd (true≢false (sym written));
  some = omega arith;
  within = r.within;
  follows = r.follows;
  holds = r.holds;
}

-- as many pieces asked for, and the last one written or not: printing ends in one way
same_end : (x y : Result ℕ Unwritten) → asked x ≡ asked y → written x ≡ written y → more x ≡ more y → x ≡ y
same_end (Ok a) (Ok b) e f g = ap (λ (n : ℕ). Ok n) e
same_end (Ok a) (Err b) e f g = cc
same_end (Err a) (Ok b) e f g = cc
same_end (Err a) (Err b) e f g =
    let same : a.number ≡ b.number = omega arith in
    ap (λ (n : ℕ). Err (unwritten n a.more)) same ∙ ap (λ (m : Bool). Err (unwritten b.number m)) g
  where
    unwritten : ℕ → Bool → Unwritten
    unwritten n m = record { number = n; more = m }

pub ended_unique :
    {input row a b : List ℕ} {x y : Result ℕ Unwritten} →
    Ended input row a x → Ended input row b y → asked x ≡ asked y → written x ≡ written y → (a ≡ b) × (x ≡ y)
ended_unique {input} {row} p q e f = (
  p.holds ∙ ap (λ (n : ℕ). wrote_each row (take n (pieces input))) e ∙ sym q.holds,
  same_end _ _ e f (p.follows ∙ ap (λ (n : ℕ). ltb n (length (pieces input))) e ∙ sym q.follows),
)
