-- The memory of a category, and jumps from member to member of a set.
use Prim.Native.Nat.{ℕ, suc, ◌+◌, ◌-◌, ◌*◌, ◌≤◌, ◌<◌}
use mathlib.Core.Path.{◌≡◌, refl, subst}
use mathlib.Core.Logic.{◌↔◌, ◌⊎◌, inl, inr, ⊎_elim}
use mathlib.Core.Bool.{Bool, false, not}
use mathlib.Core.List.{List, [], ◌∷◌}
use native.Mathlib.Nat.{le_trans, lt_of_lt_of_le, mul-le-mul_right}
use native.Mathlib.Decide.{ℕ_discrete}
use native.Mathlib.Omega.{arith}
use lib.Bits.{bit_and}
use lib.ListN.{length, get_or}
use lib.Dec.{eqb}
use borrow.Author.Tests.{eqb-true, not-false}
use Rattle.positions.specs.Member.{Member}
use Rattle.positions.specs.With.{With}
use Rattle.positions.proofs.Members.{none_member}
use Rattle.positions.proofs.Taking.{Taken}
use Rattle.derivation.specs.Grammar.{Grammar, Rule}
use Rattle.derivation.specs.Tree.{Children, stop}
use Rattle.derivation.specs.inner.Within.{ChildWithin, ChildrenWithin}
use Rattle.derivation.proofs.Prefix.{within_then, within_category}
use Rattle.checks.specs.Memory.{chart_size, depths_size}
use Rattle.filling.proofs.RowLaws.{row_inside}
use Rattle.tree.specs.declared.kept.Kept.{Kept}
use Rattle.tree.specs.declared.kept.Span.{Span}
use Rattle.tree.specs.inner.Kept.{row_kept, RowsKept}
use Rattle.tree.specs.inner.Sets.{CategoryKnown, ClassBefore, MayServe}

-- the place of a depth is in the memory
pub depth_place : (n numbers A i j : ℕ) → i ≤ n → j ≤ n → depths_size (suc A) n ≤ numbers → (A * (n + 1) + i) * (n + 1) + j < numbers
depth_place n numbers A i j a b room =
    lt_of_lt_of_le (row_inside (A * (n + 1) + i) (suc A * (n + 1)) (n + 1) j (row_inside A (suc A) (n + 1) i (omega arith) (omega arith)) (omega arith)) room

-- the rows and the depths of one category are among those of all
pub rows_inside : (categories n words A : ℕ) → A < categories → chart_size categories n ≤ words → chart_size (suc A) n ≤ words
rows_inside categories n words A l room = le_trans (mul-le-mul_right (n + 1) l) room

pub depths_inside : (categories n numbers A : ℕ) → A < categories → depths_size categories n ≤ numbers → depths_size (suc A) n ≤ numbers
depths_inside categories n numbers A l room = le_trans (mul-le-mul_right (n + 1) (mul-le-mul_right (n + 1) l)) room

-- the set's members that have left are tried, and those whose token before has the class have their starts
pub record ClassTurn (line : List ℕ) (class set start left starts : ℕ) : Type 0 where
  pub low : left ≤ set
  pub part : (e : ℕ) → Member left e → Member set e
  pub tried : (m : ℕ) → Member starts m ↔ ((start ≤ m) × Member set (suc m) × (Member left (suc m) → ⊥) × (get_or line m 0 ≡ class))

module _ (line : List ℕ) (class set start : ℕ) where
  pub class_none : ClassTurn line class set start set 0
  class_none = record { low = omega arith; part = λ e m. m; tried = λ m. (λ h. absurd (none_member m h), λ h. absurd (h.2 h.1)) }

  module _ (left starts e : ℕ) (t : Taken left e) (turn : ClassTurn line class set start left starts) where
    -- one that was tried before stays so
    tried_before : (m : ℕ) → Member starts m → (start ≤ m) × Member set (suc m) × (Member (bit_and left (left - 1)) (suc m) → ⊥) × (get_or line m 0 ≡ class)
    tried_before m h = let p = (turn.tried m).0 h in (p.0, p.1, λ k. p.2 ((t.rest (suc m)).0 k).0, p.3)

    -- one that is tried now is e, or was tried before
    tried_now : (m : ℕ) → (start ≤ m) × Member set (suc m) × (Member (bit_and left (left - 1)) (suc m) → ⊥) × (get_or line m 0 ≡ class) → (suc m ≡ e) ⊎ Member starts m
    tried_now m p = go (ℕ_discrete (suc m) e)
      where
        go : Dec (suc m ≡ e) → (suc m ≡ e) ⊎ Member starts m
        go (yes q) = inl q
        go (no n) = inr ((turn.tried m).1 (p.0, p.1, λ k. p.2 ((t.rest (suc m)).1 (k, n)), p.3))

    pub class_more : (starts' : ℕ) → start < e → get_or line (e - 1) 0 ≡ class → With starts (e - 1) starts' → ClassTurn line class set start (bit_and left (left - 1)) starts'
    class_more starts' l q w = record {
      low = omega (arith, turn.low, t.less);
      part = λ x m. turn.part x ((t.rest x).0 m).0;
      tried = λ m. (
        λ h. ⊎_elim (tried_before m)
            (λ (z : m ≡ e - 1). let y : suc (e - 1) ≡ e = omega arith in rw (z, y) (omega arith, turn.part e t.here, λ k. ((t.rest e).0 k).1 refl, q))
            ((w m).0 h),
        λ p. (w m).1 (⊎_elim (λ (z : suc m ≡ e). inr (omega arith)) inl (tried_now m p)),
      );
    }

    pub class_skip : (start < e → get_or line (e - 1) 0 ≡ class → ⊥) → ClassTurn line class set start (bit_and left (left - 1)) starts
    class_skip n = record {
      low = omega (arith, turn.low, t.less);
      part = λ x m. turn.part x ((t.rest x).0 m).0;
      tried = λ m. (
        tried_before m,
        λ p. ⊎_elim (λ (z : suc m ≡ e). let y : e - 1 ≡ m = omega arith in absurd (n (omega (arith, p.0)) (rw y p.3))) (λ h. h) (tried_now m p),
      );
    }

  pub class_all : (starts : ℕ) → ClassTurn line class set start 0 starts → ClassBefore line class set start starts
  class_all starts turn m = (λ x. let p = (turn.tried m).0 x in (p.0, p.1, p.3), λ p. (turn.tried m).1 (p.0, p.1, none_member (suc m), p.2))

-- no symbols derive only nothing, and of others the first has an end
pub none_within : {G : Grammar} {line : List ℕ} {h i j : ℕ} → ChildrenWithin G line h [] i j → i ≡ j
none_within v = go v.children
  where
    go : {G : Grammar} {line : List ℕ} {i j : ℕ} → Children G line [] i j → i ≡ j
    go (stop l) = refl

first_ends : {G : Grammar} {line : List ℕ} {h i j : ℕ} (symbols : List ℕ) → 0 < length symbols → ChildrenWithin G line h symbols i j → (e : ℕ) × ChildWithin G line h (get_or symbols 0 0) i e
first_ends [] l v = absurd (omega arith)
first_ends (c ∷ s) l v = let a = within_then v in (a.0, a.1)

-- a rule's test, by what it finds
module _ (k : Kept) (rule : Rule) (span : Span) where
  module _ (l : rule.left ≡ span.category) (some : 0 < length rule.right) where
    serve_first : (r : Bool) → (r ≡ false → (G : Grammar) → RowsKept G k.line.now k.words.now → CategoryKnown G (get_or rule.right 0 0) → (h e : ℕ) → ChildWithin G k.line.now h (get_or rule.right 0 0) span.start e → ⊥) →
        MayServe k rule span r
    serve_first r n = record {
      passes = λ q. (l, λ z. absurd (omega arith));
      fails = λ q y G rows known h v. let a = first_ends rule.right some v in n q G rows (known some) h a.0 a.1;
    }

    pub serve_row : 128 ≤ get_or rule.right 0 0 → span.start ≤ length k.line.now → MayServe k rule span (not (eqb (row_kept k (get_or rule.right 0 0 - 128) span.start) 0))
    serve_row high a = serve_first _ (λ q G rows known h e v.
        none_member e (subst (λ (x : ℕ). Member x e) (eqb-true _ 0 (not-false _ q)) ((rows _ span.start (known high) a e).1 (within_category high v).tree)))
