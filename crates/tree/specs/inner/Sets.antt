-- The sets of positions from which a rule's later symbols reach an end, as a memory tells them of any grammar whose chart and depths it keeps.
use Rattle.std.specs.Prelude.{ℕ, suc, ◌-◌, ◌≤◌, ◌<◌, ◌≡◌, ◌↔◌, Bool, true, false, List, length, get_or, drop, Option, Some, None}
use Rattle.positions.specs.Member.{Member}
use Rattle.derivation.specs.Grammar.{Grammar, Rule}
use Rattle.derivation.specs.inner.Within.{ChildWithin, ChildrenWithin}
use Rattle.tree.specs.declared.kept.Kept.{Kept}
use Rattle.tree.specs.declared.kept.Span.{Span}
use Rattle.tree.specs.declared.division.Below.{Below}
use Rattle.tree.specs.inner.Kept.{DepthsKept, RowsKept}

-- a symbol that is a category is one of the grammar's
abbrev pub CategoryKnown : Grammar → ℕ → Type 0
CategoryKnown G symbol = 128 ≤ symbol → symbol - 128 < length G.categories

-- the chart and the depths of the grammar on the line are in the memory
pub record WorkKept (G : Grammar) (k : Kept) : Type 0 where
  pub kept : DepthsKept G k.line.now k.depths.now
  pub rows : RowsKept G k.line.now k.words.now

-- r is the first position of which P holds, and none where it holds of none
abbrev pub FirstThat : (ℕ → Type 0) → Option ℕ → Type 0
FirstThat P None = (e : ℕ) → P e → ⊥
FirstThat P (Some r) = ((e : ℕ) → e < r → P e → ⊥) × P r

-- from m the symbol ends at e, a category with a depth of at most h, and e is in the set
abbrev pub Leads : Grammar → List ℕ → ℕ → ℕ → ℕ → ℕ → ℕ → Type 0
Leads G line h symbol set m e = Member set e × ChildWithin G line h symbol m e

-- r is the first end of the symbol from m that is in the set
abbrev pub FirstEnd : Below → (symbol set m : ℕ) → Option ℕ → Type 0
FirstEnd b symbol set m r =
    (G : Grammar) → WorkKept G b.kept → CategoryKnown G symbol → FirstThat (Leads G b.kept.line.now b.h symbol set m) r

-- r is the set of the positions from `start` on from which the symbol has an end in the set
abbrev pub Reaching : Grammar → List ℕ → (h symbol set start r : ℕ) → Type 0
Reaching G line h symbol set start r = (m : ℕ) → Member r m ↔ ((start ≤ m) × ((e : ℕ) × Leads G line h symbol set m e))

-- that of a class: the next position is in the set
abbrev pub ClassBefore : (line : List ℕ) → (class set start r : ℕ) → Type 0
ClassBefore line class set start r = (m : ℕ) → Member r m ↔ ((start ≤ m) × Member set (suc m) × (get_or line m 0 ≡ class))

pub record StartsBefore (b : Below) (symbol set start end r : ℕ) : Type 0 where
  pub inside : (m : ℕ) → Member r m → m ≤ end
  pub exact : (G : Grammar) → WorkKept G b.kept → CategoryKnown G symbol → Reaching G b.kept.line.now b.h symbol set start r

-- set d has the positions from `start` on from which the symbols from d on reach the end, for each d from 1 on
pub record Sets (b : Below) (symbols : List ℕ) (start end : ℕ) (sets : List ℕ) : Type 0 where
  pub inside : (d m : ℕ) → Member (get_or sets d 0) m → m ≤ end
  pub exact :
      (G : Grammar) → WorkKept G b.kept → ((d : ℕ) → d < length symbols → CategoryKnown G (get_or symbols d 0)) →
      (d : ℕ) → 0 < d → d ≤ length symbols → (m : ℕ) → Member (get_or sets d 0) m ↔ ((start ≤ m) × ChildrenWithin G b.kept.line.now b.h (drop d symbols) m end)

-- a test of a rule: one that passes is of the category, and where it has no symbols the span is empty; one that fails does not serve
pub record MayServe (k : Kept) (rule : Rule) (span : Span) (r : Bool) : Type 0 where
  pub passes : r ≡ true → (rule.left ≡ span.category) × (length rule.right ≡ 0 → span.start ≡ span.end)
  pub fails :
      r ≡ false → rule.left ≡ span.category → (G : Grammar) → RowsKept G k.line.now k.words.now → (0 < length rule.right → CategoryKnown G (get_or rule.right 0 0)) →
      (h : ℕ) → ChildrenWithin G k.line.now h rule.right span.start span.end → ⊥
