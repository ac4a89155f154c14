-- Where a rule's symbols can end, over what a chart holds.
use Rattle.std.specs.Prelude.{ℕ, ◌+◌, ◌-◌, ◌*◌, ◌≤◌, ◌<◌, ◌≡◌, ◌↔◌, ◌⊎◌, List, length, get_or}
use Rattle.positions.specs.Member.{Member}
use Rattle.derivation.specs.Grammar.{Grammar}
use Rattle.derivation.specs.inner.Within.{ChildrenWithin}
use Rattle.filling.specs.inner.Places.{Places}
use Rattle.filling.specs.inner.Holds.{HoldsAfter}

-- the rows of each category among the symbols are in the words
pub record Room (symbols words : List ℕ) (width : ℕ) : Type 0 where
  pub rows : (d : ℕ) → d < length symbols → 128 ≤ get_or symbols d 0 → (get_or symbols d 0 - 128) * width + width ≤ length words

-- the words, the places and the symbols are those of a grammar G and a line, within height h
pub record ChartOf (G : Grammar) (line : List ℕ) (h : ℕ) (symbols words places : List ℕ) (width : ℕ) : Type 0 where
  pub wide : width ≡ length line + 1
  pub placed : Places line places
  pub holds : HoldsAfter G line h words
  pub known : (d : ℕ) → d < length symbols → 128 ≤ get_or symbols d 0 → get_or symbols d 0 - 128 < length G.categories

-- r is the set of the ends of the symbols from i, for every chart that these words are
abbrev pub Reaches : List ℕ → List ℕ → List ℕ → ℕ → ℕ → ℕ → Type 0
Reaches symbols words places width i r =
    (G : Grammar) (line : List ℕ) (h : ℕ) → ChartOf G line h symbols words places width → (j : ℕ) → Member r j ↔ ChildrenWithin G line h symbols i j

-- the rows from base on gain the ends of the symbols from each start, and the other rows stay
pub record Applied (symbols words places : List ℕ) (base width : ℕ) (old new : List ℕ) : Type 0 where
  pub long : length new ≡ length old
  pub hit :
      (G : Grammar) (line : List ℕ) (h : ℕ) → ChartOf G line h symbols words places width → (i : ℕ) → i < width → (j : ℕ) →
      Member (get_or new (base + i) 0) j ↔ (Member (get_or old (base + i) 0) j ⊎ ChildrenWithin G line h symbols i j)
  pub miss : (q : ℕ) → (q < base) ⊎ (base + width ≤ q) → get_or new q 0 ≡ get_or old q 0
