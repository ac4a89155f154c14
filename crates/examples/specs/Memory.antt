-- The memory that an example's outcome means, over any old contents.
use Rattle.std.specs.Prelude.{ℕ, ◌+◌, ◌*◌, ◌^◌, ◌≤◌, cond, List, [], ◌∷◌, ◌++◌, length, drop, eqb}
use Rattle.derivation.specs.computed.Listing.{listed}
use Rattle.checks.specs.Memory.{chart_size, depths_size}
use Rattle.grammar.specs.Given.{grammar_given}
use Rattle.examples.specs.Entry.{Graded, Work, as_before, holding}

-- the word at q: bit j for each of the facts (A, i, j) with A×width+i = q, other bits clear
unfoldable pub word_at : List Graded → ℕ → ℕ → ℕ
word_at [] width q = 0
word_at (f ∷ facts) width q = cond (eqb (f.category * width + f.start) q) (2 ^ f.end) 0 + word_at facts width q

-- the number at q: the depth of the fact (A, i, j) with (A×width+i)×width+j = q, 0 where there is none
unfoldable pub number_at : List Graded → ℕ → ℕ → ℕ
number_at [] width q = 0
number_at (f ∷ facts) width q = cond (eqb ((f.category * width + f.start) * width + f.end) q) f.depth (number_at facts width q)

-- a lent row that begins with what is written, and past it has its old contents
abbrev pub overwritten : {X : Type 0} → List X → List X → List X
overwritten new row = new ++ drop (length new) row

-- N, the number of categories; 0 where the grammar is refused
abbrev pub category_count : List ℕ → ℕ
category_count g = length (grammar_given g).categories

module _ (g line : List ℕ) where
  -- work memory of sufficient size, of any contents
  pub record Lent (words depths : List ℕ) : Type 0 where
    pub words_enough : chart_size (category_count g) (length line) ≤ length words
    pub depths_enough : depths_size (category_count g) (length line) ≤ length depths

  -- N×(n+1) words
  abbrev pub words_after : Work → List ℕ → List ℕ
  words_after as_before words = words
  words_after (holding facts) words = overwritten (listed (word_at facts (length line + 1)) 0 (chart_size (category_count g) (length line))) words

  -- N×(n+1)×(n+1) depths
  abbrev pub depths_after : Work → List ℕ → List ℕ
  depths_after as_before depths = depths
  depths_after (holding facts) depths = overwritten (listed (number_at facts (length line + 1)) 0 (depths_size (category_count g) (length line))) depths
