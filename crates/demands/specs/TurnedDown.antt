-- The document's table of refusals, said of a question: by which number and at which place it is turned down. Each case names what is right before it, in the document's order.
use Rattle.std.specs.Prelude.{ℕ, ◌≤◌, ◌<◌, ◌≡◌, ◌⊎◌, List, length, get_or}
use Rattle.refusals.specs.declared.Row.{Row}
use Rattle.derivation.specs.Grammar.{Grammar}
use Rattle.derivation.specs.Tree.{Tree}
use Rattle.derivation.specs.Fact.{Fact}
use Rattle.derivation.specs.Branch.{BranchValue, ForestIs}
use Rattle.derivation.specs.Node.{preorder}
use Rattle.derivation.specs.Choice.{Chosen}
use Rattle.checks.specs.Line.{IsLine, FirstNoClass}
use Rattle.checks.specs.Memory.{chart_size, depths_size}
use Rattle.grammar.specs.Limits.{WithinLimits}
use Rattle.grammar.specs.Repeats.{Distinct}
use Rattle.grammar.specs.Encoding.{encode}
use Rattle.grammar.specs.Beginning.{Refusing}
use Rattle.tree.specs.Bytes.{bytes}
use Rattle.forest.specs.declared.Branch.{Branch}
use Rattle.demands.specs.Question.{Input, Query, tree, marks, forest, numbers}

abbrev pub by : ℕ → ℕ → Row
by number place = record { number = number; place = place }

-- the numbers of refusals before the filling, and of those after it
abbrev pub EarlyNumber : ℕ → Type 0
EarlyNumber number = (number ≤ 9) ⊎ (number ≡ 14)

abbrev pub LateNumber : ℕ → Type 0
LateNumber number = (number ≡ 10) ⊎ (number ≡ 11)

-- the bytes are the encoding of G, a grammar within the limits whose rules all differ
pub record Encodes (G : Grammar) (g : List ℕ) : Type 0 where
  pub within : WithinLimits G
  pub distinct : Distinct G
  pub encoding : g ≡ encode G

-- of the numbers A, i, j that a question asks with, the one at this place is right: A is a category; i is on the line; j is on the line, and not before i
pub record RightNumber (categories n : ℕ) (asked : List ℕ) (place : ℕ) : Type 0 where
  pub category : place ≡ 0 → get_or asked 0 0 < categories
  pub start : place ≡ 1 → get_or asked 1 0 ≤ n
  pub end : place ≡ 2 → (get_or asked 1 0 ≤ get_or asked 2 0) × (get_or asked 2 0 ≤ n)

-- the lowest place at which a number is not right
pub record FirstWrong (categories n : ℕ) (asked : List ℕ) (place : ℕ) : Type 0 where
  pub inside : place < length asked
  pub wrong : ¬ RightNumber categories n asked place
  pub lowest : (k : ℕ) → k < place → RightNumber categories n asked k

-- all that is looked at before the filling is right: grammar, line, numbers, work memory
pub record AllRight (G : Grammar) (x : Input) (q : Query) : Type 0 where
  pub grammar : Encodes G x.grammar
  pub line : IsLine (length G.classes) x.line
  pub asked : (k : ℕ) → k < length (numbers q) → RightNumber (length G.categories) (length x.line) (numbers q) k
  pub words : chart_size (length G.categories) (length x.line) ≤ length x.words
  pub depths : depths_size (length G.categories) (length x.line) ≤ length x.depths

pub data TurnedDown (x : Input) : Query → Row → Type 0 where
  -- 1 to 5 and 14: where the bytes end early, at the first byte that is not right, or at the first rule that repeats an earlier one
  grammar_wrong : {q : Query} {row : Row} → Refusing x.grammar row → TurnedDown x q row
  -- 6: the line has over 63 tokens
  line_too_long : {q : Query} {G : Grammar} → Encodes G x.grammar → 63 < length x.line → TurnedDown x q (by 6 63)
  -- 7: token t is the first that is no class
  token_no_class : {q : Query} {G : Grammar} {t : ℕ} → Encodes G x.grammar → length x.line ≤ 63 → FirstNoClass (length G.classes) x.line t → TurnedDown x q (by 7 t)
  -- 8: a number that the question asks with is not right
  number_wrong : {q : Query} {G : Grammar} {place : ℕ} → Encodes G x.grammar → IsLine (length G.classes) x.line →
      FirstWrong (length G.categories) (length x.line) (numbers q) place → TurnedDown x q (by 8 place)
  -- 9: the chart memory is too small, or else the depth memory
  words_too_few : {q : Query} {G : Grammar} → Encodes G x.grammar → IsLine (length G.classes) x.line →
      ((k : ℕ) → k < length (numbers q) → RightNumber (length G.categories) (length x.line) (numbers q) k) →
      length x.words < chart_size (length G.categories) (length x.line) → TurnedDown x q (by 9 0)
  depths_too_few : {q : Query} {G : Grammar} → Encodes G x.grammar → IsLine (length G.classes) x.line →
      ((k : ℕ) → k < length (numbers q) → RightNumber (length G.categories) (length x.line) (numbers q) k) →
      chart_size (length G.categories) (length x.line) ≤ length x.words →
      length x.depths < depths_size (length G.categories) (length x.line) → TurnedDown x q (by 9 1)
  -- 10: a tree is asked of no fact
  tree_of_no_fact : {G : Grammar} {A i j : ℕ} {row : List ℕ} → AllRight G x (tree A i j row) → ¬ Fact G x.line A i j → TurnedDown x (tree A i j row) (by 10 0)
  -- 11: the room is too small; it must have a byte for each token, a row for each record, or the bytes of the chosen tree
  marks_too_small : {G : Grammar} {row : List ℕ} → AllRight G x (marks row) → length row < length x.line → TurnedDown x (marks row) (by 11 (length x.line))
  forest_too_small : {G : Grammar} {rows : List Branch} {records : List BranchValue} → AllRight G x (forest rows) →
      ForestIs G x.line records → length rows < length records → TurnedDown x (forest rows) (by 11 (length records))
  tree_too_small : {G : Grammar} {A i j : ℕ} {row : List ℕ} → AllRight G x (tree A i j row) →
      (t : Tree G x.line A i j) → Chosen t → length row < length (bytes (preorder t)) → TurnedDown x (tree A i j row) (by 11 0)
