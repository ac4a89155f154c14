-- The test of an example, computed: what is told, the work memory, and what is written, against the definitions.
use Rattle.std.proofs.Common.{Err, Ok, Result}
use Prim.Native.Nat.{ℕ, zero, suc, ◌+◌, ◌*◌, ◌^◌}
use mathlib.Core.Bool.{Bool, true, false, ◌&&◌, cond}
use mathlib.Core.List.{List, [], ◌∷◌, map, flatten}
use lib.ListN.{length, get_or}
use lib.Dec.{eqb, ltb}
use Rattle.refusals.specs.declared.Refusal.{Refusal}
use Rattle.refusals.specs.declared.Refusal.TheVariants.{TreeOfNoFact}
use Rattle.refusals.specs.Check.{Check}
use Rattle.refusals.specs.Row.{row_of}
use Rattle.refusals.specs.Told.{Told, answered, refused}
use Rattle.positions.specs.Member.{digit}
use Rattle.positions.specs.Count.{count_below}
use Rattle.positions.proofs.Extremes.{smallest_of, largest_of}
use Rattle.derivation.specs.Bound.{depth_bound, rounds_bound}
use Rattle.derivation.specs.Grammar.{Grammar}
use Rattle.derivation.specs.computed.Table.{Table, entry, is_found, depths, depth_of}
use Rattle.derivation.specs.computed.RoundsOf.{rounds_of}
use Rattle.derivation.specs.computed.FactCount.{total, fact_count}
use Rattle.derivation.specs.computed.Facts as is_fact
use Rattle.derivation.specs.Branch.{branch_numbers}
use Rattle.derivation.specs.Node.{NodeValue}
use Rattle.derivation.specs.computed.Marks as of-line
use Rattle.derivation.specs.computed.Shown.{shown}
use Rattle.derivation.specs.computed.Forest as records
use Rattle.checks.specs.Line.{line_check}
use Rattle.checks.specs.Question.{start_check, span_check}
use Rattle.grammar.specs.Reading.{read_of}
use Rattle.grammar.specs.Given.{sections_given, grammar_given}
use Rattle.tree.specs.Bytes.{node_bytes}
use Rattle.lines.specs.Lines.{text, line_of}
use Rattle.report.proofs.Examples.{document_job, document_output}
use Rattle.examples.specs.Entry.{Graded, Question, chart, ends, marks, tree, forest, Work, as_before, holding, Entry, outcome, no_facts, meets_bound, prints}
use Rattle.grammar.specs.declared.reading.Sections.{Sections}
use Rattle.examples.specs.Memory.{word_at, number_at}

-- every number below n passes
unfoldable pub every : (ℕ → Bool) → ℕ → Bool
every test zero = true
every test (suc n) = let rest = every test n in test n && rest

-- two lists of numbers are equal, and two lists of what such a list of numbers tells
unfoldable pub same : List ℕ → List ℕ → Bool
same [] [] = true
same [] (y ∷ ys) = false
same (x ∷ xs) [] = false
same (x ∷ xs) (y ∷ ys) = eqb x y && same xs ys

unfoldable pub same_by : {X : Type 0} → (X → List ℕ) → List X → List X → Bool
same_by f [] [] = true
same_by f [] (y ∷ ys) = false
same_by f (x ∷ xs) [] = false
same_by f (x ∷ xs) (y ∷ ys) = same (f x) (f y) && same_by f xs ys

-- what is told is the same
unfoldable pub same_told : Told → Told → Bool
same_told (answered xs) (answered ys) = same xs ys
same_told (answered xs) (refused row) = false
same_told (refused row) (answered ys) = false
same_told (refused row) (refused other) = eqb row.number other.number && eqb row.place other.place

unfoldable pub passes : Check → Bool
passes (Ok u) = true
passes (Err refusal) = false

-- nothing is written
unfoldable pub writes_nothing : Question → Bool
writes_nothing chart = true
writes_nothing (ends A i) = true
writes_nothing (marks new) = same new []
writes_nothing (tree A i j nodes) = same_by node_bytes nodes []
writes_nothing (forest branches) = same_by branch_numbers branches []

module _ (g line : List ℕ) where
  abbrev G : Grammar
  G = grammar_given g

  abbrev width : ℕ
  width = length line + 1

  -- end j of (A, i): the word's bit is set where it is a fact, and the depth kept is its depth, 0 where it is none
  unfoldable pub place_test : List Graded → Table → ℕ → ℕ → ℕ → Bool
  place_test facts t A i j =
      eqb (digit (word_at facts width (A * width + i)) j) (cond (is_found (entry t A i j)) 1 0)
      && eqb (number_at facts width ((A * width + i) * width + j)) (entry t A i j)

  -- the word of (A, i) has no bit past n, and each end passes
  unfoldable pub row_test : List Graded → Table → ℕ → ℕ → Bool
  row_test facts t A i = ltb (word_at facts width (A * width + i)) (2 ^ suc (length line)) && every (place_test facts t A i) (suc (length line))

  -- the chart and the depths are those of the line
  unfoldable pub work_test : List Graded → Bool
  work_test facts =
      let t = depths G line (rounds_bound G line) in
      every (λ A. every (row_test facts t A) (suc (length line))) (length G.categories)

  -- the nodes shown, or the refusal of what is no fact
  unfoldable pub tree_test : ℕ → ℕ → ℕ → List NodeValue → Told → Bool → Bool
  tree_test A i j nodes told true = same_by node_bytes nodes (shown G line A i j) && same_told told (answered (length nodes ∷ []))
  tree_test A i j nodes told false = same_by node_bytes nodes [] && same_told told (refused (row_of TreeOfNoFact))

  -- a question's own check, what is told and what is written
  unfoldable pub answer_test : List Graded → Question → Told → Bool
  answer_test facts chart told = same_told told (answered (rounds_of G line ∷ fact_count G line ∷ []))
  answer_test facts (ends A i) told =
      let row = word_at facts width (A * width + i) in
      passes (start_check (sections_given g).categories (length line) A i) && same_told told (answered (row ∷ count_below 64 row ∷ smallest_of row ∷ largest_of row ∷ []))
  answer_test facts (marks new) told = same new (of-line.marks G line) && same_told told (answered (total (λ t. get_or new t 0) (length line) ∷ []))
  answer_test facts (tree A i j nodes) told = passes (span_check (sections_given g).categories (length line) A i j) && tree_test A i j nodes told (is_fact.facts G line A i j)
  answer_test facts (forest branches) told = same_by branch_numbers branches (records.forest G line) && same_told told (answered (length branches ∷ []))

  -- an accepted grammar: the line passes, the work memory is filled, and the question is answered
  unfoldable pub filled_test : Question → Told → Work → Bool
  filled_test question told as_before = false
  filled_test question told (holding facts) = passes (line_check (sections_given g).classes line) && (work_test facts && answer_test facts question told)

  -- a refused grammar: its refusal is told, no work memory changes, and nothing is written
  unfoldable pub turned_test : Question → Told → Work → Refusal → Bool
  turned_test question told as_before refusal = writes_nothing question && same_told told (refused (row_of refusal))
  turned_test question told (holding facts) refusal = false

  unfoldable pub read_test : Question → Told → Work → Result Sections Refusal → Bool
  read_test question told work (Ok s) = filled_test question told work
  read_test question told work (Err refusal) = turned_test question told work refusal

-- an accepted grammar without rules
unfoldable pub no_facts_test : List ℕ → Result Sections Refusal → Bool
no_facts_test g (Ok s) = eqb (length (grammar_given g).rules) 0
no_facts_test g (Err refusal) = false

-- a fact's depth, which is not 0, is the computed one and the bound
unfoldable pub bound_test : List ℕ → List ℕ → Graded → Result Sections Refusal → Bool
bound_test g line fact (Ok s) =
    is_found fact.depth
    && (eqb (depth_of (grammar_given g) line fact.category fact.start fact.end) fact.depth
    && eqb fact.depth (depth_bound (grammar_given g) fact.start fact.end))
bound_test g line fact (Err refusal) = false

-- of what is printed: it is what crate report shows of the document's job
unfoldable pub test : Entry → Bool
test (outcome g line question told work) = read_test g line question told work (read_of g)
test (no_facts g) = no_facts_test g (read_of g)
test (meets_bound g line fact) = bound_test g line fact (read_of g)
test (prints input lines) = same input document_job && same (flatten (map (λ line. line_of line []) lines)) (text document_output)

-- every entry passes
unfoldable pub all : List Entry → Bool
all [] = true
all (e ∷ es) = test e && all es
