-- The document's ten starred examples, each with every question of which it says something.
use Rattle.std.specs.Prelude.{ℕ, List, [], ◌∷◌, ◌++◌}
use Prim.Native.String.{String}
use Rattle.refusals.specs.Told.{answered}
use Rattle.examples.specs.Entry.{Graded, Question, chart, ends, marks, tree, forest, as_before, holding, Entry, outcome, no_facts, meets_bound, prints, fact, node, branch, refused_by}

-- 1. The job: A → A 1 0 and A → 0, A secret
abbrev job_grammar : List ℕ
job_grammar = 3 ∷ 0 ∷ 0 ∷ 0 ∷ 1 ∷ 1 ∷ 2 ∷ 0 ∷ 3 ∷ 128 ∷ 1 ∷ 0 ∷ 0 ∷ 1 ∷ 0 ∷ []

abbrev job_line : List ℕ
job_line = 2 ∷ 0 ∷ 1 ∷ 0 ∷ 1 ∷ 0 ∷ []

abbrev job_facts : List Graded
job_facts = fact 0 1 2 1 ∷ fact 0 1 4 2 ∷ fact 0 1 6 3 ∷ fact 0 3 4 1 ∷ fact 0 3 6 2 ∷ fact 0 5 6 1 ∷ []

abbrev job_marks : List ℕ
job_marks = 0 ∷ 1 ∷ 1 ∷ 1 ∷ 1 ∷ 1 ∷ []

abbrev job_tree : Question
job_tree =
    tree 0 1 6
    (node 1 0 1 6
    ∷ node 1 0 1 4
    ∷ node 1 1 1 2
    ∷ node 0 0 1 2
    ∷ node 0 1 2 3
    ∷ node 0 0 3 4
    ∷ node 0 1 4 5
    ∷ node 0 0 5 6
    ∷ [])

abbrev job_forest : Question
job_forest =
    forest
    (branch 0 1 1 1 2 ∷ branch 0 1 1 1 4 ∷ branch 0 1 1 1 6 ∷ branch 0 1 3 3 4 ∷ branch 0 1 3 3 6 ∷ branch 0 1 5 5 6
    ∷ branch 0 2 1 2 3 ∷ branch 0 2 1 4 5 ∷ branch 0 2 3 4 5
    ∷ branch 0 3 1 3 4 ∷ branch 0 3 1 5 6 ∷ branch 0 3 3 5 6
    ∷ branch 1 1 1 1 2 ∷ branch 1 1 3 3 4 ∷ branch 1 1 5 5 6
    ∷ [])

-- the program's input: the grammar after its two-byte count, the line after its count, and one question, 0 1 6
abbrev job_input : List ℕ
job_input = 15 ∷ 0 ∷ (job_grammar ++ (6 ∷ (job_line ++ (1 ∷ 0 ∷ 1 ∷ 6 ∷ []))))

abbrev job_output : List String
job_output =
    "rounds 3 facts 6"
    ∷ "fact 0 1 2 1"
    ∷ "fact 0 1 4 2"
    ∷ "fact 0 1 6 3"
    ∷ "fact 0 3 4 1"
    ∷ "fact 0 3 6 2"
    ∷ "fact 0 5 6 1"
    ∷ "marks 011111"
    ∷ "tree 0 1 6"
    ∷ "node 1 0 1 6"
    ∷ "node 1 0 1 4"
    ∷ "node 1 1 1 2"
    ∷ "node 0 0 1 2"
    ∷ "node 0 1 2 3"
    ∷ "node 0 0 3 4"
    ∷ "node 0 1 4 5"
    ∷ "node 0 0 5 6"
    ∷ []

abbrev job : List Entry
job =
    -- rounds 3 facts 6
    outcome job_grammar job_line chart (answered (3 ∷ 6 ∷ [])) (holding job_facts)
    -- the row of (0, 1) is 84: three ends, the smallest 2 and the largest 6
    ∷ outcome job_grammar job_line (ends 0 1) (answered (84 ∷ 3 ∷ 2 ∷ 6 ∷ [])) (holding job_facts)
    -- marks 011111: five secret tokens
    ∷ outcome job_grammar job_line (marks job_marks) (answered (5 ∷ [])) (holding job_facts)
    -- tree 0 1 6: eight nodes
    ∷ outcome job_grammar job_line job_tree (answered (8 ∷ [])) (holding job_facts)
    -- 15 records
    ∷ outcome job_grammar job_line job_forest (answered (15 ∷ [])) (holding job_facts)
    -- what the program prints
    ∷ prints job_input job_output
    ∷ []

-- 2. The same grammar on the empty line: no fact, rounds 0
abbrev empty_line : List Entry
empty_line =
    outcome job_grammar [] chart (answered (0 ∷ 0 ∷ [])) (holding [])
    -- an empty row: no end, 255 for the smallest and for the largest
    ∷ outcome job_grammar [] (ends 0 0) (answered (0 ∷ 0 ∷ 255 ∷ 255 ∷ [])) (holding [])
    ∷ outcome job_grammar [] (marks []) (answered (0 ∷ [])) (holding [])
    ∷ outcome job_grammar [] (tree 0 0 0 []) (refused_by 10 0) (holding [])
    ∷ outcome job_grammar [] (forest []) (answered (0 ∷ [])) (holding [])
    ∷ []

-- 3. A → A and A → 0 on the line 0: one fact, depth 1, a tree of 2 nodes that uses rule 1, a forest of 2 records
abbrev circle_grammar : List ℕ
circle_grammar = 1 ∷ 0 ∷ 1 ∷ 0 ∷ 2 ∷ 0 ∷ 1 ∷ 128 ∷ 0 ∷ 1 ∷ 0 ∷ []

abbrev circle : List Entry
circle =
    outcome circle_grammar (0 ∷ []) chart (answered (1 ∷ 1 ∷ [])) (holding (fact 0 0 1 1 ∷ []))
    ∷ outcome circle_grammar (0 ∷ []) (tree 0 0 1 (node 1 1 0 1 ∷ node 0 0 0 1 ∷ [])) (answered (2 ∷ [])) (holding (fact 0 0 1 1 ∷ []))
    ∷ outcome circle_grammar (0 ∷ []) (forest (branch 0 1 0 0 1 ∷ branch 1 1 0 0 1 ∷ [])) (answered (2 ∷ [])) (holding (fact 0 0 1 1 ∷ []))
    ∷ []

-- 4. A → A alone on the line 0: no fact; the tree of (0, 0, 1) is 10, at 0
abbrev circle_alone : List Entry
circle_alone =
    outcome (1 ∷ 0 ∷ 1 ∷ 0 ∷ 1 ∷ 0 ∷ 1 ∷ 128 ∷ []) (0 ∷ []) chart (answered (0 ∷ 0 ∷ [])) (holding [])
    ∷ outcome (1 ∷ 0 ∷ 1 ∷ 0 ∷ 1 ∷ 0 ∷ 1 ∷ 128 ∷ []) (0 ∷ []) (tree 0 0 1 []) (refused_by 10 0) (holding [])
    ∷ []

-- 5. A → A 0 and A → empty on the line 0 0: (0, 0, 2) has depth 3, which meets the bound
abbrev left_grammar : List ℕ
left_grammar = 1 ∷ 0 ∷ 1 ∷ 0 ∷ 2 ∷ 0 ∷ 2 ∷ 128 ∷ 0 ∷ 0 ∷ 0 ∷ []

abbrev left_facts : List Graded
left_facts = fact 0 0 0 1 ∷ fact 0 0 1 2 ∷ fact 0 0 2 3 ∷ fact 0 1 1 1 ∷ fact 0 1 2 2 ∷ fact 0 2 2 1 ∷ []

abbrev left : List Entry
left =
    outcome left_grammar (0 ∷ 0 ∷ []) chart (answered (3 ∷ 6 ∷ [])) (holding left_facts)
    ∷ meets_bound left_grammar (0 ∷ 0 ∷ []) (fact 0 0 2 3)
    ∷ []

-- 6. A → empty and A → 0 A A on the line 0 0 0 0: from 0 the depths by length 0 to 4 are 1, 2, 3, 3, 4; 15 facts
abbrev twofold_grammar : List ℕ
twofold_grammar = 1 ∷ 0 ∷ 1 ∷ 0 ∷ 2 ∷ 0 ∷ 0 ∷ 0 ∷ 3 ∷ 0 ∷ 128 ∷ 128 ∷ []

abbrev twofold_facts : List Graded
twofold_facts =
    fact 0 0 0 1 ∷ fact 0 0 1 2 ∷ fact 0 0 2 3 ∷ fact 0 0 3 3 ∷ fact 0 0 4 4
    ∷ fact 0 1 1 1 ∷ fact 0 1 2 2 ∷ fact 0 1 3 3 ∷ fact 0 1 4 3
    ∷ fact 0 2 2 1 ∷ fact 0 2 3 2 ∷ fact 0 2 4 3
    ∷ fact 0 3 3 1 ∷ fact 0 3 4 2
    ∷ fact 0 4 4 1
    ∷ []

abbrev twofold : List Entry
twofold = outcome twofold_grammar (0 ∷ 0 ∷ 0 ∷ 0 ∷ []) chart (answered (4 ∷ 15 ∷ [])) (holding twofold_facts) ∷ []

-- 7. Secret A → empty on the line 0, class 0 ordinary: two facts, marks 0
abbrev secret_empty : List Entry
secret_empty =
    outcome (1 ∷ 0 ∷ 1 ∷ 1 ∷ 1 ∷ 0 ∷ 0 ∷ []) (0 ∷ []) chart (answered (1 ∷ 2 ∷ [])) (holding (fact 0 0 0 1 ∷ fact 0 1 1 1 ∷ []))
    ∷ outcome (1 ∷ 0 ∷ 1 ∷ 1 ∷ 1 ∷ 0 ∷ 0 ∷ []) (0 ∷ []) (marks (0 ∷ [])) (answered (0 ∷ [])) (holding (fact 0 0 0 1 ∷ fact 0 1 1 1 ∷ []))
    ∷ []

-- whatever the line and the numbers that are asked of a refused grammar, and whatever the one more byte
module _ (line : List ℕ) (A i j b : ℕ) where
  -- a refused grammar is refused to every question, and no lent memory changes
  abbrev refused_grammar : List ℕ → ℕ → ℕ → List Entry
  refused_grammar grammar number place =
      outcome grammar line chart (refused_by number place) as_before
      ∷ outcome grammar line (ends A i) (refused_by number place) as_before
      ∷ outcome grammar line (marks []) (refused_by number place) as_before
      ∷ outcome grammar line (tree A i j []) (refused_by number place) as_before
      ∷ outcome grammar line (forest []) (refused_by number place) as_before
      ∷ []

  -- 8. Grammar `0`: 2 at 0
  abbrev zero_classes : List Entry
  zero_classes = refused_grammar (0 ∷ []) 2 0

  -- 9. No bytes: 1 at 0
  abbrev no_bytes : List Entry
  no_bytes = refused_grammar [] 1 0

  -- 10. Grammar `1 0 1 0 0`: accepted, no fact on any line; with one more byte, 5 at 5
  abbrev no_rules : List Entry
  no_rules =
      no_facts (1 ∷ 0 ∷ 1 ∷ 0 ∷ 0 ∷ [])
      ∷ outcome (1 ∷ 0 ∷ 1 ∷ 0 ∷ 0 ∷ []) [] chart (answered (0 ∷ 0 ∷ [])) (holding [])
      ∷ outcome (1 ∷ 0 ∷ 1 ∷ 0 ∷ 0 ∷ []) (0 ∷ []) chart (answered (0 ∷ 0 ∷ [])) (holding [])
      ∷ refused_grammar (1 ∷ 0 ∷ 1 ∷ 0 ∷ 0 ∷ b ∷ []) 5 5

  unfoldable pub table : List Entry
  table = job ++ (empty_line ++ (circle ++ (circle_alone ++ (left ++ (twofold ++ (secret_empty ++ (zero_classes ++ (no_bytes ++ no_rules))))))))
