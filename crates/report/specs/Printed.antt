-- What the program prints, for every input: the lines, the pieces that they make, and the pieces put together.
use Rattle.refusals.specs.declared.Refusal.{Refusal}
use Rattle.std.specs.Prelude.{ℕ, length, replicate, ltb, not, Result}
use mathlib.Core.List.{List, [], ◌∷◌, ◌++◌, map, flatten}
use Rattle.refusals.specs.Check.{Check}
use Rattle.refusals.specs.declared.Row.{Row}
use Rattle.refusals.specs.Told.{Told, answered, refused, check_told}
use Rattle.refusals.specs.declared.Refusal.TheVariants.{TreeOfNoFact, TreeTooSmall}
use Rattle.refusals.specs.Order.{and_then, early, reported}
use Rattle.derivation.specs.Grammar.{Grammar}
use Rattle.derivation.specs.computed.Table.{depth_of}
use Rattle.derivation.specs.computed.RoundsOf.{rounds_of}
use Rattle.derivation.specs.computed.FactCount.{fact_count}
use Rattle.derivation.specs.FactList.{Span, span_numbers}
use Rattle.derivation.specs.computed.Facts.{facts, fact_list}
use Rattle.derivation.specs.computed.Marks.{marks}
use Rattle.derivation.specs.Node.{NodeValue}
use Rattle.derivation.specs.computed.Shown.{shown}
use Rattle.grammar.specs.Given.{grammar_given}
use Rattle.chart.specs.Checks.{chart_checks}
use Rattle.checks.specs.Question.{refuse_if}
use Rattle.tree.specs.Bytes.{bytes}
use Rattle.tree.specs.Checks.{tree_checks}
use Rattle.report.specs.Job.{job_of, job_in, grammar_part, line_part, questions_part}
use Rattle.report.specs.Told.{job_told}
use Rattle.report.specs.declared.job.Job.{Job}
use Rattle.lines.specs.Lines.{numbered, rounds_and_facts, marks_of}

-- the program lends 512 words, 16,384 depths and 4,096 tree bytes
unfoldable pub lent_words : List ℕ
lent_words = replicate 512 0

unfoldable pub lent_depths : List ℕ
lent_depths = replicate 16384 0

unfoldable pub lent_tree : List ℕ
lent_tree = replicate 4096 0

-- refused number place
unfoldable pub refused_line : Row → List ℕ
refused_line row = numbered "refused" (row.number ∷ row.place ∷ [])

module _ (G : Grammar) (line : List ℕ) where
  -- rounds R facts F
  unfoldable pub rounds_line : List ℕ
  rounds_line = rounds_and_facts (rounds_of G line) (fact_count G line)

  -- fact A i j depth
  unfoldable pub fact_line : Span → List ℕ
  fact_line s = numbered "fact" (s.category ∷ s.start ∷ s.end ∷ depth_of G line s.category s.start s.end ∷ [])

  -- a line for each fact, ascending by A, i, j
  unfoldable pub fact_lines : List ℕ
  fact_lines = flatten (map fact_line (fact_list G line))

-- marks and a digit for each token
unfoldable pub marks_line : Grammar → List ℕ → List ℕ
marks_line G line = marks_of (marks G line)

-- node kind number start end
unfoldable pub node_line : NodeValue → List ℕ
node_line x = numbered "node" (x.kind ∷ x.number ∷ x.start ∷ x.end ∷ [])

-- what is found of a tree question, computed: the first checks, then whether it is asked of a fact, then the room for its bytes
abbrev pub tree_verdict : (g line : List ℕ) → (A i j : ℕ) → (words depths out : List ℕ) → Check
tree_verdict g line A i j words depths out =
    and_then (early (tree_checks g line A i j words depths))
    (and_then (refuse_if (not (facts (grammar_given g) line A i j)) TreeOfNoFact)
    (refuse_if (ltb (length out) (length (bytes (shown (grammar_given g) line A i j)))) TreeTooSmall))

-- where a refusal is told, its line in place of these
abbrev pub unless_refused : Told → List (List ℕ) → List (List ℕ)
unless_refused (refused row) these = refused_line row ∷ []
unless_refused (answered values) these = these

module _ (g line : List ℕ) where
  -- tree A i j, and a line for each node shown for this fact, or the refusal in place of the nodes
  unfoldable pub tree_lines : Span → List ℕ
  tree_lines q =
      numbered "tree" (span_numbers q)
      ++ flatten
      (unless_refused (check_told (tree_verdict g line q.category q.start q.end lent_words lent_depths lent_tree))
      (map node_line (shown (grammar_given g) line q.category q.start q.end)))

  -- the piece of rounds and facts with each fact, that of the marks, and one for each question
  unfoldable pub answer_pieces : List Span → List (List ℕ)
  answer_pieces questions =
      (rounds_line (grammar_given g) line ++ fact_lines (grammar_given g) line)
      ∷ marks_line (grammar_given g) line
      ∷ map tree_lines questions

  -- the chart's refusal as the only piece, or else the answers
  unfoldable pub chart_pieces : List Span → List (List ℕ)
  chart_pieces questions = unless_refused (check_told (reported (chart_checks g line lent_words lent_depths))) (answer_pieces questions)

-- the job's refusal as the only piece, or else what its chart leads to
abbrev pub job_pieces : List ℕ → Result Job Refusal → List (List ℕ)
job_pieces input reading =
    let job = job_in reading in
    unless_refused (job_told reading) (chart_pieces (grammar_part input job) (line_part input job) (questions_part input job))

-- what is printed, piece by piece
unfoldable pub pieces : List ℕ → List (List ℕ)
pieces input = job_pieces input (job_of input)

-- what is printed, the pieces put together
unfoldable pub printed : List ℕ → List ℕ
printed input = flatten (pieces input)
