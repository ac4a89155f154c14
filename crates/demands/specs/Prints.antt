-- What the program prints for a job that was read, in the user's words.
use Rattle.std.specs.Prelude.{ℕ, ◌<◌, ◌≡◌, length, get_or}
use mathlib.Core.List.{List, [], ◌∷◌, ◌++◌, Memᴰ, map, flatten}
use Rattle.refusals.specs.declared.Row.{Row}
use Rattle.derivation.specs.Grammar.{Grammar}
use Rattle.derivation.specs.Tree.{Tree, height}
use Rattle.derivation.specs.Depth.{Depth}
use Rattle.derivation.specs.Rounds.{RoundsIs}
use Rattle.derivation.specs.FactList.{Span, span_numbers}
use Rattle.derivation.specs.Node.{preorder}
use Rattle.derivation.specs.Choice.{Chosen}
use Rattle.lines.specs.Lines.{numbered, rounds_and_facts, marks_of}
use Rattle.report.specs.declared.job.Job.{Job}
use Rattle.report.specs.Job.{grammar_part, line_part}
use Rattle.report.specs.Printed.{lent_words, lent_depths, lent_tree, refused_line, node_line}
use Rattle.demands.specs.Question.{Input, tree}
use Rattle.demands.specs.TurnedDown.{TurnedDown}
use Rattle.demands.specs.Textbook.{DerivedAre, MarksToken}

-- what a job hands to the questions: its grammar bytes and its line, and the memory that the program lends
abbrev pub job_input : List ℕ → Job → Input
job_input input job = record { grammar = grammar_part input job; line = line_part input job; words = lent_words; depths = lent_depths }

-- the text of rounds and facts: a line for each (A, i, j) such that A rewrites to the tokens of i..j, ascending, with its depth
pub record PrintsFacts (G : Grammar) (line text : List ℕ) : Type 0 where
  pub rounds : ℕ
  pub facts : List Span
  pub depth : Span → ℕ
  pub greatest : RoundsIs G line rounds
  pub derived : DerivedAre G line facts
  pub least : (s : Span) → Memᴰ s facts → Depth G line s.category s.start s.end (depth s)
  pub printed : text ≡ rounds_and_facts rounds (length facts) ++ flatten (map (λ s. numbered "fact" (s.category ∷ s.start ∷ s.end ∷ depth s ∷ [])) facts)

-- the text of the marks: a digit for each token
pub record PrintsMarks (G : Grammar) (line text : List ℕ) : Type 0 where
  pub marks : List ℕ
  pub long : length marks ≡ length line
  pub each : (t : ℕ) → t < length line → MarksToken G line t (get_or marks t 0)
  pub printed : text ≡ marks_of marks

-- the text of a question for the tree of (A, i, j): its numbers, then a line for each node of the chosen tree, whose height is the depth, or the refusal in their place
pub data PrintsTree (G : Grammar) (x : Input) (s : Span) (text : List ℕ) : Type 0 where
  refused_tree : (row : Row) → TurnedDown x (tree s.category s.start s.end lent_tree) row →
      text ≡ numbered "tree" (span_numbers s) ++ refused_line row → PrintsTree G x s text
  shown_tree : (t : Tree G x.line s.category s.start s.end) → Chosen t → Depth G x.line s.category s.start s.end (height t) →
      text ≡ numbered "tree" (span_numbers s) ++ flatten (map node_line (preorder t)) → PrintsTree G x s text

-- one text for each question, in their order
pub data PrintsTrees (G : Grammar) (x : Input) : List Span → List (List ℕ) → Type 0 where
  no_tree : PrintsTrees G x [] []
  then_tree : {s : Span} {rest : List Span} {text : List ℕ} {texts : List (List ℕ)} → PrintsTree G x s text → PrintsTrees G x rest texts → PrintsTrees G x (s ∷ rest) (text ∷ texts)

-- rounds and facts, the marks, the trees, and nothing else
pub record PrintsAnswers (G : Grammar) (x : Input) (questions : List Span) (output : List ℕ) : Type 0 where
  pub facts : List ℕ
  pub marks : List ℕ
  pub trees : List (List ℕ)
  pub facts_text : PrintsFacts G x.line facts
  pub marks_text : PrintsMarks G x.line marks
  pub trees_text : PrintsTrees G x questions trees
  pub whole : output ≡ facts ++ (marks ++ flatten trees)
