-- The bytes of a job: three sections, each after its count.
use Rattle.std.specs.Prelude.{ℕ, ◌/◌, ◌%◌, ◌≤◌, ◌<◌, List, [], ◌∷◌, ◌++◌, length}
use Rattle.derivation.specs.FactList.{Span, span_numbers}
use Rattle.grammar.specs.Reading.{byte}

-- a list of bytes
abbrev pub AreBytes : List ℕ → Type 0
AreBytes b = (i : ℕ) → byte b i < 256

-- a question: A, i, j
unfoldable pub encode_questions : List Span → List ℕ
encode_questions [] = []
encode_questions (q ∷ questions) = span_numbers q ++ encode_questions questions

-- a count of two bytes, low byte first
abbrev pub two_bytes : ℕ → List ℕ
two_bytes count = count % 256 ∷ count / 256 ∷ []

-- the grammar bytes, the line, the questions
unfoldable pub encode_job : List ℕ → List ℕ → List Span → List ℕ
encode_job grammar line questions =
    two_bytes (length grammar) ++ (grammar
    ++ ((length line ∷ line)
    ++ (length questions ∷ encode_questions questions)))

-- the counts fit their bytes, and the job is at most 4,096 bytes
pub record JobWithin (grammar line : List ℕ) (questions : List Span) : Type 0 where
  pub grammar_count_fits : length grammar ≤ 65535
  pub line_count_fits : length line ≤ 255
  pub question_count_fits : length questions ≤ 255
  pub whole : length (encode_job grammar line questions) ≤ 4096
