-- The checks of a question: each by itself, from what the caller hands in.
use Rattle.std.specs.Prelude.{ℕ, List, length}
use Rattle.refusals.specs.Check.{Check, nothing_wrong}
use Rattle.refusals.specs.Order.{Checks}
use Rattle.checks.specs.declared.Asked.{Asked}
use Rattle.checks.specs.declared.Asked.TheVariants.{Nothing, Start}
use Rattle.checks.specs.Line.{line_check}
use Rattle.checks.specs.Question.{asked_check}
use Rattle.checks.specs.Memory.{work_check}
use Rattle.grammar.specs.Reading.{read_of}
use Rattle.grammar.specs.Given.{check_of, sections_in}

-- a question over grammar bytes, a line and work memory: the numbers that it asks with, and its own checks of a fact and of room
abbrev pub checks_of : (g line : List ℕ) → Asked → (words depths : List ℕ) → (fact room : Check) → Checks
checks_of g line asked words depths fact room =
    record {
      grammar = check_of (read_of g);
      line = line_check (sections_in (read_of g)).classes line;
      question = asked_check (sections_in (read_of g)).categories (length line) asked;
      memory = work_check (sections_in (read_of g)).categories (length line) (length words) (length depths);
      fact = fact;
      room = room;
    }

-- the chart question asks with no number
abbrev pub chart_checks : (g line words depths : List ℕ) → Checks
chart_checks g line words depths = checks_of g line Nothing words depths nothing_wrong nothing_wrong

-- ends asks with a category and a start
abbrev pub ends_checks : (g line : List ℕ) → (A i : ℕ) → (words depths : List ℕ) → Checks
ends_checks g line A i words depths = checks_of g line (Start A i) words depths nothing_wrong nothing_wrong
