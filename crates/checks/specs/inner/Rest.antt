-- What is left to check of a question once its grammar is read: the line, the question's numbers, the work memory, in this order.
use Rattle.std.specs.Prelude.{ℕ, List, length}
use Rattle.refusals.specs.Check.{Check}
use Rattle.refusals.specs.Order.{and_then}
use Rattle.checks.specs.declared.Asked.{Asked}
use Rattle.checks.specs.Line.{line_check}
use Rattle.checks.specs.Question.{asked_check}
use Rattle.checks.specs.Memory.{work_check}

abbrev pub rest_check : (classes categories : ℕ) → List ℕ → Asked → (words numbers : ℕ) → Check
rest_check classes categories line asked words numbers =
    and_then (line_check classes line)
    (and_then (asked_check categories (length line) asked)
    (work_check categories (length line) words numbers))
