-- The check of each lent row of work memory: what a line of n tokens needs.
use Rattle.std.specs.Prelude.{ℕ, ◌+◌, ◌*◌, ltb}
use Rattle.refusals.specs.declared.Refusal.TheVariants.{ChartTooSmall, DepthsTooSmall}
use Rattle.refusals.specs.Check.{Check}
use Rattle.refusals.specs.Order.{and_then}
use Rattle.checks.specs.Question.{refuse_if}

-- words of the chart: one for each category and start
abbrev pub chart_size : ℕ → ℕ → ℕ
chart_size categories n = categories * (n + 1)

-- numbers of the depths: one for each category, start and end
abbrev pub depths_size : ℕ → ℕ → ℕ
depths_size categories n = categories * (n + 1) * (n + 1)

abbrev pub chart_check : ℕ → ℕ → ℕ → Check
chart_check categories n words = refuse_if (ltb words (chart_size categories n)) ChartTooSmall

abbrev pub depths_check : ℕ → ℕ → ℕ → Check
depths_check categories n numbers = refuse_if (ltb numbers (depths_size categories n)) DepthsTooSmall

-- chart memory, then depth memory: the lowest place is reported
abbrev pub work_check : ℕ → ℕ → ℕ → ℕ → Check
work_check categories n words numbers = and_then (chart_check categories n words) (depths_check categories n numbers)
