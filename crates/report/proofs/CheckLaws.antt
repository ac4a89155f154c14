-- What the chart question reports of a job, from what its first checks find over the work memory that the program lends.
use Rattle.std.proofs.Common.{Err}
use Rattle.refusals.specs.Check.{nothing_wrong}
use Prim.Native.Nat.{ℕ}
use mathlib.Core.Path.{◌≡◌}
use mathlib.Core.List.{List}
use lib.ListN.{length, length-replicate}
use Rattle.refusals.specs.declared.Refusal.{Refusal}
use Rattle.refusals.specs.Order.{reported}
use Rattle.checks.specs.declared.Asked.TheVariants.{Nothing}
use Rattle.grammar.specs.declared.reading.Sections.{Sections}
use Rattle.grammar.specs.Reading.{read_of}
use Rattle.chart.specs.inner.Checked.{checked_of}
use Rattle.chart.specs.Checks.{chart_checks}
use Rattle.chart.proofs.CheckLaws.{Passes, checked_refused, early_passed}
use Rattle.report.specs.Printed.{lent_words, lent_depths}

words_lent : length lent_words ≡ 512
unfolding lent_words
words_lent = length-replicate {A = ℕ} 512 0

depths_lent : length lent_depths ≡ 16384
unfolding lent_depths
depths_lent = length-replicate {A = ℕ} 16384 0

pub job_refused : (g line : List ℕ) (refusal : Refusal) → checked_of (read_of g) line Nothing 512 16384 ≡ Err refusal → reported (chart_checks g line lent_words lent_depths) ≡ Err refusal
job_refused g line refusal e = rw (checked_refused g line Nothing lent_words lent_depths nothing_wrong nothing_wrong refusal (rw (words_lent, depths_lent) e))

pub job_passed : {g line : List ℕ} {s : Sections} → Passes g line Nothing 512 16384 s → reported (chart_checks g line lent_words lent_depths) ≡ nothing_wrong
job_passed {g = g} {line = line} {s = s} passes = rw (early_passed {g = g} {line = line} {asked = Nothing} lent_words lent_depths {s = s} nothing_wrong nothing_wrong (rw (words_lent, depths_lent) passes))
