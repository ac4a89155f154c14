-- That a job passes the chart's first checks over the work memory that the program lends: 512 words and 16,384 depths.
use Rattle.std.specs.Prelude.{ℕ, ◌≡◌, List, Ok}
use Rattle.checks.specs.declared.Asked.TheVariants.{Nothing}
use Rattle.grammar.specs.declared.view.Checked.{Checked}
use Rattle.grammar.specs.Reading.{read_of}
use Rattle.chart.specs.inner.Checked.{checked_of}

abbrev pub JobPasses : Checked → List ℕ → Type 0
JobPasses grammar line = checked_of (read_of grammar.view.bytes.now) line Nothing 512 16384 ≡ Ok grammar.view.sections
