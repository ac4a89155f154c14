-- No refusal has number 12.
use mathlib.Core.Path.{◌≡◌}
use native.Mathlib.Omega.{arith}
use Rattle.refusals.specs.declared.Refusal.{Refusal}
use Rattle.refusals.specs.declared.Refusal.TheVariants as refusal
use Rattle.refusals.specs.Row.{row_of}

pub twelve_unused : (r : Refusal) → (row_of r).number ≡ 12 → ⊥
twelve_unused (refusal.GrammarEndsEarly length) e = omega arith
twelve_unused (refusal.CountOutsideLimits at) e = omega arith
twelve_unused (refusal.FlagAboveOne at) e = omega arith
twelve_unused (refusal.NotInGrammar at) e = omega arith
twelve_unused (refusal.RuleRepeated at) e = omega arith
twelve_unused (refusal.BytesAfterRules at) e = omega arith
twelve_unused refusal.LineTooLong e = omega arith
twelve_unused (refusal.TokenNoClass token) e = omega arith
twelve_unused refusal.CategoryOutside e = omega arith
twelve_unused refusal.StartOutside e = omega arith
twelve_unused refusal.EndOutside e = omega arith
twelve_unused refusal.ChartTooSmall e = omega arith
twelve_unused refusal.DepthsTooSmall e = omega arith
twelve_unused refusal.TreeOfNoFact e = omega arith
twelve_unused (refusal.MarksTooSmall needed) e = omega arith
twelve_unused (refusal.ForestTooSmall needed) e = omega arith
twelve_unused refusal.TreeTooSmall e = omega arith
twelve_unused (refusal.JobBadlyFormed at) e = omega arith
