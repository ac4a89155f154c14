-- The document's table of refusals: the number and the place of each cause.
use Rattle.std.specs.Prelude.{ℕ}
use Rattle.refusals.specs.declared.Row.{Row}
use Rattle.refusals.specs.declared.Refusal.{Refusal}
use Rattle.refusals.specs.declared.Refusal.TheVariants.{
  GrammarEndsEarly,
  CountOutsideLimits,
  FlagAboveOne,
  NotInGrammar,
  RuleRepeated,
  BytesAfterRules,
  LineTooLong,
  TokenNoClass,
  CategoryOutside,
  StartOutside,
  EndOutside,
  ChartTooSmall,
  DepthsTooSmall,
  TreeOfNoFact,
  MarksTooSmall,
  ForestTooSmall,
  TreeTooSmall,
  JobBadlyFormed,
}

abbrev no : ℕ → ℕ → Row
no number place = record { number = number; place = place }

abbrev pub row_of : Refusal → Row
row_of (GrammarEndsEarly length) = no 1 length
row_of (CountOutsideLimits at) = no 2 at
row_of (FlagAboveOne at) = no 3 at
row_of (NotInGrammar at) = no 4 at
row_of (RuleRepeated at) = no 14 at
row_of (BytesAfterRules at) = no 5 at
row_of LineTooLong = no 6 63
row_of (TokenNoClass token) = no 7 token
row_of CategoryOutside = no 8 0
row_of StartOutside = no 8 1
row_of EndOutside = no 8 2
row_of ChartTooSmall = no 9 0
row_of DepthsTooSmall = no 9 1
row_of TreeOfNoFact = no 10 0
row_of (MarksTooSmall needed) = no 11 needed
row_of (ForestTooSmall needed) = no 11 needed
row_of TreeTooSmall = no 11 0
row_of (JobBadlyFormed at) = no 13 at
