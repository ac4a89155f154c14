-- The grammars within the document's limits.
use Rattle.std.specs.Prelude.{ℕ, ◌-◌, ◌≤◌, ◌<◌, List, length, get_or}
use Rattle.derivation.specs.Grammar.{Rule, Grammar, rule_at}

-- each flag is 0 or 1
abbrev pub FlagsWithin : List ℕ → Type 0
FlagsWithin flags = (i : ℕ) → i < length flags → get_or flags i 0 ≤ 1

-- a symbol below 128 is a class of the grammar, another is category symbol - 128 of the grammar
pub record SymbolWithin (G : Grammar) (symbol : ℕ) : Type 0 where
  pub class : symbol < 128 → symbol < length G.classes
  pub category : 128 ≤ symbol → symbol - 128 < length G.categories

-- a rule: a left category of the grammar, 0 to 8 symbols, each of the grammar
pub record RuleWithin (G : Grammar) (r : Rule) : Type 0 where
  pub left : r.left < length G.categories
  pub long : length r.right ≤ 8
  pub symbols : (d : ℕ) → d < length r.right → SymbolWithin G (get_or r.right d 0)

-- 1 to 128 classes, 1 to 32 categories, flags of 0 or 1, 0 to 128 rules
pub record WithinLimits (G : Grammar) : Type 0 where
  pub some_class : 1 ≤ length G.classes
  pub classes : length G.classes ≤ 128
  pub class_flags : FlagsWithin G.classes
  pub some_category : 1 ≤ length G.categories
  pub categories : length G.categories ≤ 32
  pub category_flags : FlagsWithin G.categories
  pub rules : length G.rules ≤ 128
  pub each : (p : ℕ) → p < length G.rules → RuleWithin G (rule_at G p)
