-- The grammar that bytes stand for: its flags and its rules, numbered from 0, and where each rule stands.
use Rattle.std.specs.Prelude.{ℕ, zero, suc, ◌+◌, ◌≤◌, ◌<◌, ◌≡◌, true, List, [], ◌∷◌, length, take, drop, Ok}
use Rattle.derivation.specs.Grammar.{Rule, Grammar, rule_at}
use Rattle.grammar.specs.declared.reading.Sections.{Sections}
use Rattle.grammar.specs.Standing.{byte}
unfoldable pub use Rattle.grammar.specs.Standing.{standing}
pub use Rattle.grammar.specs.Standing.{after}
use Rattle.grammar.specs.Reading.{is_symbol, sections_of}

-- the bytes begin with three sections, which have these counts and offsets
abbrev pub Sectioned : List ℕ → Sections → Type 0
Sectioned g s = sections_of g ≡ Ok s

-- as many rules as `count`, from a position
unfoldable pub rules_at : List ℕ → ℕ → ℕ → List Rule
rules_at g zero at = []
rules_at g (suc count) at = standing g at ∷ rules_at g count (after g at)

-- where rule p stands, with rule 0 at a position
unfoldable pub start_of : List ℕ → ℕ → ℕ → ℕ
start_of g zero at = at
start_of g (suc p) at = start_of g p (after g at)

-- the grammar that the three sections stand for
unfoldable pub grammar_of : List ℕ → Sections → Grammar
grammar_of g s =
    record { classes = take s.classes (drop 1 g); categories = take s.categories (drop s.flags g); rules = rules_at g s.rules s.first }

-- a whole rule stands at a position
pub record Stands (g : List ℕ) (at : ℕ) : Type 0 where
  pub inside : after g at ≤ length g
  pub long : byte g (at + 1) ≤ 8

-- rule p stands at a position, and what it names is of the grammar
pub record Found (g : List ℕ) (s : Sections) (p at : ℕ) : Type 0 where
  pub place : at ≡ start_of g p s.first
  pub is : standing g at ≡ rule_at (grammar_of g s) p
  pub stands : Stands g at
  pub left : byte g at < s.categories
  pub symbols : (d : ℕ) → d < byte g (at + 1) → is_symbol s.classes s.categories (byte g (at + 2 + d)) ≡ true
