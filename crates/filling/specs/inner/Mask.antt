-- The categories on a rule's right side, as a set.
use Rattle.std.specs.Prelude.{ℕ, ◌≤◌, ◌<◌, ◌≡◌, ◌↔◌, List, length, get_or}
use Rattle.positions.specs.Member.{Member}
use Rattle.derivation.specs.Grammar.{Grammar, rule_at, Among}

-- the mask has the categories that stand among the symbols, 32 where none does, and nothing else
pub record MaskOf (symbols : List ℕ) (mask : ℕ) : Type 0 where
  pub category : (B : ℕ) → B < 32 → Member mask B ↔ Among symbols B
  pub none : Member mask 32 ↔ ((B : ℕ) → Among symbols B → ⊥)
  pub within : (B : ℕ) → Member mask B → B ≤ 32

-- 128 masks: mask p is that of rule p, and 0 past the last rule
pub record Masks (G : Grammar) (masks : List ℕ) : Type 0 where
  pub long : length masks ≡ 128
  pub each : (p : ℕ) → p < length G.rules → MaskOf (rule_at G p).right (get_or masks p 0)
  pub rest : (p : ℕ) → length G.rules ≤ p → get_or masks p 0 ≡ 0
