-- Where the line has each class.
use Rattle.std.specs.Prelude.{ℕ, ◌^◌, ◌<◌, ◌≡◌, ◌↔◌, List, length, get_or}
use Rattle.positions.specs.Member.{Member}

-- 128 words: word c is the set of the positions of the tokens of class c
pub record Places (line places : List ℕ) : Type 0 where
  pub long : length places ≡ 128
  pub small : (c : ℕ) → get_or places c 0 < 2 ^ 63
  pub holds : (c : ℕ) → c < 128 → (m : ℕ) → Member (get_or places c 0) m ↔ ((m < length line) × (get_or line m 0 ≡ c))
