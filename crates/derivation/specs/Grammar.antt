-- A context-free grammar as a value: the document's three sections.
use Rattle.std.specs.Prelude.{ℕ, ◌+◌, ◌<◌, ◌≡◌, List, [], length, get_or}

-- left → right; a symbol below 128 is a class, one of 128 or more is category symbol - 128
pub record Rule : Type 0 where
  pub left : ℕ
  pub right : List ℕ

-- the classes' flags, the categories' flags and the rules: T, N and P are their lengths
pub record Grammar : Type 0 where
  pub classes : List ℕ
  pub categories : List ℕ
  pub rules : List Rule

abbrev pub rule : ℕ → List ℕ → Rule
rule A s = record { left = A; right = s }

-- rule p, numbered from 0; past the last rule, 0 → nothing
abbrev pub rule_at : Grammar → ℕ → Rule
rule_at g p = get_or g.rules p (rule 0 [])

-- rule p of the grammar is A → s
pub record IsRule (g : Grammar) (p A : ℕ) (s : List ℕ) : Type 0 where
  pub below : p < length g.rules
  pub from : (rule_at g p).left ≡ A
  pub to : (rule_at g p).right ≡ s

-- every rule's left category is one of the grammar's
pub record Proper (g : Grammar) : Type 0 where
  pub lefts : (p : ℕ) → p < length g.rules → (rule_at g p).left < length g.categories

-- category B stands among the symbols
abbrev pub Among : List ℕ → ℕ → Type 0
Among symbols B = (d : ℕ) × (d < length symbols) × (get_or symbols d 0 ≡ 128 + B)
