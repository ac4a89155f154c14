-- The bytes of a grammar: three sections, each after its one-byte count.
use Rattle.std.specs.Prelude.{ℕ, List, [], ◌∷◌, ◌++◌, length}
use Rattle.derivation.specs.Grammar.{Rule, Grammar}

-- a rule: its left category, its length, its symbols
abbrev pub encode_rule : Rule → List ℕ
encode_rule r = r.left ∷ (length r.right ∷ r.right)

unfoldable pub encode_rules : List Rule → List ℕ
encode_rules [] = []
encode_rules (r ∷ rs) = encode_rule r ++ encode_rules rs

-- the classes' flags, the categories' flags, the rules
unfoldable pub encode : Grammar → List ℕ
encode G =
    (length G.classes ∷ G.classes)
    ++ ((length G.categories ∷ G.categories)
    ++ (length G.rules ∷ encode_rules G.rules))
