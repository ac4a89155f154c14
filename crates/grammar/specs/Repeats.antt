-- When a rule repeats another one: they are equal in left category, length and symbols.
use Rattle.std.specs.Prelude.{ℕ, ◌<◌, ◌≡◌, ◌≢◌, Bool, true, false, ◌&&◌, List, [], ◌∷◌, length, get_or, eqb}
use Rattle.derivation.specs.Grammar.{Rule, Grammar, rule, rule_at}
use Rattle.derivation.specs.computed.Search.{some}

-- symbol by symbol the same
unfoldable pub same_symbols : List ℕ → List ℕ → Bool
same_symbols [] [] = true
same_symbols [] (y ∷ ys) = false
same_symbols (x ∷ xs) [] = false
same_symbols (x ∷ xs) (y ∷ ys) = eqb x y && same_symbols xs ys

unfoldable pub same_rule : Rule → Rule → Bool
same_rule x r = eqb x.left r.left && (eqb (length x.right) (length r.right) && same_symbols x.right r.right)

-- one of the earlier rules, whichever, is the same
unfoldable pub is_repeated : Rule → List Rule → Bool
is_repeated r earlier = some (λ p. same_rule (get_or earlier p (rule 0 [])) r) (length earlier)

-- the rule is one of the grammar's
pub record Repeats (G : Grammar) (r : Rule) : Type 0 where
  pub number : ℕ
  pub below : number < length G.rules
  pub same : rule_at G number ≡ r

-- no rule of the grammar equals an earlier one
abbrev pub Distinct : Grammar → Type 0
Distinct G = (p q : ℕ) → p < q → q < length G.rules → rule_at G p ≢ rule_at G q
