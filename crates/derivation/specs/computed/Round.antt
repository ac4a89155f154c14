-- One round, and what h rounds find: the facts that have a tree of height at most h, computed.
use Rattle.std.specs.Prelude.{ℕ, zero, suc, ◌-◌, Bool, false, ◌&&◌, ◌||◌, List, [], ◌∷◌, length, get_or, eqb, ltb, leb}
use Rattle.derivation.specs.Grammar.{Grammar, rule_at}
use Rattle.derivation.specs.computed.Search.{some}

-- which categories are known to derive which stretches
abbrev pub Known : Type 0
Known = ℕ → ℕ → ℕ → Bool

-- token i has class c
unfoldable pub token_is : List ℕ → ℕ → ℕ → Bool
token_is w c i = ltb c 128 && (ltb i (length w) && eqb (get_or w i 0) c)

-- a symbol derives i..j: a class that token i has derives i..i+1, and a category what is known of it
unfoldable pub child : List ℕ → Known → ℕ → ℕ → ℕ → Bool
child w known c i j = token_is w c i && eqb (suc i) j || leb 128 c && known (c - 128) i j

-- symbols derive consecutive stretches from i to j
unfoldable pub children : List ℕ → Known → List ℕ → ℕ → ℕ → Bool
children w known [] i j = eqb i j && leb i (length w)
children w known (c ∷ s) i j = some (λ m. let rest = children w known s m j in child w known c i m && rest) (suc j)

-- one round: some rule of A has symbols that derive i..j
unfoldable pub round : Grammar → List ℕ → Known → Known
round g w known A i j =
    some (λ p. eqb (rule_at g p).left A && children w known (rule_at g p).right i j) (length g.rules)

-- (A, i, j) has a tree of height at most h: what is known after h rounds
unfoldable pub within : Grammar → List ℕ → ℕ → Known
within g w zero = λ A i j. false
within g w (suc h) = round g w (within g w h)
