-- The forest of a line, computed: all (p, d, i, m, j), ascending, that pass one test.
use Rattle.std.specs.Prelude.{ℕ, suc, ◌-◌, Bool, ◌&&◌, List, length, get_or, take, ltb, leb}
use Rattle.derivation.specs.Grammar.{Grammar, rule_at}
use Rattle.derivation.specs.computed.Listing.{gathered, kept}
use Rattle.derivation.specs.computed.Round.{Known, child, children}
use Rattle.derivation.specs.computed.Facts.{facts}
use Rattle.derivation.specs.Branch.{BranchValue}

-- b is a record, where what is known is the facts
unfoldable pub is_branch : Grammar → List ℕ → Known → BranchValue → Bool
is_branch g w known b =
    ltb b.rule (length g.rules)
    && (leb 1 b.place
    && (leb b.place (length (rule_at g b.rule).right)
    && (children w known (take (b.place - 1) (rule_at g b.rule).right) b.start b.middle
    && child w known (get_or (rule_at g b.rule).right (b.place - 1) 0) b.middle b.end)))

-- all that pass the test: p below P, d up to rule p's length, and i, m and j up to n
unfoldable pub passing : Grammar → List ℕ → (BranchValue → Bool) → List BranchValue
passing g w test =
    gathered (length g.rules) λ p.
    gathered (suc (length (rule_at g p).right)) λ d.
    gathered (suc (length w)) λ i.
    gathered (suc (length w)) λ m.
    gathered (suc (length w)) λ j.
    kept test (record { rule = p; place = d; start = i; middle = m; end = j })

unfoldable pub forest : Grammar → List ℕ → List BranchValue
forest g w = passing g w (is_branch g w (facts g w))
