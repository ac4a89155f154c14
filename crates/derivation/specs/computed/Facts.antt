-- The facts of a line, computed: as a test, and as a list.
use Rattle.std.specs.Prelude.{ℕ, suc, List, length}
use Rattle.derivation.specs.Grammar.{Grammar}
use Rattle.derivation.specs.Bound.{rounds_bound}
use Rattle.derivation.specs.FactList.{Span}
use Rattle.derivation.specs.computed.Listing.{gathered, kept}
use Rattle.derivation.specs.computed.Round.{Known}
use Rattle.derivation.specs.computed.Table.{entry, is_found, depths}

-- the facts: which categories derive which stretches
unfoldable pub facts : Grammar → List ℕ → Known
facts g w = let t = depths g w (rounds_bound g w) in λ A i j. is_found (entry t A i j)

-- all that are facts: A below N, and i and j up to n
unfoldable pub fact_list : Grammar → List ℕ → List Span
fact_list g w =
    let known = facts g w in
    gathered (length g.categories) λ A.
    gathered (suc (length w)) λ i.
    gathered (suc (length w)) λ j.
    kept (λ s. known s.category s.start s.end) (record { category = A; start = i; end = j })
