-- The depths of all facts, computed round by round; 0 where there is no fact.
use Rattle.std.specs.Prelude.{ℕ, zero, suc, ◌<◌, Bool, true, false, ◌&&◌, List, [], length, get_or, leb}
use Rattle.derivation.specs.Grammar.{Grammar}
use Rattle.derivation.specs.Bound.{rounds_bound}
use Rattle.derivation.specs.computed.Listing.{listed}
use Rattle.derivation.specs.Tree.{Tree, height}
use Rattle.derivation.specs.Depth.{Depth}
use Rattle.derivation.specs.computed.Round.{round}

-- a number for each category, start and end
abbrev pub Table : Type 0
Table = List (List (List ℕ))

abbrev pub entry : Table → ℕ → ℕ → ℕ → ℕ
entry t A i j = get_or (get_or (get_or t A []) i []) j 0

unfoldable pub table : Grammar → List ℕ → (ℕ → ℕ → ℕ → ℕ) → Table
table g w f = listed (λ A. listed (λ i. listed (λ j. f A i j) 0 (suc (length w))) 0 (suc (length w))) 0 (length g.categories)

unfoldable pub is_found : ℕ → Bool
is_found zero = false
is_found (suc d) = true

-- d is a depth found in the first h rounds: what a round may use while it writes its own
unfoldable pub seen : ℕ → ℕ → Bool
unfolding is_found
seen h d = is_found d && leb d h

-- a depth once found stays; what this round finds has the round's number
unfoldable pub grade : ℕ → Bool → ℕ → ℕ
grade (suc d) found h = suc d
grade zero true h = h
grade zero false h = zero

unfoldable pub depths : Grammar → List ℕ → ℕ → Table
depths g w zero = []
depths g w (suc h) =
    let old = depths g w h in
    table g w (λ A i j. grade (entry old A i j) (round g w (λ A i j. is_found (entry old A i j)) A i j) (suc h))

-- the depth of (A, i, j), 0 where it is no fact
unfoldable pub depth_of : Grammar → List ℕ → ℕ → ℕ → ℕ → ℕ
depth_of g w A i j = entry (depths g w (rounds_bound g w)) A i j

-- the number kept for (A, i, j) after h rounds: its depth where that is at most h, and else 0
pub data DepthAfter (g : Grammar) (w : List ℕ) (h A i j : ℕ) : ℕ → Type 0 where
  not_yet : ((t : Tree g w A i j) → h < height t) → DepthAfter g w h A i j 0
  found : {d : ℕ} → d < h → Depth g w A i j (suc d) → DepthAfter g w h A i j (suc d)
