-- The marks of a line, computed from the depths.
use Rattle.std.specs.Prelude.{ℕ, suc, Bool, ◌&&◌, ◌||◌, cond, List, length, get_or, eqb, ltb, leb}
use Rattle.derivation.specs.Grammar.{Grammar}
use Rattle.derivation.specs.computed.Search.{some}
use Rattle.derivation.specs.computed.Listing.{listed}
use Rattle.derivation.specs.computed.Table.{is_found, depth_of}

-- a fact of the category A covers token t
unfoldable pub covered : Grammar → List ℕ → ℕ → ℕ → Bool
covered g w t A = some (λ i. some (λ j. is_found (depth_of g w A i j) && (leb i t && ltb t j)) (suc (length w))) (suc (length w))

-- token t is secret
unfoldable pub secret : Grammar → List ℕ → ℕ → Bool
secret g w t =
    ltb t (length w)
    && (eqb (get_or g.classes (get_or w t 0) 0) 1
    || some (λ A. eqb (get_or g.categories A 0) 1 && covered g w t A) (length g.categories))

-- a byte for each token, 1 secret and 0 not
unfoldable pub marks : Grammar → List ℕ → List ℕ
marks g w = listed (λ t. cond (secret g w t) 1 0) 0 (length w)
