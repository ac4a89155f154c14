-- Laws of `specs/Repeats.antt`: the tests say exactly when rules are equal, and when one of the earlier rules is this one.
use Prim.Native.Nat.{ℕ, ◌<◌}
use mathlib.Core.Path.{◌≡◌, refl, sym, ◌∙◌}
use mathlib.Core.Logic.{◌≢◌}
use mathlib.Core.Bool.{Bool, true, false, false≢true}
use mathlib.Core.List.{List, [], ◌∷◌}
use native.Mathlib.Omega.{arith}
use lib.ListN.{length, get_or, take}
use lib.Seq.{length-take-le, get_or-take}
use lib.Dec.{eqb}
use borrow.Author.Tests.{eqb-true, eq-eqb}
use Rattle.derivation.specs.Grammar.{Rule, Grammar, rule, rule_at}
use Rattle.derivation.proofs.Tests.{and_parts, and_both, some_found, some_here}
use Rattle.grammar.specs.Repeats.{same_symbols, same_rule, is_repeated, Repeats, Distinct}

symbols_equal : (x y : List ℕ) → same_symbols x y ≡ true → x ≡ y
unfolding same_symbols
symbols_equal [] [] e = refl
symbols_equal [] (b ∷ y) e = absurd (false≢true e)
symbols_equal (a ∷ x) [] e = absurd (false≢true e)
symbols_equal (a ∷ x) (b ∷ y) e =
    let both = and_parts (eqb a b) (same_symbols x y) e in
    rw (eqb-true a b both.0, symbols_equal x y both.1)

symbols_same : (x : List ℕ) → same_symbols x x ≡ true
unfolding same_symbols
symbols_same [] = refl
symbols_same (a ∷ x) = and_both (eq-eqb a a refl) (symbols_same x)

-- rules with the same parts are the same
pub same_parts : (x r : Rule) → x.left ≡ r.left → x.right ≡ r.right → x ≡ r
same_parts x r p q = λ i. record { left = p i; right = q i }

rule_equal : (x r : Rule) → same_rule x r ≡ true → x ≡ r
unfolding same_rule
rule_equal x r e =
    let both = and_parts (eqb x.left r.left) _ e in
    let rest = and_parts (eqb (length x.right) (length r.right)) (same_symbols x.right r.right) both.1 in
    same_parts x r (eqb-true x.left r.left both.0) (symbols_equal x.right r.right rest.1)

rule_same : (r : Rule) → same_rule r r ≡ true
unfolding same_rule
rule_same r = and_both (eq-eqb r.left r.left refl) (and_both (eq-eqb (length r.right) (length r.right) refl) (symbols_same r.right))

module _ (r : Rule) (earlier : List Rule) where
  -- a repeated rule is one of the earlier ones
  pub repeated_of : is_repeated r earlier ≡ true → (p : ℕ) × (p < length earlier) × (get_or earlier p (rule 0 []) ≡ r)
  unfolding is_repeated
  repeated_of e = let f = some_found _ (length earlier) e in (f.0, f.1, rule_equal _ r f.2)

  -- and each of those is repeated
  pub repeats_one : (p : ℕ) → p < length earlier → get_or earlier p (rule 0 []) ≡ r → is_repeated r earlier ≡ true
  unfolding is_repeated
  repeats_one p l e = some_here (λ q. same_rule (get_or earlier q (rule 0 [])) r) (length earlier) p l (rw e (rule_same r))

  pub repeated_not : is_repeated r earlier ≢ true → is_repeated r earlier ≡ false
  repeated_not n = go (is_repeated r earlier) refl
    where
      go : (t : Bool) → is_repeated r earlier ≡ t → t ≡ false
      go true e = absurd (n e)
      go false e = refl

  -- a rule that none of them equals is not
  pub repeats_none : ((p : ℕ) → p < length earlier → get_or earlier p (rule 0 []) ≢ r) → is_repeated r earlier ≡ false
  repeats_none none = repeated_not (λ e. let f = repeated_of e in none f.0 f.1 f.2)

-- whether a rule is one of the grammar's
pub repeats? : (G : Grammar) (r : Rule) → Dec (Repeats G r)
repeats? G r = go (is_repeated r G.rules) refl
  where
    go : (t : Bool) → is_repeated r G.rules ≡ t → Dec (Repeats G r)
    go true e = let f = repeated_of r G.rules e in yes (record { number = f.0; below = f.1; same = f.2 })
    go false e = no (λ u. false≢true (sym e ∙ repeats_one r G.rules u.number u.below u.same))

-- a rule of the grammar does not repeat those before it
pub distinct_new : (G : Grammar) → Distinct G → (q : ℕ) → q < length G.rules → is_repeated (rule_at G q) (take q G.rules) ≡ false
distinct_new G d q h =
    repeats_none (rule_at G q) (take q G.rules) (λ p l e. let k : p < q = rw (length-take-le q G.rules (omega arith)) at l in d p q k h (sym (get_or-take q G.rules p (rule 0 []) k) ∙ e))
