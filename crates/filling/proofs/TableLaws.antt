-- The tables that are worked out before the first round, made one entry at a time.
use Prim.Native.Nat.{ℕ, ◌+◌, ◌-◌, ◌≤◌, ◌<◌}
use mathlib.Core.Path.{◌≡◌, refl, ap, ◌∙◌}
use mathlib.Core.Logic.{inr, ⊎_elim, ◌↔◌}
use mathlib.Core.List.{List, ◌++◌, map}
use native.Mathlib.Decide.{ℕ_discrete, dec_lt}
use native.Mathlib.Omega.{arith}
use lib.ListN.{length, get_or, set, take, drop, replicate, length-append, length-drop, get_or-append, length-map, length-replicate, get_or-replicate, get_or-map, get_or-eq_default}
use lib.Seq.{get_or-set_same, get_or-set_other}
use Rattle.positions.specs.Member.{Member}
use Rattle.positions.specs.With.{With}
use Rattle.positions.proofs.Members.{none_member, some_member, word_below}
use Rattle.std.proofs.lemmas.List.{get_or-take, length-take, get_or-append_right, get_or-drop}
use Rattle.derivation.specs.Grammar.{rule_at, Among}
use Rattle.grammar.specs.declared.reading.Sections.{Sections}
use Rattle.grammar.specs.Value.{Sectioned, grammar_of, standing, start_of, Found}
use Rattle.grammar.specs.inner.Starts.{Starts}
use Rattle.grammar.proofs.Accepted.{whole, found}
use Rattle.grammar.proofs.Encoded.{rule_count_lem, sections_within}
use Rattle.filling.specs.inner.Places.{Places}
use Rattle.filling.specs.inner.Mask.{MaskOf, Masks}
use Rattle.filling.specs.declared.tables.MaskedRule.{MaskedRule}

-- an array of one value has it at every place, also past its end
same_at : {A : Type 0} (n q : ℕ) (a : A) → get_or (replicate n a) q a ≡ a
same_at n q a = elim (dec_lt q n) [ yes l ↦ get_or-replicate n q a a l | no l ↦ get_or-eq_default (replicate n a) a (rw (length-replicate n a) (omega arith)) ]

pub zeros_at : (n q : ℕ) → ◌≡◌ {A = ℕ} (get_or (replicate n 0) q 0) 0
zeros_at n q = same_at n q 0

-- one entry is written: what holds of the new entry, and of the old ones at the other places, holds at every place
pub set_each :
    {A : Type 0} (P : ℕ → A → Type 0) (l : List A) (i : ℕ) (d a : A) → i < length l → P i a → ((q : ℕ) → (q ≡ i → ⊥) → P q (get_or l q d)) → (q : ℕ) → P q (get_or (set l i a) q d)
set_each P l i d a h new old q =
    elim (ℕ_discrete q i) [ yes e ↦ rw (e, get_or-set_same l i a d h) new | no n ↦ rw (get_or-set_other l i q a d n) (old q n) ]

-- word c is the set of the positions, below m, of the tokens of class c
pub record PlacesBelow (line : List ℕ) (m : ℕ) (places : List ℕ) : Type 0 where
  pub long : length places ≡ 128
  pub holds : (c k : ℕ) → Member (get_or places c 0) k ↔ ((k < m) × (get_or line k 0 ≡ c))

module _ (line : List ℕ) where
  pub places_none : PlacesBelow line 0 (replicate 128 0)
  places_none = record {
    long = refl;
    holds = λ c k. rw (zeros_at 128 c) (λ h. absurd (none_member k h), λ h. absurd (omega (arith, h.0)));
  }

  pub places_all : (places : List ℕ) → length line ≤ 63 → PlacesBelow line (length line) places → Places line places
  places_all places h x = record {
    long = x.long;
    small = λ c. word_below (get_or places c 0) 63 (λ k j. omega (arith, ((x.holds c k).0 j).0));
    holds = λ c l k. x.holds c k;
  }

-- the mask has the categories that stand among the first d symbols
pub record MaskBelow (symbols : List ℕ) (d mask : ℕ) : Type 0 where
  pub holds : (B : ℕ) → Member mask B ↔ ((e : ℕ) × (e < d) × (get_or symbols e 0 ≡ 128 + B))

module _ (symbols : List ℕ) where
  pub mask_none : MaskBelow symbols 0 0
  mask_none = record { holds = λ B. (λ h. absurd (none_member B h), λ h. absurd (omega (arith, h.1))) }

  -- no category stands among the symbols
  pub mask_empty : (word : ℕ) → MaskBelow symbols (length symbols) 0 → With 0 32 word → MaskOf symbols word
  mask_empty word x new = record {
    category = λ B l. (λ j. absurd (omega (arith, only B j)), λ s. absurd (clear B s));
    none = (λ j. clear, λ n. (new 32).1 (inr refl));
    within = λ B j. omega (arith, only B j);
  }
    where
      clear : (B : ℕ) → Among symbols B → ⊥
      clear B s = none_member B ((x.holds B).1 s)

      only : (B : ℕ) → Member word B → B ≡ 32
      only B j = ⊎_elim (λ o. absurd (none_member B o)) (λ e. e) ((new B).0 j)

  -- some category stands among the symbols
  pub mask_some : (mask : ℕ) → ((d : ℕ) → d < length symbols → get_or symbols d 0 < 160) → 0 < mask → MaskBelow symbols (length symbols) mask → MaskOf symbols mask
  mask_some mask known p x = record {
    category = λ B l. x.holds B;
    none = (λ j. absurd (omega (arith, small 32 j)), λ n. let m = some_member mask p in absurd (n m.0 ((x.holds m.0).0 m.1)));
    within = λ B j. omega (arith, small B j);
  }
    where
      small : (B : ℕ) → Member mask B → B < 32
      small B j = let s = (x.holds B).0 j in omega (arith, s.2, known s.0 s.1)

-- past the last rule
abbrev pub no_rule : MaskedRule
no_rule = record { at = 0; mask = 0 }

-- a rule that stands at a position, with the mask of what stands there
pub record MaskedAt (g : List ℕ) (at : ℕ) (r : MaskedRule) : Type 0 where
  pub place : r.at ≡ at
  pub mask : MaskOf (standing g at).right r.mask

module _ (g : List ℕ) (first : ℕ) where
  -- the rules before p stand one after the other, with their masks
  pub record RulesBefore (p : ℕ) (rules : List MaskedRule) : Type 0 where
    pub each : (q : ℕ) → q < p → MaskedAt g (start_of g q first) (get_or rules q no_rule)

  pub rules_before_none : (rules : List MaskedRule) → RulesBefore 0 rules
  rules_before_none rules = record { each = λ q l. absurd (omega arith) }

  pub rules_before_more :
      (p at mask : ℕ) (rules : List MaskedRule) → p < length rules → at ≡ start_of g p first → MaskOf (standing g at).right mask → RulesBefore p rules →
      RulesBefore (p + 1) (set rules p (record { at = at; mask = mask }))
  rules_before_more p at mask rules h e m x = record {
    each = set_each (λ q r. q < p + 1 → MaskedAt g (start_of g q first) r) rules p no_rule (record { at = at; mask = mask }) h (λ l. record { place = e; mask = rw e at m }) (λ q n l. x.each q (omega arith));
  }

-- there are at most 128
pub rules_few : (g : List ℕ) (s : Sections) → Sectioned g s → s.rules ≤ 128
rules_few g s read = (whole g s read).rules_high

-- all rules of read sections, and none past them
module _ (g : List ℕ) (s : Sections) (read : Sectioned g s) (rules : List MaskedRule) (long : length rules ≡ s.rules) (x : RulesBefore g s.first s.rules rules) where
  abbrev pub table : List MaskedRule
  table = rules ++ drop s.rules (replicate 128 no_rule)

  table_long : length table ≡ 128
  table_long = omega (arith, (whole g s read).rules_high, long, length-append rules (drop s.rules (replicate 128 no_rule)), length-drop s.rules (replicate 128 no_rule), length-replicate 128 no_rule)

  here : (p : ℕ) → p < s.rules → MaskedAt g (start_of g p s.first) (get_or table p no_rule)
  here p l = rw (get_or-append rules (drop s.rules (replicate 128 no_rule)) no_rule p (omega arith)) (x.each p l)

  past : (p : ℕ) → s.rules ≤ p → get_or table p no_rule ≡ no_rule
  past p l = get_or-append_right rules (drop s.rules (replicate 128 no_rule)) s.rules p no_rule long l ∙ get_or-drop s.rules (replicate 128 no_rule) (p - s.rules) no_rule ∙ same_at 128 (s.rules + (p - s.rules)) no_rule

  pub rules_start : Starts g s (map (λ (r : MaskedRule). r.at) table)
  rules_start = record {
    long = length-map table (λ (r : MaskedRule). r.at) ∙ table_long;
    found = λ p l. rw (get_or-map (λ (r : MaskedRule). r.at) table p no_rule ∙ (here p l).place) (found g s read p l);
    rest = λ p l. get_or-map (λ (r : MaskedRule). r.at) table p no_rule ∙ ap (λ (r : MaskedRule). r.at) (past p l);
  }

  pub rules_masked : Masks (grammar_of g s) (map (λ (r : MaskedRule). r.mask) table)
  rules_masked = record {
    long = length-map table (λ (r : MaskedRule). r.mask) ∙ table_long;
    each = λ p h.
        let l : p < s.rules = rw (rule_count_lem g s read) at h in
        rw (← (found g s read p l).is, get_or-map (λ (r : MaskedRule). r.mask) table p no_rule) (here p l).mask;
    rest = λ p h.
        let l : s.rules ≤ p = rw (rule_count_lem g s read) at h in
        get_or-map (λ (r : MaskedRule). r.mask) table p no_rule ∙ ap (λ (r : MaskedRule). r.mask) (past p l);
  }

-- rule p of those that stand at the starts: where it stands, and its mask
pub record RuleThere (g : List ℕ) (s : Sections) (rules : List MaskedRule) (p : ℕ) (r : MaskedRule) : Type 0 where
  pub below : p < s.rules
  pub found : Found g s p r.at
  pub mask : get_or (map (λ (r : MaskedRule). r.mask) rules) p 0 ≡ r.mask

pub rule_there :
    (g : List ℕ) (s : Sections) (rules : List MaskedRule) → Starts g s (map (λ (r : MaskedRule). r.at) rules) → (p : ℕ) → p < length (take s.rules rules) →
    RuleThere g s rules p (get_or (take s.rules rules) p no_rule)
rule_there g s rules st p h =
    let l : p < s.rules = omega (arith, length-take s.rules rules) in
    let e = get_or-take s.rules rules p no_rule l in
    record {
      below = l;
      found = rw (e, ← get_or-map (λ (r : MaskedRule). r.at) rules p no_rule) (st.found p l);
      mask = rw e (get_or-map (λ (r : MaskedRule). r.mask) rules p no_rule);
    }

-- a symbol of a rule is a class below 128 or a category below 32
module _ (g : List ℕ) (s : Sections) (e : Sectioned g s) where
  pub symbol_below : (p : ℕ) → p < s.rules → (d : ℕ) → d < length (rule_at (grammar_of g s) p).right → get_or (rule_at (grammar_of g s) p).right d 0 < 160
  symbol_below p l d h =
      let w = sections_within g s e in
      let k = (w.each p (rw (rule_count_lem g s e) l)).symbols d h in
      elim (dec_lt (get_or (rule_at (grammar_of g s) p).right d 0) 128) [ yes b ↦ omega arith | no b ↦ omega (arith, k.category (omega arith), w.categories) ]
