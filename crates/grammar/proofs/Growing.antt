-- A beginning grows by each byte that is right, so bytes are right to their end, or up to a first byte that is not, or up to a rule that repeats one.
use Prim.Native.Nat.{ℕ, suc, ◌-◌, ◌≤◌, ◌<◌}
use mathlib.Core.Path.{◌≡◌, sym, ◌∙◌}
use mathlib.Core.List.{List, [], ◌∷◌, ◌++◌, append_assoc, append-nil}
use native.Mathlib.Decide.{dec_le, dec_lt}
use native.Mathlib.Omega.{arith}
use lib.ListN.{length, get_or, length-append, get_or-append}
use lib.Seq.{get_or-append_seam}
use Rattle.derivation.specs.Grammar.{Rule, Grammar, rule}
use Rattle.grammar.specs.Limits.{SymbolWithin, RuleWithin, WithinLimits}
use Rattle.grammar.specs.Repeats.{Repeats, Distinct}
use Rattle.grammar.specs.Encoding.{encode_rule, encode_rules, encode}
use Rattle.grammar.specs.Beginning.{
  NextByte,
  count_between,
  flag_byte,
  left_of,
  symbol_of,
  no_more,
  RightByte,
  FlagsSoFar,
  RulesSoFar,
  bytes_so_far,
  Beginning,
  no_byte,
  some_classes,
  all_classes,
  some_categories,
  all_categories,
  some_rules,
  left_category,
  some_symbols,
  whole_grammar,
}
use Rattle.grammar.proofs.RepeatLaws.{repeats?}

-- what holds of each element holds with one more
each_snoc {ℓ} : {A : Type ℓ} (P : A → Type 0) (d : A) (x : List A) (y : A) → ((i : ℕ) → i < length x → P (get_or x i d)) → P y → (i : ℕ) → i < length (x ++ (y ∷ [])) → P (get_or (x ++ (y ∷ [])) i d)
each_snoc P d x y good last i l = go (dec_lt i (length x))
  where
    go : Dec (i < length x) → P (get_or (x ++ (y ∷ [])) i d)
    go (yes h) = rw (get_or-append x (y ∷ []) d i h) (good i h)
    go (no h) =
        let e : i ≡ length x = omega (arith, length-append x (y ∷ [])) in
        rw (e, get_or-append_seam x y [] d) last

pub length_snoc {ℓ} : {A : Type ℓ} (x : List A) (y : A) → length (x ++ (y ∷ [])) ≡ suc (length x)
length_snoc x y = length-append x (y ∷ []) ∙ omega arith

-- a beginning, whatever is next; or rules so far and a whole rule that is one of them
data Begun : List ℕ → Type 0 where
  goes_on : {b : List ℕ} {next : NextByte} → Beginning b next → Begun b
  again : {G : Grammar} {P : ℕ} {r : Rule} → RulesSoFar G P → RuleWithin G r → Repeats G r → Begun (bytes_so_far G P ++ encode_rule r)

-- one more flag
pub flags_snoc : {most many : ℕ} {f : List ℕ} {y : ℕ} → FlagsSoFar most many f → y ≤ 1 → FlagsSoFar most many (f ++ (y ∷ []))
flags_snoc {f} {y} w h = record { low = w.low; high = w.high; within = each_snoc (λ v. v ≤ 1) 0 f y w.within h }

-- all flags stand, or fewer
classes_stand : {T : ℕ} {f : List ℕ} → FlagsSoFar 128 T f → length f ≤ T → Begun (T ∷ f)
classes_stand {T} {f} w h = go (dec_lt (length f) T)
  where
    go : Dec (length f < T) → Begun (T ∷ f)
    go (yes l) = goes_on (some_classes w l)
    go (no l) = let e : T ≡ length f = omega arith in rw e (goes_on (all_classes (rw e at w)))

categories_stand : {N : ℕ} {f h : List ℕ} → FlagsSoFar 128 (length f) f → FlagsSoFar 32 N h → length h ≤ N → Begun ((length f ∷ f) ++ (N ∷ h))
categories_stand {N} {f} {h} v w l = go (dec_lt (length h) N)
  where
    go : Dec (length h < N) → Begun ((length f ∷ f) ++ (N ∷ h))
    go (yes k) = goes_on (some_categories v w k)
    go (no k) = let e : N ≡ length h = omega arith in rw e (goes_on (all_categories v (rw e at w)))

-- all rules stand, or fewer
rules_stand : {G : Grammar} {P : ℕ} → WithinLimits G → Distinct G → length G.rules ≤ P → P ≤ 128 → Begun (bytes_so_far G P)
unfolding encode
rules_stand {G} {P} w d l h = go (dec_lt (length G.rules) P)
  where
    go : Dec (length G.rules < P) → Begun (bytes_so_far G P)
    go (yes k) = goes_on (some_rules (record { within = w; distinct = d; fewer = k; high = h }))
    go (no k) = let e : P ≡ length G.rules = omega arith in rw e (goes_on (whole_grammar w d))

-- one more rule
unfoldable pub with_rule : Grammar → Rule → Grammar
with_rule G r = record { classes = G.classes; categories = G.categories; rules = G.rules ++ (r ∷ []) }

with_symbol : (G : Grammar) (r : Rule) (y : ℕ) → SymbolWithin G y → SymbolWithin (with_rule G r) y
unfolding with_rule
with_symbol G r y w = record { class = w.class; category = w.category }

with_rule_lem : (G : Grammar) (r x : Rule) → RuleWithin G x → RuleWithin (with_rule G r) x
unfolding with_rule
with_rule_lem G r x w = record { left = w.left; long = w.long; symbols = λ d l. with_symbol G r _ (w.symbols d l) }

pub with_within : {G : Grammar} {r : Rule} → WithinLimits G → length G.rules < 128 → RuleWithin G r → WithinLimits (with_rule G r)
unfolding with_rule
with_within {G} {r} o l w =
    record {
      some_class = o.some_class;
      classes = o.classes;
      class_flags = o.class_flags;
      some_category = o.some_category;
      categories = o.categories;
      category_flags = o.category_flags;
      rules = omega (arith, length_snoc G.rules r);
      each = each_snoc (λ x. RuleWithin (with_rule G r) x) (rule 0 []) G.rules r (λ p l. with_rule_lem G r _ (o.each p l)) (with_rule_lem G r r w);
    }

rules_snoc : (rs : List Rule) (r : Rule) → encode_rules (rs ++ (r ∷ [])) ≡ encode_rules rs ++ encode_rule r
unfolding encode_rules
rules_snoc [] r = append-nil (encode_rule r)
rules_snoc (x ∷ rs) r = rw (rules_snoc rs r) (sym (append_assoc (encode_rule x) (encode_rules rs) (encode_rule r)))

pub with_bytes : (G : Grammar) (P : ℕ) (r : Rule) → bytes_so_far (with_rule G r) P ≡ bytes_so_far G P ++ encode_rule r
unfolding with_rule
with_bytes G P r = rw (rules_snoc G.rules r) (simp append_assoc)

-- with a rule that is none of them, all rules still differ
with_distinct : (G : Grammar) (r : Rule) → Distinct G → ¬ Repeats G r → Distinct (with_rule G r)
unfolding with_rule
with_distinct G r d new p q l h = go (dec_lt q (length G.rules))
  where
    kept : (k : ℕ) → k < length G.rules → get_or (G.rules ++ (r ∷ [])) k (rule 0 []) ≡ get_or G.rules k (rule 0 [])
    kept k i = get_or-append G.rules (r ∷ []) (rule 0 []) k i

    go : Dec (q < length G.rules) → get_or (G.rules ++ (r ∷ [])) p (rule 0 []) ≡ get_or (G.rules ++ (r ∷ [])) q (rule 0 []) → ⊥
    go (yes k) e = d p q l k (sym (kept p (omega arith)) ∙ e ∙ kept q k)
    go (no k) e =
        let last : q ≡ length G.rules = omega (arith, length_snoc G.rules r) in
        let i : p < length G.rules = omega arith in
        new (record { number = p; below = i; same = sym (kept p i) ∙ e ∙ rw last (get_or-append_seam G.rules r [] (rule 0 [])) })

rule_stands : {G : Grammar} {P : ℕ} {r : Rule} → RulesSoFar G P → RuleWithin G r → Begun (bytes_so_far G P ++ encode_rule r)
unfolding with_rule
rule_stands {G} {P} {r} u w = go (repeats? G r)
  where
    go : Dec (Repeats G r) → Begun (bytes_so_far G P ++ encode_rule r)
    go (yes same) = again u w same
    go (no new) =
        rw (with_bytes G P r) at
        (rules_stand (with_within u.within (omega (arith, u.fewer, u.high)) w) (with_distinct G r u.distinct new) (omega (arith, u.fewer, length_snoc G.rules r)) u.high)

-- a rule of no symbols, and one more symbol
pub empty_within : {G : Grammar} {A : ℕ} → A < length G.categories → RuleWithin G (rule A [])
empty_within l = record { left = l; long = omega arith; symbols = λ d l. absurd (omega arith) }

pub symbol_snoc : {G : Grammar} {A : ℕ} {s : List ℕ} {y : ℕ} → RuleWithin G (rule A s) → length s < 8 → SymbolWithin G y → RuleWithin G (rule A (s ++ (y ∷ [])))
symbol_snoc {G} {s = s} {y = y} w l h =
    record { left = w.left; long = omega (arith, length_snoc s y); symbols = each_snoc (λ v. SymbolWithin G v) 0 s y w.symbols h }

-- all symbols of a rule stand, or fewer
symbols_stand : {G : Grammar} {P A k : ℕ} {s : List ℕ} → RulesSoFar G P → RuleWithin G (rule A s) → length s ≤ k → k ≤ 8 → Begun (bytes_so_far G P ++ (A ∷ (k ∷ s)))
symbols_stand {G} {P} {A} {k} {s} u w l h = go (dec_lt (length s) k)
  where
    go : Dec (length s < k) → Begun (bytes_so_far G P ++ (A ∷ (k ∷ s)))
    go (yes m) = goes_on (some_symbols u w m h)
    go (no m) = let e : k ≡ length s = omega arith in rw e (rule_stands u w)

-- a grammar of no rules
abbrev pub ruleless : List ℕ → List ℕ → Grammar
ruleless f h = record { classes = f; categories = h; rules = [] }

pub ruleless_within : {f h : List ℕ} → FlagsSoFar 128 (length f) f → FlagsSoFar 32 (length h) h → WithinLimits (ruleless f h)
ruleless_within v w = record {
  some_class = v.low;
  classes = v.high;
  class_flags = v.within;
  some_category = w.low;
  categories = w.high;
  category_flags = w.within;
  rules = omega arith;
  each = λ p l. absurd (omega arith);
}

pub ruleless_bytes : (f h : List ℕ) (P : ℕ) → bytes_so_far (ruleless f h) P ≡ ((length f ∷ f) ++ (length h ∷ h)) ++ (P ∷ [])
unfolding encode_rules
ruleless_bytes f h P = sym (append_assoc (length f ∷ f) (length h ∷ h) (P ∷ []))

-- no flag stands yet
pub no_flags : {most many : ℕ} → 1 ≤ many → many ≤ most → FlagsSoFar most many []
no_flags l h = record { low = l; high = h; within = λ i l. absurd (omega arith) }

-- a beginning and a byte that is right
grow : {b : List ℕ} {next : NextByte} (y : ℕ) → Beginning b next → RightByte next y → Begun (b ++ (y ∷ []))
grow y no_byte (low, high) = classes_stand (no_flags low high) (omega arith)
grow y (some_classes {T} {f} w l) h = classes_stand (flags_snoc w h) (omega (arith, length_snoc f y))
grow y (all_classes {f} w) h = categories_stand w (no_flags h.0 h.1) (omega arith)
grow y (some_categories {N} {f} {h} v w l) r = rw (append_assoc (length f ∷ f) (N ∷ h) (y ∷ [])) (categories_stand v (flags_snoc w r) (omega (arith, length_snoc h y)))
grow y (all_categories {f} {h} v w) r = rw (ruleless_bytes f h y) at (rules_stand (ruleless_within v w) (λ p q i j. absurd (omega arith)) (omega arith) r.1)
grow y (some_rules {G} {P} u) h = goes_on (left_category u h)
grow y (left_category {G} {P} {A} u l) h = rw (append_assoc (bytes_so_far G P) (A ∷ []) (y ∷ [])) (symbols_stand u (empty_within l) (omega arith) h.1)
grow y (some_symbols {G} {P} {A} {k} {s} u w l m) h =
    rw (append_assoc (bytes_so_far G P) (A ∷ (k ∷ s)) (y ∷ [])) (symbols_stand u (symbol_snoc w (omega arith) h) (omega (arith, length_snoc s y)) m)
grow y (whole_grammar w d) h = absurd h

right_byte? : (next : NextByte) (y : ℕ) → Dec (RightByte next y)
right_byte? (count_between low high) y = both (dec_le low y) (dec_le y high)
  where
    both : Dec (low ≤ y) → Dec (y ≤ high) → Dec ((low ≤ y) × (y ≤ high))
    both (yes l) (yes h) = yes (l, h)
    both (yes l) (no h) = no (λ r. h r.1)
    both (no l) h = no (λ r. l r.0)
right_byte? flag_byte y = dec_le y 1
right_byte? (left_of G) y = dec_lt y (length G.categories)
right_byte? (symbol_of G) y = go (dec_lt y 128) (dec_lt y (length G.classes)) (dec_lt (y - 128) (length G.categories))
  where
    go : Dec (y < 128) → Dec (y < length G.classes) → Dec (y - 128 < length G.categories) → Dec (SymbolWithin G y)
    go (yes l) (yes h) d = yes (record { class = λ k. h; category = λ k. absurd (omega arith) })
    go (yes l) (no h) d = no (λ r. h (r.class l))
    go (no l) c (yes h) = yes (record { class = λ k. absurd (l k); category = λ k. h })
    go (no l) c (no h) = no (λ r. h (r.category (omega arith)))
right_byte? no_more y = no (λ r. r)

-- bytes, judged one by one: all are right, or there is a first that is not, or a first rule that is one of those before it
pub data Judged : List ℕ → Type 0 where
  all_right : {b : List ℕ} {next : NextByte} → Beginning b next → Judged b
  first_wrong : {b : List ℕ} {next : NextByte} → Beginning b next → (y : ℕ) → ¬ RightByte next y → (rest : List ℕ) → Judged (b ++ (y ∷ rest))
  first_again : {G : Grammar} {P : ℕ} {r : Rule} → RulesSoFar G P → RuleWithin G r → Repeats G r → (rest : List ℕ) → Judged (bytes_so_far G P ++ (encode_rule r ++ rest))

judged_from : {b : List ℕ} {next : NextByte} (rest : List ℕ) → Beginning b next → Judged (b ++ rest)
judged_from {b} [] s = rw (append-nil b) (all_right s)
judged_from {b} {next} (y ∷ rest) s = go (right_byte? next y) (λ x t. judged_from rest t)
  where
    then : {x : List ℕ} → Begun x → ((n : NextByte) → Beginning x n → Judged (x ++ rest)) → Judged (x ++ rest)
    then (goes_on t) on = on _ t
    then (again {G} {P} {r} u w same) on = rw (append_assoc (bytes_so_far G P) (encode_rule r) rest) (first_again u w same rest)

    go : Dec (RightByte next y) → ((n : NextByte) → Beginning (b ++ (y ∷ [])) n → Judged ((b ++ (y ∷ [])) ++ rest)) → Judged (b ++ (y ∷ rest))
    go (yes h) on = rw (append_assoc b (y ∷ []) rest) at (then (grow y s h) on)
    go (no h) on = first_wrong s y h rest

pub judged : (g : List ℕ) → Judged g
judged g = judged_from g no_byte
