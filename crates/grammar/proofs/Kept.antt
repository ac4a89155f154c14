-- The rules so far on chains, 37 for each left category: what three tables hold, so that a rule repeats one of them exactly when its word is on its chain.
use Prim.Native.Nat.{ℕ, ◌+◌, ◌-◌, ◌%◌, ◌≤◌, ◌<◌}
use mathlib.Core.Path.{◌≡◌, refl, ap, sym, ◌∙◌}
use mathlib.Core.Logic.{◌↔◌, ◌⊎◌, inl, inr, ◌≢◌}
use mathlib.Core.Bool.{true}
use mathlib.Core.List.{List, [], ◌∷◌, ◌++◌}
use native.Mathlib.Nat.{mod-lt}
use native.Mathlib.Decide.{dec_lt, ℕ_discrete}
use native.Mathlib.Omega.{arith}
use lib.ListN.{length, get_or, take, drop, set, replicate, length-set, length-append, get_or-append}
use lib.Seq.{get_or-set_same, get_or-set_other, get_or-append_seam}
use Rattle.derivation.specs.Grammar.{Rule, rule}
use Rattle.grammar.specs.Standing.{byte, standing}
use Rattle.grammar.specs.Repeats.{is_repeated}
use Rattle.grammar.specs.inner.Words.{word_of, chain_of}
use Rattle.grammar.specs.inner.Chains.{OnChain, WordOnChain, Falling}
use Rattle.grammar.proofs.RepeatLaws.{same_parts, repeated_of, repeats_one}
use Rattle.grammar.proofs.Parts.{part_length, part_at, zeros}
use Rattle.grammar.proofs.Accepted.{RulePassed}
use Rattle.grammar.proofs.WordLaws.{Small, small_each, symbol_small, word_tells}
use Rattle.grammar.proofs.ChainLaws.{ended, chain_next, chain_later, chain_cases, chain_agrees}

abbrev rule_of : List Rule → ℕ → Rule
rule_of rules q = get_or rules q (rule 0 [])

-- the chain of a rule
abbrev pub chain_for : Rule → ℕ
chain_for r = chain_of r.left (word_of r.right)

-- a rule that its chain and its word tell
pub record Plain (r : Rule) : Type 0 where
  pub left : r.left < 32
  pub small : Small r.right

-- such is a rule that was passed over
pub passed_plain : (g : List ℕ) (t n at : ℕ) → t ≤ 128 → n ≤ 32 → RulePassed g t n at → Plain (standing g at)
unfolding standing
passed_plain g t n at h k r =
    let count = byte g (at + 1) in
    let inside : at + 2 + count ≤ length g = r.stands.inside in
    let long : length (take count (drop (at + 2) g)) ≡ count = part_length g count (at + 2) inside in
    record {
      left = omega (arith, r.left);
      small = small_each (take count (drop (at + 2) g)) (λ d l. let i : d < count = rw long at l in rw (part_at g count (at + 2) d i) (symbol_small t n _ h k (r.symbols d i)));
    }

pub record Kept (rules : List Rule) (words before latest : List ℕ) : Type 0 where
  pub words_long : length words ≡ 128
  pub before_long : length before ≡ 128
  pub latest_long : length latest ≡ 1184
  pub plain : (q : ℕ) → q < length rules → Plain (rule_of rules q)
  pub word : (q : ℕ) → q < length rules → get_or words q 0 ≡ word_of (rule_of rules q).right
  pub falls : Falling before
  -- on chain b are exactly the rules whose chain it is
  pub only : (b q : ℕ) → OnChain before (get_or latest b 0) q → (q < length rules) × (chain_for (rule_of rules q) ≡ b)
  pub all : (q : ℕ) → q < length rules → OnChain before (get_or latest (chain_for (rule_of rules q)) 0) q

pub kept_none : Kept [] (replicate 128 0) (replicate 128 0) (replicate 1184 0)
kept_none = record {
  words_long = refl;
  before_long = refl;
  latest_long = refl;
  plain = λ q l. absurd (omega arith);
  word = λ q l. absurd (omega arith);
  falls = λ q. omega (arith, zeros 128 q);
  only = λ b q c. absurd (ended _ (rw (zeros 1184 b) at c));
  all = λ q l. absurd (omega arith);
}

pub chain_few : (x : Rule) → Plain x → chain_for x < 1184
chain_few x h = let low : word_of x.right % 37 < 37 = mod-lt _ (omega arith) in omega (arith, h.left)

-- rules of one chain and one word are the same
chain_tells : (x y : Rule) → Plain x → Plain y → chain_for x ≡ chain_for y → word_of x.right ≡ word_of y.right → x ≡ y
chain_tells x y h k e w =
    let rests : word_of x.right % 37 ≡ word_of y.right % 37 = ap (λ (v : ℕ). v % 37) w in
    let lefts : x.left ≡ y.left = omega arith in
    same_parts x y lefts (word_tells x.right y.right h.small k.small w)

module _ (rules : List Rule) (words before latest : List ℕ) (k : Kept rules words before latest) where
  pub kept_entry : (b : ℕ) → get_or latest b 0 ≤ length rules
  kept_entry b = go (dec_lt 0 (get_or latest b 0))
    where
      go : Dec (0 < get_or latest b 0) → get_or latest b 0 ≤ length rules
      go (yes h) = omega (arith, (k.only b (get_or latest b 0 - 1) (chain_next before (get_or latest b 0) h)).0)
      go (no h) = omega arith

  -- a rule repeats one of them exactly when its word is on its chain
  repeated_here : (x : Rule) → Plain x → WordOnChain words before (get_or latest (chain_for x) 0) (word_of x.right) ↔ (is_repeated x rules ≡ true)
  repeated_here x h = (
    λ f.
        let o = k.only (chain_for x) f.0 f.1 in
        repeats_one x rules f.0 o.0 (chain_tells (rule_of rules f.0) x (k.plain f.0 o.0) h o.1 (sym (k.word f.0 o.0) ∙ f.2)),
    λ e.
        let f = repeated_of x rules e in
        (f.0, rw f.2 at (k.all f.0 f.1), k.word f.0 f.1 ∙ ap (λ (r : Rule). word_of r.right) f.2),
  )

  pub kept_repeated :
      (x : Rule) → Plain x → (word chain : ℕ) → word_of x.right ≡ word → chain ≡ chain_for x →
      WordOnChain words before (get_or latest chain 0) word ↔ (is_repeated x rules ≡ true)
  kept_repeated x h word chain w e = rw (sym w, e) (repeated_here x h)

  module _ (x : Rule) (h : Plain x) (room : length rules < 128) where
    abbrev p : ℕ
    p = length rules

    abbrev chain : ℕ
    chain = chain_for x

    abbrev rules' : List Rule
    rules' = rules ++ (x ∷ [])

    abbrev before' : List ℕ
    before' = set before p (get_or latest chain 0)

    abbrev latest' : List ℕ
    latest' = set latest chain (p + 1)

    -- one more rule
    longer : length rules' ≡ p + 1
    longer = length-append rules (x ∷ [])

    earlier : (q : ℕ) → q < p → rule_of rules' q ≡ rule_of rules q
    earlier q l = get_or-append rules (x ∷ []) (rule 0 []) q l

    last : rule_of rules' p ≡ x
    last = get_or-append_seam rules x [] (rule 0 [])

    each : (P : ℕ → Type 0) → ((q : ℕ) → q < p → P q) → P p → (q : ℕ) → q < length rules' → P q
    each P low here q l = go (dec_lt q p)
      where
        go : Dec (q < p) → P q
        go (yes i) = low q i
        go (no i) = let e : q ≡ p = omega (arith, longer) in rw e here

    -- the table of entries after, and the one of chains
    link : get_or before' p 0 ≡ get_or latest chain 0
    link = get_or-set_same before (length rules) (get_or latest chain 0) 0 (omega (arith, k.before_long))

    links : (q : ℕ) → q ≢ p → get_or before' q 0 ≡ get_or before q 0
    links q n = get_or-set_other before p q (get_or latest chain 0) 0 n

    entry : get_or latest' chain 0 ≡ p + 1
    entry = get_or-set_same latest (chain_for x) (p + 1) 0 (omega (arith, k.latest_long, chain_few x h))

    entries : (b : ℕ) → b ≢ chain → get_or latest' b 0 ≡ get_or latest b 0
    entries b n = get_or-set_other latest chain b (p + 1) 0 n

    agree : (q : ℕ) → q < p → (get_or before q 0 ≤ q) × (get_or before q 0 ≡ get_or before' q 0)
    agree q l = (k.falls q, sym (links q (λ e. omega arith)))

    agree' : (q : ℕ) → q < p → (get_or before' q 0 ≤ q) × (get_or before' q 0 ≡ get_or before q 0)
    agree' q l = let e = links q (λ e. omega arith) in (omega (arith, k.falls q), e)

    -- its own chain has it, and then those that it had
    own_only : (q : ℕ) → OnChain before' (p + 1) q → (q < p + 1) × (chain_for (rule_of rules' q) ≡ chain)
    own_only q c = go (chain_cases before' (p + 1) (omega arith) c)
      where
        first : p + 1 - 1 ≡ p
        first = omega arith

        go : (q ≡ p + 1 - 1) ⊎ OnChain before' (get_or before' (p + 1 - 1) 0) q → (q < p + 1) × (chain_for (rule_of rules' q) ≡ chain)
        go (inl e) = let z : q ≡ p = e ∙ first in (omega arith, rw (z, last))
        go (inr d) =
            let o = k.only chain q (chain_agrees before' before p agree' (kept_entry chain) (rw (first, link) at d)) in
            (omega (arith, o.0), rw (earlier q o.0) o.1)

    falls' : Falling before'
    falls' q = go (ℕ_discrete q p)
      where
        go : Dec (q ≡ p) → get_or before' q 0 ≤ q
        go (yes e) = rw (e, link) (kept_entry chain)
        go (no n) = rw (links q n) (k.falls q)

    only' : (b q : ℕ) → OnChain before' (get_or latest' b 0) q → (q < length rules') × (chain_for (rule_of rules' q) ≡ b)
    only' b q c = go (ℕ_discrete b chain)
      where
        go : Dec (b ≡ chain) → (q < length rules') × (chain_for (rule_of rules' q) ≡ b)
        go (yes e) = let o = own_only q (rw (e, entry) at c) in (omega (arith, longer, o.0), o.1 ∙ sym e)
        go (no n) =
            let o = k.only b q (chain_agrees before' before p agree' (kept_entry b) (rw (entries b n) at c)) in
            (omega (arith, longer, o.0), rw (earlier q o.0) o.1)

    all_low : (q : ℕ) → q < p → OnChain before' (get_or latest' (chain_for (rule_of rules' q)) 0) q
    all_low q l = rw (earlier q l) (go (ℕ_discrete (chain_for (rule_of rules q)) chain))
      where
        was : OnChain before' (get_or latest (chain_for (rule_of rules q)) 0) q
        was = chain_agrees before before' p agree (kept_entry (chain_for (rule_of rules q))) (k.all q l)

        go : Dec (chain_for (rule_of rules q) ≡ chain) → OnChain before' (get_or latest' (chain_for (rule_of rules q)) 0) q
        go (yes e) = let first : p + 1 - 1 ≡ p = omega arith in rw (e, entry) (chain_later before' (p + 1) (omega arith) (rw (first, link) (rw e at was)))
        go (no n) = rw (entries (chain_for (rule_of rules q)) n) was

    all_last : OnChain before' (get_or latest' (chain_for (rule_of rules' p)) 0) p
    all_last = let first : p + 1 - 1 ≡ p = omega arith in rw (last, entry) (rw first at (chain_next before' (p + 1) (omega arith)))

    more : Kept rules' (set words p (word_of x.right)) before' latest'
    more = record {
      words_long = length-set words p (word_of x.right) ∙ k.words_long;
      before_long = length-set before p (get_or latest chain 0) ∙ k.before_long;
      latest_long = length-set latest chain (p + 1) ∙ k.latest_long;
      plain = each (λ q. Plain (rule_of rules' q)) (λ q l. rw (earlier q l) (k.plain q l)) (rw last h);
      word =
          each (λ q. get_or (set words p (word_of x.right)) q 0 ≡ word_of (rule_of rules' q).right)
          (λ q l. rw (earlier q l) (get_or-set_other words p q (word_of x.right) 0 (λ e. omega arith) ∙ k.word q l))
          (rw last (get_or-set_same words p (word_of x.right) 0 (omega (arith, k.words_long))));
      falls = falls';
      only = only';
      all = each (λ q. OnChain before' (get_or latest' (chain_for (rule_of rules' q)) 0) q) all_low all_last;
    }

    -- with one more rule
    pub kept_more :
        (number word chain : ℕ) → length rules ≡ number → word_of x.right ≡ word → chain ≡ chain_for x →
        Kept (rules ++ (x ∷ [])) (set words number word) (set before number (get_or latest chain 0)) (set latest chain (number + 1))
    kept_more number word c m w e = rw (sym m, sym w, e) more
