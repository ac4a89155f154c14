-- The rules that were passed over so far, kept on chains: what the next rule leads to.
use Rattle.std.proofs.Common.{Err, Ok}
use Prim.Native.Nat.{ℕ, ◌+◌, ◌-◌, ◌≤◌, ◌<◌}
use mathlib.Core.Path.{◌≡◌, refl, ap, sym, ◌∙◌}
use mathlib.Core.Logic.{◌↔◌}
use mathlib.Core.Bool.{true}
use mathlib.Core.List.{List, [], ◌∷◌, ◌++◌}
use native.Mathlib.Omega.{arith}
use lib.ListN.{length, get_or, set, replicate, length-append}
use Rattle.refusals.specs.declared.Refusal.{Refusal}
use Rattle.refusals.specs.declared.Refusal.TheVariants.{RuleRepeated}
use Rattle.derivation.specs.Grammar.{Rule}
use Rattle.grammar.specs.declared.reading.PassedRule.{PassedRule}
use Rattle.grammar.specs.Standing.{byte, standing}
use Rattle.grammar.specs.Reading.{rule_from, rules_from}
use Rattle.grammar.specs.Repeats.{is_repeated}
use Rattle.grammar.specs.inner.Words.{word_of, with_word, chain_of}
use Rattle.grammar.specs.inner.Chains.{WordOnChain}
use Rattle.grammar.proofs.Accepted.{RulePassed, rule_to}
use Rattle.grammar.proofs.ReadingLaws.{rules_none, rules_stop, rules_repeat, rules_more}
use Rattle.grammar.proofs.RepeatLaws.{repeated_not}
use Rattle.grammar.proofs.WordLaws.{given_stop, given_to}
use Rattle.grammar.proofs.Kept.{Kept, Plain, passed_plain, chain_for, kept_none, kept_repeated, kept_more}

-- the rules so far stand in the tables, and the rules that are left, from here and after those, give what all give from the start
pub record SoFar (g : List ℕ) (t n count first : ℕ) (words before latest : List ℕ) (here p : ℕ) : Type 0 where
  pub rules : List Rule
  pub many : length rules ≡ p
  pub kept : Kept rules words before latest
  pub rest : rules_from g t n rules (count - p) here ≡ rules_from g t n [] count first

module _ (g : List ℕ) (t n count first : ℕ) (words before latest : List ℕ) where
  pub none_yet :
      words ≡ replicate 128 0 → before ≡ replicate 128 0 → latest ≡ replicate 1184 0 → SoFar g t n count first words before latest first 0
  none_yet w b l = let z : count - 0 ≡ count = omega arith in record { rules = []; many = refl; kept = rw (w, b, l) kept_none; rest = rw z refl }

  module _ (here p : ℕ) (s : SoFar g t n count first words before latest here p) where
    pub all_passed : count ≤ p → Ok here ≡ rules_from g t n [] count first
    all_passed h = sym (rules_none _ _ _ s.rules _ _ _ h) ∙ s.rest

    module _ (h : p < count) where
      pub next_stops :
          (refusal : Refusal) → with_word (rule_from g t n here) (word_of (standing g here).right) ≡ Err refusal → Err refusal ≡ rules_from g t n [] count first
      next_stops refusal e = sym (rules_stop _ _ _ s.rules _ p here _ h (given_stop _ _ e)) ∙ s.rest

      module _ (low : t ≤ 128) (few : n ≤ 32) (rule : PassedRule) (e : with_word (rule_from g t n here) (word_of (standing g here).right) ≡ Ok rule) where
        abbrev x : Rule
        x = standing g here

        read : rule_from g t n here ≡ Ok rule.next
        read = (given_to _ _ e).0

        word_is : word_of x.right ≡ rule.word
        word_is = (given_to _ _ e).1

        pub next_passed : RulePassed g t n here
        next_passed = (rule_to _ _ _ _ _ read).1

        plain : Plain x
        plain = passed_plain _ _ _ _ low few next_passed

        abbrev chain : ℕ
        chain = chain_of (byte g here) rule.word

        chain_is : chain ≡ chain_for x
        unfolding standing
        chain_is = ap (λ (w : ℕ). chain_of (byte g here) w) (sym word_is)

        -- it repeats one of them exactly when its word is on its chain
        repeated : WordOnChain words before (get_or latest chain 0) rule.word ↔ (is_repeated x s.rules ≡ true)
        repeated = kept_repeated _ _ _ _ s.kept x plain rule.word chain word_is chain_is

        pub next_repeats :
            WordOnChain words before (get_or latest chain 0) rule.word → Err (RuleRepeated here) ≡ rules_from g t n [] count first
        next_repeats f = sym (rules_repeat _ _ _ s.rules _ p here _ h read (repeated.0 f)) ∙ s.rest

        pub next_more :
            ¬ WordOnChain words before (get_or latest chain 0) rule.word → p < 128 →
            SoFar g t n count first (set words p rule.word) (set before p (get_or latest chain 0)) (set latest chain (p + 1)) rule.next (p + 1)
        next_more new room =
            record {
              rules = s.rules ++ (x ∷ []);
              many = length-append s.rules (x ∷ []) ∙ ap (λ (k : ℕ). k + 1) s.many;
              kept = kept_more _ _ _ _ s.kept x plain (omega (arith, s.many)) p rule.word chain s.many word_is chain_is;
              rest = sym (rules_more _ _ _ s.rules _ p here _ h read (repeated_not _ _ (λ f. new (repeated.1 f)))) ∙ s.rest;
            }
