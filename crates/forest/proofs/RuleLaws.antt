-- The rules of a grammar where they stand, each where the one before it ends.
use Rattle.std.proofs.Common.{◌≡◌, ℕ, ◌+◌, ◌≤◌, ◌<◌, length, sym, ap, ◌∙◌}
use Rattle.derivation.specs.Grammar.{Proper}
use Rattle.grammar.specs.declared.view.Checked.{Checked}
use Rattle.grammar.specs.Value.{start_of, after}
use Rattle.grammar.specs.Checked.{grammar_in}
use Rattle.grammar.proofs.Accepted.{whole, found, start_more}
use Rattle.grammar.proofs.Encoded.{rule_count_lem, sections_proper}
use Rattle.forest.specs.inner.Charted.{RuleStands}

module _ (c : Checked) where
  pub proper : Proper (grammar_in c)
  proper = sections_proper _ _ c.sectioned

  pub rules_few : c.view.sections.rules ≤ 128
  rules_few = (whole _ _ c.sectioned).rules_high

  pub rules_all : length (grammar_in c).rules ≡ c.view.sections.rules
  rules_all = rule_count_lem _ _ c.sectioned

  module _ (p at : ℕ) (place : at ≡ start_of c.view.bytes.now p c.view.sections.first) where
    pub rule_found : p < c.view.sections.rules → RuleStands c p at
    rule_found l = record { below = l; found = rw place (found _ _ c.sectioned p l) }

    pub rule_next : (next : ℕ) → next ≡ after c.view.bytes.now at → next ≡ start_of c.view.bytes.now (p + 1) c.view.sections.first
    rule_next next n = n ∙ ap (after c.view.bytes.now) place ∙ sym (start_more c.view.bytes.now p c.view.sections.first)
