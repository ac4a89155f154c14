-- At most 128 rules stand one after the other, and the entries past them are still 0.
use Rattle.std.proofs.Common.{◌≡◌, ℕ, ◌+◌, ◌-◌, ◌≤◌, ◌<◌, ◌++◌, List, length, get_or, drop, ap, sym, ◌∙◌, arith, below_more, get_or-set_other, get_or-set_same}
use Rattle.std.proofs.Math.ListN.{replicate, get_or-append, length-append, length-set, length-drop, length-replicate}
use Rattle.std.proofs.lemmas.List.{length-take-le, get_or-append_right, get_or-drop}
use Rattle.grammar.specs.declared.reading.Sections.{Sections}
use Rattle.grammar.specs.Value.{Sectioned, after, start_of}
use Rattle.grammar.specs.inner.Starts.{Starts}
use Rattle.grammar.proofs.Parts.{zeros}
use Rattle.grammar.proofs.Accepted.{whole, found, start_more, start_none}
use Rattle.grammar.proofs.view.Checked.rule_starts.Goals as goal

starts_all :
    (g : List ℕ) (s : Sections) → Sectioned g s → (starts : List ℕ) → length starts ≡ s.rules →
    ((q : ℕ) → q < s.rules → get_or starts q 0 ≡ start_of g q s.first) → Starts g s (starts ++ drop s.rules (replicate 128 0))
starts_all g s e starts long done =
    let few : s.rules ≤ 128 = (whole g s e).rules_high in
    record {
      long = omega (arith, few, long, length-append starts (drop s.rules (replicate 128 0)), length-drop s.rules (replicate {A = ℕ} 128 0), length-replicate {A = ℕ} 128 0);
      found = λ p h. rw (get_or-append starts (drop s.rules (replicate 128 0)) 0 p (omega arith) ∙ done p h) (found g s e p h);
      rest = λ p h. get_or-append_right starts (drop s.rules (replicate 128 0)) s.rules p 0 long h ∙ get_or-drop s.rules (replicate 128 0) (p - s.rules) 0 ∙ zeros 128 (s.rules + (p - s.rules));
    }

pub slice_bounds-starts-end : goal.slice_bounds-starts-end
slice_bounds-starts-end c = (whole _ _ c.args.self.sectioned).rules_high

pub slice_bounds-start-items-end : goal.slice_bounds-start-items-end
slice_bounds-start-items-end c = sym (length-take-le _ (replicate 128 0) (whole _ _ c.args.self.sectioned).rules_high)

pub loop-start-init : goal.loop-start-init
loop-start-init c =
    let all = length-take-le c.args.self.view.sections.rules (replicate {A = ℕ} 128 0) (whole _ _ c.args.self.sectioned).rules_high in
    record { many = all; long = all; here = sym (start_none _ _); done = λ q h. absurd (omega (arith, h)) }

pub invariant_of-after : goal.invariant_of-after
invariant_of-after c =
    let l = c.loop-start in
    let below : l.start-index < c.args.self.view.sections.rules = omega (arith, c.loop-start-test.true, l.invariant.many) in
    record { stands = rw l.invariant.here (found _ _ c.args.self.sectioned l.start-index below).stands }

pub loop-start-preserved : goal.loop-start-preserved
loop-start-preserved c =
    let l = c.loop-start in
    record {
      many = l.invariant.many;
      long = length-set l.start-items l.start-index l.at ∙ l.invariant.long;
      here = c.after-at.ensures ∙ ap (after c.args.self.view.bytes.now) l.invariant.here ∙ sym (start_more _ l.start-index _);
      done =
          below_more _ l.start-index
          (λ q h. get_or-set_other l.start-items l.start-index q l.at 0 (λ k. omega arith) ∙ l.invariant.done q h)
          (get_or-set_same l.start-items l.start-index l.at 0 (omega (arith, l.invariant.long, l.invariant.many)) ∙ l.invariant.here);
    }

pub returns : goal.returns
returns c = starts_all _ _ c.args.self.sectioned c.loop-start.start-items c.loop-start.invariant.long (λ q h. c.loop-start.invariant.done q (omega (arith, c.loop-start.invariant.many)))
