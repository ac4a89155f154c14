-- `node` meets its contract.
use Rattle.std.proofs.Common.{◌≡◌, ℕ, suc, ◌+◌, ◌-◌, ◌<◌, ◌≤◌, ◌↔◌, List, length, get_or, drop, refl, add-one, arith}
use native.Mathlib.Nat.{lt_of_lt_of_le}
use Rattle.positions.specs.Member.{Member}
use Rattle.derivation.specs.Grammar.{Grammar}
use Rattle.derivation.specs.inner.Within.{ChildrenWithin}
use Rattle.tree.specs.inner.Sets.{CategoryKnown, FirstThat, Leads}
use Rattle.grammar.specs.Checked.{grammar_in}
use Rattle.tree.specs.inner.Searched.{child_limit}
use Rattle.tree.proofs.SearchLaws.{kept_is, limit_is, symbols_few, symbols_known, symbols_fit, node_rises, rule_inside, rule_after, rule_found, turn_inside, turn_fails, turn_whole, turn_next}
use Rattle.tree.proofs.search.Search.node.Goals as goal
use Rattle.tree.proofs.search.Search.node.Goals.{At-rules, In-loop-d, After-first_end}

-- this rule is one of the grammar's
inside : (c : At-rules) → c.rules.number < length (grammar_in c.args.self.now.grammar).rules
inside c = rule_inside _ _ c.requires.0 _ c.requires.1 _ c.rules.invariant

-- symbol d is one of at most 8
few : (c : In-loop-d) → c.loop-d.d < 8
few c = lt_of_lt_of_le c.loop-d-test.true (rw c.symbols-symbols.ensures (symbols_few _ _ c.requires.0 _ (rule_inside _ _ c.requires.0 _ c.requires.1 _ c.rules.invariant)))

-- what the sets and the ends that are found say
module _ (c : After-first_end) where
  abbrev G : Grammar
  G = grammar_in c.args.self.now.grammar

  abbrev line : List ℕ
  line = c.args.self.now.kept.line.now

  abbrev symbols : List ℕ
  symbols = c.symbols-symbols.result.now

  abbrev set : ℕ
  set = get_or c.sets_before-sets.result (c.loop-d.d + 1) 0

  limit : c.depth_at.result - 1 ≡ child_limit G line c.args.span
  limit = limit_is _ _ c.requires.0 _ c.requires.1 c.depth_at.ensures

  known : (d : ℕ) → d < length symbols → CategoryKnown G (get_or symbols d 0)
  known = rw c.symbols-symbols.ensures (symbols_known _ _ c.requires.0 _ (rule_inside _ _ c.requires.0 _ c.requires.1 _ c.rules.invariant))

  exact : (x : ℕ) → Member set x ↔ ((c.args.span.start ≤ x) × ChildrenWithin G line (child_limit G line c.args.span) (drop (suc c.loop-d.d) symbols) x c.args.span.end)
  exact = rw (← limit, ← add-one c.loop-d.d) (c.sets_before-sets.ensures.exact _ c.requires.0.work known (c.loop-d.d + 1) (omega arith) (omega (arith, c.loop-d-test.true)))

  end : FirstThat (Leads G line (child_limit G line c.args.span) (get_or symbols c.loop-d.d 0) set c.loop-d.m) c.first_end.result
  end = rw (← limit) (c.first_end.ensures _ c.requires.0.work (known _ c.loop-d-test.true))

pub overflow_sub-below : goal.overflow_sub-below
overflow_sub-below c = omega (arith, c.depth_at.ensures, kept_is _ _ c.requires.0 _ c.requires.1, c.requires.1.fact)

pub invariant_of-rule : goal.invariant_of-rule
invariant_of-rule c = record { stands = c.requires.0.stands _ (inside (goal.at.invariant_of-rule c).At-rules) }

pub may_serve-requires-clause-fits : goal.may_serve-requires-clause-fits
may_serve-requires-clause-fits c = λ l a. (symbols_fit _ _ c.requires.0 _ (inside (goal.at.may_serve-requires-clause-fits c).At-rules) 0 l a).0

pub rules-preserved-then-not-may_serve : goal.rules-preserved-then-not-may_serve
rules-preserved-then-not-may_serve c =
    let k = inside (goal.at.rules-preserved-then-not-may_serve c).At-rules in
    rule_after _ _ c.requires.0 _ c.requires.1 _ c.rules.invariant
    (λ l v. c.may_serve.ensures.fails c.if-not-may_serve.true l _ c.requires.0.work.rows (λ z. symbols_known _ _ c.requires.0 _ k 0 z) _ v)

pub sets_before-sets-requires-clause-rises : goal.sets_before-sets-requires-clause-rises
sets_before-sets-requires-clause-rises c = node_rises _ _ c.requires.0 _ c.requires.1

pub sets_before-sets-requires-clause-few : goal.sets_before-sets-requires-clause-few
sets_before-sets-requires-clause-few c = rw c.symbols-symbols.ensures (symbols_few _ _ c.requires.0 _ (inside (goal.at.sets_before-sets-requires-clause-few c).At-rules))

pub sets_before-sets-requires-clause-fit : goal.sets_before-sets-requires-clause-fit
sets_before-sets-requires-clause-fit c = rw c.symbols-symbols.ensures (symbols_fit _ _ c.requires.0 _ (inside (goal.at.sets_before-sets-requires-clause-fit c).At-rules))

pub offset_bounds-sets-d : goal.offset_bounds-sets-d
offset_bounds-sets-d c = omega (arith, few (goal.at.offset_bounds-sets-d c).In-loop-d)

pub bounds-sets-d : goal.bounds-sets-d
bounds-sets-d c = omega (arith, few (goal.at.bounds-sets-d c).In-loop-d)

pub offset_bounds-ends-d : goal.offset_bounds-ends-d
offset_bounds-ends-d c = omega (arith, few (goal.at.offset_bounds-ends-d c).In-loop-d)

pub bounds-ends-d : goal.bounds-ends-d
bounds-ends-d c = omega (arith, few (goal.at.bounds-ends-d c).In-loop-d)

pub first_end-requires-clause-fits : goal.first_end-requires-clause-fits
first_end-requires-clause-fits c =
    (rw (← c.symbols-symbols.ensures) at (symbols_fit _ _ c.requires.0 _ (inside (goal.at.first_end-requires-clause-fits c).At-rules))) _ c.loop-d-test.true

pub first_end-requires-clause-start : goal.first_end-requires-clause-start
first_end-requires-clause-start c = turn_inside _ _ c.requires.0.proper _ _ _ _ c.requires.1.end _ _ _ c.loop-d.invariant c.requires.1.start

pub rules-preserved : goal.rules-preserved
rules-preserved c =
    let a = (goal.at.rules-preserved c).After-first_end in
    rule_after _ _ c.requires.0 _ c.requires.1 _ c.rules.invariant
    (λ l v. turn_fails _ _ c.requires.0.proper _ _ _ _ c.requires.1.end _ _ _ c.loop-d.invariant _ c.loop-d-test.true (exact a) (rw c.in-None.is at (end a)) (rw c.symbols-symbols.ensures v))

pub loop-d-preserved : goal.loop-d-preserved
loop-d-preserved c =
    let a = (goal.at.loop-d-preserved c).After-first_end in
    turn_next _ _ c.requires.0.proper _ _ _ _ c.requires.1.end _ _ _ c.loop-d.invariant _ c.loop-d-test.true (exact a) _ (rw c.in-Some.is at (end a)) (few (goal.at.loop-d-preserved c).In-loop-d)

pub returns : goal.returns
returns c =
    let k = inside (goal.at.returns c).At-rules in
    let e = c.symbols-symbols.ensures in
    let p = c.may_serve.ensures.passes c.if-not-may_serve.false in
    let w = turn_whole _ _ c.requires.0.proper _ _ _ _ c.requires.1.end _ _ _ c.loop-d.invariant c.loop-d-test.false (rw e p.1) in
    rule_found _ _ c.requires.0 _ c.requires.1 _ c.rules.invariant _ refl e p.0 w.0 w.1

pub unreachable-requires : goal.unreachable-requires
unreachable-requires c = omega (arith, inside (goal.at.unreachable-requires c).At-rules, c.requires.0.few, c.rules-test.false)
