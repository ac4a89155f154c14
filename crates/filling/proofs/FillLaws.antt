-- The fill: what holds after h rounds, what a round makes of it, and what it is once a round adds nothing.
use Prim.Native.Nat.{ℕ, zero, suc, pred, ◌+◌, ◌-◌, ◌*◌, ◌≤◌, ◌<◌, zero-le}
use mathlib.Core.Path.{◌≡◌, refl, sym, ◌∙◌, ap}
use mathlib.Core.Logic.{◌↔◌, ◌⊎◌, inl, inr}
use mathlib.Core.List.{List, ◌++◌}
use native.Mathlib.Nat.{mul-le-mul}
use native.Mathlib.Numerals.{add-one}
use native.Mathlib.Omega.{arith}
use lib.ListN.{length, get_or, drop, replicate, length-replicate}
use Rattle.positions.specs.Member.{Member}
use Rattle.positions.specs.With.{With}
use Rattle.positions.proofs.Members.{none_member, some_member}
use Rattle.derivation.specs.Grammar.{Grammar, Proper}
use Rattle.derivation.specs.inner.Within.{Within}
use Rattle.derivation.specs.Fact.{Fact}
use Rattle.derivation.specs.Depth.{Depth}
use Rattle.derivation.specs.computed.Table.{DepthAfter, found, not_yet}
use Rattle.derivation.proofs.Within.{tree_inside}
use Rattle.derivation.proofs.Table.{height_pos}
use Rattle.derivation.proofs.Decide.{depth_fits}
use Rattle.derivation.proofs.Still.{NothingNew, after_new, after_same, holds_still, all_known, depth_settled}
use Rattle.checks.specs.Memory.{chart_size, depths_size}
use Rattle.grammar.specs.Limits.{WithinLimits}
use Rattle.filling.specs.inner.Holds.{HoldsAfter}
use Rattle.filling.specs.inner.Places.{Places}
use Rattle.filling.specs.inner.Mask.{Masks}
use Rattle.filling.specs.inner.Commit.{New, SomeNew, Ready}
use Rattle.filling.specs.inner.Gained.{AllCommitted}
use Rattle.filling.specs.inner.Round.{ByRule, RulesApplied, Gain, Changed, start, after}
use Rattle.filling.specs.Filled.{Filled}
use Rattle.filling.proofs.TableLaws.{zeros_at}
use Rattle.filling.proofs.RowLaws.{row_inside, row_one, row_of}
use Rattle.filling.proofs.ClearLaws.{cleared_at, cleared_past, cleared_long}
use Rattle.filling.proofs.RoundLaws.{within_more, within?, round_finds}

-- a line as a question's checks leave it, and the grammar's limits
pub record Given (G : Grammar) (line : List ℕ) : Type 0 where
  pub limits : WithinLimits G
  pub proper : Proper G
  pub short : length line ≤ 63

-- the depths in memory are those of at most h
abbrev pub DepthsAfter : Grammar → List ℕ → ℕ → List ℕ → Type 0
DepthsAfter G line h depths =
    (A i j : ℕ) → A < length G.categories → i ≤ length line → j ≤ length line →
    DepthAfter G line h A i j (get_or depths ((A * (length line + 1) + i) * (length line + 1) + j) 0)

-- what holds after h rounds
pub record Done (G : Grammar) (line : List ℕ) (h changed : ℕ) (words₀ depths₀ words next depths : List ℕ) : Type 0 where
  pub holds : HoldsAfter G line h words
  pub words_long : length words ≡ length words₀
  pub words_past : (q : ℕ) → chart_size (length G.categories) (length line) ≤ q → get_or words q 0 ≡ get_or words₀ q 0
  pub next_long : length next ≡ 2048
  pub same : (q : ℕ) → q < chart_size (length G.categories) (length line) → get_or next q 0 ≡ get_or words q 0
  pub depth : DepthsAfter G line h depths
  pub depths_long : length depths ≡ length depths₀
  pub depths_past : (q : ℕ) → depths_size (length G.categories) (length line) ≤ q → get_or depths q 0 ≡ get_or depths₀ q 0
  pub changes : Changed G line h changed
  pub met : (k : ℕ) → h ≡ suc (suc k) → (A : ℕ) × (i : ℕ) × (j : ℕ) × Depth G line A i j (suc k)

module _ {G : Grammar} {line : List ℕ} where
  -- what is found in a round has the round's number for its depth
  gain_depth : {h A : ℕ} → Gain G line h A → (i : ℕ) × (j : ℕ) × Depth G line A i j (suc h)
  gain_depth {h} {A} g = (g.0, g.1, go (after_new g.2 g.3))
    where
      go : DepthAfter G line (suc h) A g.0 g.1 (suc h) → Depth G line A g.0 g.1 (suc h)
      go (found l p) = p

  -- after a round that found something there is a fact of that depth
  pub changed_depth : {h changed : ℕ} → 0 < changed → Changed G line (suc h) changed → (A : ℕ) × (i : ℕ) × (j : ℕ) × Depth G line A i j (suc h)
  changed_depth {h} {changed} some (after gains) =
      let m = some_member changed some in
      let g = gain_depth ((gains m.0).0 m.1).1 in
      (m.0, g.0, g.1, g.2)

  -- so there are at most 2048 such rounds
  pub rounds_few : Given G line → {h changed : ℕ} → 0 < changed → Changed G line h changed → h ≤ 2048
  rounds_few given {h = zero} some c = zero-le
  rounds_few given {h = suc h} some c = depth_fits G line given.proper given.limits.categories given.short (changed_depth some c).3

-- nothing changed: some round was run
pub some_round : {G : Grammar} {line : List ℕ} {h changed : ℕ} → changed ≡ 0 → Changed G line h changed → 0 < h
some_round e (start only) = absurd (none_member 32 (rw e at ((only 32).1 refl)))
some_round e (after gains) = omega arith

-- one more round
module _ {G : Grammar} {line : List ℕ} (given : Given G line) (h changed : ℕ) (words₀ depths₀ words next depths masks places next' : List ℕ)
    (done : Done G line h changed words₀ depths₀ words next depths) (ms : Masks G masks) (pl : Places line places)
    (applied : RulesApplied G masks changed words places (length line + 1) next next') where
  -- a word of `next` before the round
  row_same : (A i : ℕ) → A < length G.categories → i ≤ length line → get_or next (A * (length line + 1) + i) 0 ≡ get_or words (A * (length line + 1) + i) 0
  row_same A i a l = done.same _ (row_inside A (length G.categories) (length line + 1) i a (omega arith))

  -- the rows of `next` hold what derives within one more
  next_holds : HoldsAfter G line (suc h) next'
  next_holds A i a l j = (
    λ m. finds.1 (to ((applied.gains line h refl pl done.holds A i a l j).0 m)),
    λ v. (applied.gains line h refl pl done.holds A i a l j).1 (from (finds.0 v)),
  )
    where
      finds : Within G line (suc h) A i j ↔ (Within G line h A i j ⊎ ByRule G line h masks changed A i j)
      finds = round_finds h changed masks done.changes ms given.limits A i j

      to : Member (get_or next (A * (length line + 1) + i) 0) j ⊎ ByRule G line h masks changed A i j → Within G line h A i j ⊎ ByRule G line h masks changed A i j
      to (inl m) = inl ((done.holds A i a l j).0 (rw (row_same A i a l) at m))
      to (inr b) = inr b

      from : Within G line h A i j ⊎ ByRule G line h masks changed A i j → Member (get_or next (A * (length line + 1) + i) 0) j ⊎ ByRule G line h masks changed A i j
      from (inl v) = inl (rw (row_same A i a l) ((done.holds A i a l j).1 v))
      from (inr b) = inr b

  -- what is new in a row is what derives within one more and did not before
  new_gains : (A i : ℕ) → A < length G.categories → i ≤ length line → (j : ℕ) →
      New words next' (A * (length line + 1) + i) j ↔ (Within G line (suc h) A i j × (Within G line h A i j → ⊥))
  new_gains A i a l j = (
    λ n. ((next_holds A i a l j).0 n.found, λ v. n.fresh ((done.holds A i a l j).1 v)),
    λ v. record { found = (next_holds A i a l j).1 v.0; fresh = λ m. v.1 ((done.holds A i a l j).0 m) },
  )

  -- a row of `next` by its place
  next_row : (q : ℕ) → q < chart_size (length G.categories) (length line) → (A : ℕ) × (i : ℕ) × (A < length G.categories) × (i ≤ length line) × (q ≡ A * (length line + 1) + i)
  next_row q l = let r = row_of q (length G.categories) (length line + 1) (omega arith) l in (r.0, r.1, r.2, omega (arith, r.3), r.4)

  next_narrow : (q j : ℕ) → q < chart_size (length G.categories) (length line) → Member (get_or next' q 0) j → j < length line + 1
  next_narrow q j l m =
      let r = next_row q l in
      let v = (next_holds r.0 r.1 r.2 r.3 j).0 (rw r.4 at m) in
      omega (arith, (tree_inside v.tree).ends)

  next_grows : (q j : ℕ) → q < chart_size (length G.categories) (length line) → Member (get_or words q 0) j → Member (get_or next' q 0) j
  next_grows q j l m =
      let r = next_row q l in
      rw r.4 ((next_holds r.0 r.1 r.2 r.3 j).1 (within_more ((done.holds r.0 r.1 r.2 r.3 j).0 (rw r.4 at m))))

  -- all is ready for the end of the round
  pub round_ready :
      (N : ℕ) → length G.categories ≡ N → chart_size N (length line) ≤ length words₀ → depths_size N (length line) ≤ length depths₀ →
      Ready (chart_size N (length line)) (length line + 1) words next' depths
  round_ready N count room deep_room = record {
    words_room = rw done.words_long room;
    next_room = rw (applied.long, done.next_long, ← count) (mul-le-mul {n₂ = 32} {m₂ = 64} given.limits.categories (omega (arith, given.short)));
    depths_room = rw done.depths_long deep_room;
    narrow = rw (← count) next_narrow;
    grows = rw (← count) next_grows;
  }

  module _ (words' depths' : List ℕ) (changed' : ℕ) (some : 0 < changed)
      (committed : AllCommitted (length G.categories) (length line + 1) (suc h) words next' depths words' depths' changed') where
    -- the depth of (A, i, j) after the round
    depth_after : DepthsAfter G line (suc h) depths'
    depth_after A i j a l k = go (within? (suc h) A i j) (within? h A i j)
      where
        row : A * (length line + 1) + i < chart_size (length G.categories) (length line)
        row = row_inside A (length G.categories) (length line + 1) i a (omega arith)

        old : (New words next' (A * (length line + 1) + i) j → ⊥) → get_or depths' ((A * (length line + 1) + i) * (length line + 1) + j) 0 ≡ get_or depths ((A * (length line + 1) + i) * (length line + 1) + j) 0
        old n = committed.committed.deep_else _ (λ q b x y new e.
            let o = row_one (A * (length line + 1) + i) q (length line + 1) j b (omega arith) (next_narrow q b y new.found) e in
            n (rw (o.0, o.1) new))

        go : Within G line (suc h) A i j ⊎ (Within G line (suc h) A i j → ⊥) → Within G line h A i j ⊎ (Within G line h A i j → ⊥) →
            DepthAfter G line (suc h) A i j (get_or depths' ((A * (length line + 1) + i) * (length line + 1) + j) 0)
        go (inl v) (inr n) =
            rw (committed.committed.deep (A * (length line + 1) + i) j zero-le row ((new_gains A i a l j).1 (v, n))) (after_new v n)
        go u (inl v) = rw (old (λ new. ((new_gains A i a l j).0 new).1 v)) (after_same (done.depth A i j a l k) (λ _. v))
        go (inr n) (inr m) = rw (old (λ new. n ((new_gains A i a l j).0 new).0)) (after_same (done.depth A i j a l k) (λ v. absurd (n v)))

    -- what has changed after the round
    changed_after : (A : ℕ) → Member changed' A ↔ ((A < length G.categories) × Gain G line h A)
    changed_after A = (λ m. to ((committed.gains A).0 m), λ g. (committed.gains A).1 (from g))
      where
        to : (A < length G.categories) × SomeNew (A * (length line + 1)) (A * (length line + 1) + (length line + 1)) words next' → (A < length G.categories) × Gain G line h A
        to s =
            let i = s.1.0 - A * (length line + 1) in
            let e : s.1.0 ≡ A * (length line + 1) + i = omega (arith, s.1.1) in
            let g = (new_gains A i s.0 (omega (arith, s.1.1, s.1.2)) s.1.3).0 (rw e at s.1.4) in
            (s.0, (i, s.1.3, g.0, g.1))

        from : (A < length G.categories) × Gain G line h A → (A < length G.categories) × SomeNew (A * (length line + 1)) (A * (length line + 1) + (length line + 1)) words next'
        from s =
            let g = s.1 in
            let r = tree_inside g.2.tree in
            let l : g.0 ≤ length line = omega arith in
            (s.0, (A * (length line + 1) + g.0, omega arith, omega arith, g.1, (new_gains A g.0 s.0 l g.1).1 (g.2, g.3)))

    round_done_suc : Done G line (suc h) changed' words₀ depths₀ words' next' depths'
    round_done_suc = record {
      holds = λ A i a l j. rw (committed.committed.word _ zero-le (row_inside A (length G.categories) (length line + 1) i a (omega arith))) (next_holds A i a l j);
      words_long = committed.committed.words_long ∙ done.words_long;
      words_past = λ q l. committed.committed.word_else q (inr l) ∙ done.words_past q l;
      next_long = applied.long ∙ done.next_long;
      same = λ q l. sym (committed.committed.word q zero-le l);
      depth = depth_after;
      depths_long = committed.committed.depths_long ∙ done.depths_long;
      depths_past = λ e l. committed.committed.deep_else e (λ q b x y new z. omega (arith, row_inside q (chart_size (length G.categories) (length line)) (length line + 1) b y (next_narrow q b y new.found))) ∙ done.depths_past e l;
      changes = after changed_after;
      met = λ k e. let z : h ≡ suc k = omega arith in changed_depth some (rw z at done.changes);
    }

  pub round_done :
      (words' depths' : List ℕ) (changed' N : ℕ) → length G.categories ≡ N → 0 < changed →
      AllCommitted N (length line + 1) (h + 1) words next' depths words' depths' changed' → Done G line (h + 1) changed' words₀ depths₀ words' next' depths'
  round_done words' depths' changed' N count some committed =
      rw (add-one h) (round_done_suc words' depths' changed' some (rw (← count, add-one h) at committed))

-- before the first round, with cleared memory
module _ (G : Grammar) (line : List ℕ) (changed : ℕ) (words depths words₀ depths₀ : List ℕ) (N : ℕ) (count : length G.categories ≡ N) (alone : With 0 32 changed)
    (cleared : words₀ ≡ replicate (chart_size N (length line)) 0 ++ drop (chart_size N (length line)) words)
    (deep-cleared : depths₀ ≡ replicate (depths_size N (length line)) 0 ++ drop (depths_size N (length line)) depths) where
  clear : (q : ℕ) → q < chart_size (length G.categories) (length line) → get_or words₀ q 0 ≡ 0
  clear q l = ap (λ (m : List ℕ). get_or m q 0) cleared ∙ cleared_at _ words q (rw count at l)

  deep_clear : (q : ℕ) → q < depths_size (length G.categories) (length line) → get_or depths₀ q 0 ≡ 0
  deep_clear q l = ap (λ (m : List ℕ). get_or m q 0) deep-cleared ∙ cleared_at _ depths q (rw count at l)

  only : (A : ℕ) → Member changed A ↔ (A ≡ 32)
  only A = (λ m. go ((alone A).0 m), λ e. (alone A).1 (inr e))
    where
      go : Member 0 A ⊎ (A ≡ 32) → A ≡ 32
      go (inl m) = absurd (none_member A m)
      go (inr e) = e

  none_within : (A i j : ℕ) → Within G line 0 A i j → ⊥
  none_within A i j v = omega (arith, height_pos v.tree, v.low)

  pub start_done : chart_size N (length line) ≤ length words → depths_size N (length line) ≤ length depths → Done G line 0 changed words depths words₀ (replicate 2048 0) depths₀
  start_done room deep_room = record {
    holds = λ A i a l j. (
      λ m. absurd (none_member j (rw (clear _ (row_inside A (length G.categories) (length line + 1) i a (omega arith))) at m)),
      λ v. absurd (none_within A i j v),
    );
    words_long = ap length cleared ∙ cleared_long _ words room;
    words_past = λ q l. ap (λ (m : List ℕ). get_or m q 0) cleared ∙ cleared_past _ words q (rw count at l);
    next_long = length-replicate {A = ℕ} 2048 0;
    same = λ q l. zeros_at 2048 q ∙ sym (clear q l);
    depth = λ A i j a l k.
        rw (deep_clear _ (row_inside _ (chart_size (length G.categories) (length line)) (length line + 1) j (row_inside A (length G.categories) (length line + 1) i a (omega arith)) (omega arith)))
        (not_yet (λ t. height_pos t));
    depths_long = ap length deep-cleared ∙ cleared_long _ depths deep_room;
    depths_past = λ q l. ap (λ (m : List ℕ). get_or m q 0) deep-cleared ∙ cleared_past _ depths q (rw count at l);
    changes = start only;
    met = λ k e. absurd (omega arith);
  }

  -- memory that was cleared first and then filled is filled
  pub filled_cleared : (words' depths' : List ℕ) {r : ℕ} → chart_size N (length line) ≤ length words → depths_size N (length line) ≤ length depths →
      Filled G line words₀ depths₀ words' depths' r → Filled G line words depths words' depths' r
  filled_cleared words' depths' room deep_room x = record {
    work = record {
      words_long = x.work.words_long ∙ ap length cleared ∙ cleared_long _ words room;
      word = x.work.word;
      words_past = λ q l. x.work.words_past q l ∙ ap (λ (m : List ℕ). get_or m q 0) cleared ∙ cleared_past _ words q (rw count at l);
      depths_long = x.work.depths_long ∙ ap length deep-cleared ∙ cleared_long _ depths deep_room;
      depth = x.work.depth;
      depths_past = λ q l. x.work.depths_past q l ∙ ap (λ (m : List ℕ). get_or m q 0) deep-cleared ∙ cleared_past _ depths q (rw count at l);
    };
    most = x.most;
  }

-- once a round adds nothing
module _ {G : Grammar} {line : List ℕ} (given : Given G line) (r : ℕ) (words₀ depths₀ words next depths : List ℕ) (done : Done G line (suc r) 0 words₀ depths₀ words next depths) where
  still : NothingNew G line r
  still A i j a v = go done.changes (within? r A i j)
    where
      go : Changed G line (suc r) 0 → Within G line r A i j ⊎ (Within G line r A i j → ⊥) → Within G line r A i j
      go c (inl u) = u
      go (after gains) (inr n) = absurd (none_member A ((gains A).1 (a, (i, j, v, n))))

  known : (A i j : ℕ) → Fact G line A i j → Within G line (suc r) A i j
  known A i j t = within_more (all_known given.proper still t)

  all_filled : Filled G line words₀ depths₀ words depths r
  all_filled = record {
    work = record {
      words_long = done.words_long;
      word = λ A i a l j. (λ m. ((done.holds A i a l j).0 m).tree, λ t. (done.holds A i a l j).1 (known A i j t));
      words_past = done.words_past;
      depths_long = done.depths_long;
      depth = λ A i j a l k. depth_settled given.proper (λ B b e c v. known B b e v.tree) (done.depth A i j a l k);
      depths_past = done.depths_past;
    };
    most = holds_still given.proper r still (λ l. met l);
  }
    where
      met : 0 < r → (A : ℕ) × (i : ℕ) × (j : ℕ) × Depth G line A i j r
      met l = let e : r ≡ suc (pred r) = omega arith in rw e (done.met (pred r) (omega arith))

pub rounds_filled :
    {G : Grammar} {line : List ℕ} → Given G line → (h changed : ℕ) (words₀ depths₀ words next depths : List ℕ) → changed ≡ 0 →
    Done G line h changed words₀ depths₀ words next depths → Filled G line words₀ depths₀ words depths (h - 1)
rounds_filled given h changed words₀ depths₀ words next depths e done =
    let l : 0 < h = some_round e done.changes in
    let z : h ≡ suc (h - 1) = omega arith in
    all_filled given (h - 1) words₀ depths₀ words next depths (rw (e, z) at done)
