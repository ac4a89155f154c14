-- Filled memory is one: two outcomes of a filling are equal.
use Prim.Native.Nat.{ℕ, ◌+◌, ◌≤◌, ◌<◌}
use mathlib.Core.Path.{◌≡◌, sym, ◌∙◌}
use mathlib.Core.List.{List}
use native.Mathlib.Decide.{dec_lt}
use native.Mathlib.Omega.{arith}
use lib.ListN.{length, get_or}
use lib.Seq.{ext_get_or}
use Rattle.positions.proofs.Unique.{described}
use Rattle.derivation.specs.Grammar.{Grammar}
use Rattle.derivation.specs.Fact.{Fact}
use Rattle.derivation.proofs.Table.{depth_is_unique}
use Rattle.derivation.proofs.Rounds.{rounds_unique}
use Rattle.checks.specs.Memory.{chart_size, depths_size}
use Rattle.filling.specs.Filled.{WorkFilled, Filled}
use Rattle.filling.proofs.RowLaws.{row_of}

-- two rows of memory that have the same entries below `size`, and past it those of a third
same_memory : (size : ℕ) (m a c : List ℕ) → length a ≡ length m → length c ≡ length m →
    ((q : ℕ) → size ≤ q → get_or a q 0 ≡ get_or m q 0) → ((q : ℕ) → size ≤ q → get_or c q 0 ≡ get_or m q 0) →
    ((q : ℕ) → q < size → get_or a q 0 ≡ get_or c q 0) → a ≡ c
same_memory size m a c la lc pa pc same = ext_get_or 0 a c (la ∙ sym lc) (λ q l. go q (dec_lt q size))
  where
    go : (q : ℕ) → Dec (q < size) → get_or a q 0 ≡ get_or c q 0
    go q (yes l) = same q l
    go q (no n) = pa q (omega arith) ∙ sym (pc q (omega arith))

module _ (G : Grammar) (line words depths : List ℕ) {a b c d : List ℕ} (x : WorkFilled G line words depths a b) (y : WorkFilled G line words depths c d) where
  -- a word below the chart's size is that of some category and start
  same_word : (q : ℕ) → q < chart_size (length G.categories) (length line) → get_or a q 0 ≡ get_or c q 0
  same_word q l =
      let r = row_of q (length G.categories) (length line + 1) (omega arith) l in
      let i : r.1 ≤ length line = omega (arith, r.3) in
      rw r.4 (described (Fact G line r.0 r.1) _ _ (x.word r.0 r.1 r.2 i) (y.word r.0 r.1 r.2 i))

  -- a number below the depths' size is that of some category, start and end
  same_depth : (q : ℕ) → q < depths_size (length G.categories) (length line) → get_or b q 0 ≡ get_or d q 0
  same_depth q l =
      let e = row_of q (chart_size (length G.categories) (length line)) (length line + 1) (omega arith) l in
      let r = row_of e.0 (length G.categories) (length line + 1) (omega arith) e.2 in
      let i : r.1 ≤ length line = omega (arith, r.3) in
      let j : e.1 ≤ length line = omega (arith, e.3) in
      rw (e.4, r.4) (depth_is_unique (x.depth r.0 r.1 e.1 r.2 i j) (y.depth r.0 r.1 e.1 r.2 i j))

  pub filled_unique : (a ≡ c) × (b ≡ d)
  filled_unique = (
    same_memory _ words a c x.words_long y.words_long x.words_past y.words_past same_word,
    same_memory _ depths b d x.depths_long y.depths_long x.depths_past y.depths_past same_depth,
  )

pub filling_unique :
    (G : Grammar) (line words depths : List ℕ) {a b c d : List ℕ} {r q : ℕ} →
    Filled G line words depths a b r → Filled G line words depths c d q → (a ≡ c) × (b ≡ d) × (r ≡ q)
filling_unique G line words depths x y =
    let w = filled_unique G line words depths x.work y.work in
    (w.0, w.1, rounds_unique x.most y.most)
