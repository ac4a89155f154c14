-- The rows of one more category are committed, and it has changed where one of them has something new.
use Rattle.std.proofs.Common.{◌+◌, ◌*◌, sym, ◌∙◌, inl, inr, ⊎_elim, arith}
use Rattle.std.proofs.Math.Nat.{mul-le-mul_right}
use Rattle.std.proofs.lemmas.Bool.{false≢true}
use Rattle.filling.proofs.RowLaws.{row_before_lem}
use Rattle.filling.proofs.CommitLaws.{all_none, all_more, ready_kept, ready_fewer}
use Rattle.filling.proofs.commit.Round.commit.Goals as goal
use Rattle.filling.proofs.commit.Round.commit.Goals.{then-commit_rows, else-commit_rows}

pub loop-a-init : goal.loop-a-init
loop-a-init c =
    let a = c.args in
    let round = a.self.now in
    all_none round.width round.depth round.next.now a.words.now a.depths.now

pub commit_rows-requires : goal.commit_rows-requires
commit_rows-requires c =
    let a = c.args in
    let round = a.self.now in
    let l = c.loop-a in
    let k = row_before_lem l.a a.categories round.width c.loop-a-test.true in (
      ready_fewer (a.categories * round.width) (l.a * round.width + round.width) round.width k l.words round.next.now l.depths
          (ready_kept round.width round.depth round.next.now 0 (l.a * round.width) (a.categories * round.width) a.words.now a.depths.now l.words l.depths l.invariant.committed c.requires.0),
      omega (arith, k, mul-le-mul_right {m = a.categories} {n = 32} round.width c.requires.1),
    )

pub loop-a-preserved : goal.loop-a-preserved
loop-a-preserved c =
    let k = c.commit_rows in
    let a = c.args in
    let round = a.self.now in
    let l = c.loop-a in
    all_more round.width round.depth round.next.now l.a a.words.now a.depths.now l.words l.depths k.new.words k.new.depths l.changed c.if-commit_rows.changed k.result
    (λ q j h. c.requires.0.narrow q j (omega (arith, row_before_lem l.a a.categories round.width c.loop-a-test.true))) l.invariant k.ensures
    (λ A. elim c.if-commit_rows.branch [
      | then-commit_rows w ↦ rw w.changed-is (λ m. ⊎_elim inl (λ e. inr (e, w.if-commit_rows.true)) ((w.insert-changed.ensures A).0 m), λ s. (w.insert-changed.ensures A).1 (⊎_elim inl (λ e. inr e.0) s))
      | else-commit_rows w ↦ rw w.changed-is (inl, ⊎_elim (λ m. m) (λ e. absurd (false≢true (sym w.if-commit_rows.false ∙ e.1))))
    ])
