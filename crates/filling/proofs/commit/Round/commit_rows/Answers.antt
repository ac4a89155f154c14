-- A row that is passed is committed where it differs from that of `next`, and has nothing new where it does not.
use Rattle.std.proofs.Common.{◌≡◌, ◌<◌, ◌+◌, ◌*◌, ◌↔◌, ◌⊎◌, Bool, true, false, refl, inl, inr, ⊎_elim, get_or, set, arith}
use Rattle.std.proofs.lemmas.Bool.{false≢true}
use lib.Arith.{digits_lt}
use Rattle.positions.proofs.Members.{xor_member}
use Rattle.filling.proofs.CommitLaws.{rows_same, ready_kept, row_room, rows_join, row_new}
use Rattle.filling.proofs.DepthLaws.{lent_long}
use Rattle.filling.proofs.commit.Round.commit_rows.Goals as goal
use Rattle.filling.proofs.commit.Round.commit_rows.Goals.{then-new-old, else-new-old}

-- a range with nothing new adds nothing
alone : {g : Bool} → (g ≡ true) ↔ ((g ≡ true) ⊎ (false ≡ true))
alone = (inl, ⊎_elim (λ x. x) (λ x. absurd (false≢true x)))

pub write_depths-requires : goal.write_depths-requires
write_depths-requires c = λ j m.
    let a = c.args in
    let round = a.self.now in
    let l = c.loop-q in
    let r = ready_kept round.width round.depth round.next.now a.from l.q a.to a.words.now a.depths.now l.words l.depths l.invariant.rows.committed c.requires.0 in
    let h : l.q < a.to = omega arith in
    omega (arith, digits_lt h (r.narrow l.q j h ((xor_member _ _ j (r.grows l.q j h)).0 m).0), r.depths_room, lent_long (l.q * round.width) l.depths)

pub loop-q-preserved : goal.loop-q-preserved
loop-q-preserved c =
    let a = c.args in
    let round = a.self.now in
    let l = c.loop-q in
    let r = ready_kept round.width round.depth round.next.now a.from l.q a.to a.words.now a.depths.now l.words l.depths l.invariant.rows.committed c.requires.0 in
    let join = rows_join round.width round.depth round.next.now a.from l.q (l.q + 1) (omega arith) (omega arith) a.words.now a.depths.now l.words l.depths l.invariant.rows.committed
    (λ q j h. c.requires.0.narrow q j (omega arith)) in
    record {
      inside = omega arith;
      rows =
          elim c.if-new-old.branch [
            | then-new-old w ↦
                rw (w.words-is, w.depths-is, w.gained-is)
                (join (set l.words l.q (get_or round.next.now l.q 0)) _ l.gained true true l.invariant.rows.gains
                (row_new round.width round.depth round.next.now l.q l.words l.depths (omega (arith, r.words_room)) (λ j. r.grows l.q j (omega arith)) (row_room r (omega arith)) w.write_depths.new.depths
                w.write_depths.ensures w.if-new-old.true)
                (λ x. inr refl, λ x. refl))
            | else-new-old w ↦
                rw (w.words-is, w.depths-is, w.gained-is)
                (join l.words l.depths l.gained false l.gained l.invariant.rows.gains
                (rows_same round.width round.depth round.next.now l.q (l.q + 1) l.words l.depths (λ m k h. let e : m ≡ l.q = omega arith in rw e w.if-new-old.false)) alone)
          ];
    }

pub returns : goal.returns
returns c =
    let a = c.args in
    let round = a.self.now in
    let l = c.loop-q in
    rows_join round.width round.depth round.next.now a.from l.q a.to (omega arith) l.invariant.inside a.words.now a.depths.now l.words l.depths l.invariant.rows.committed
    c.requires.0.narrow l.words l.depths l.gained false l.gained l.invariant.rows.gains
    (rows_same round.width round.depth round.next.now l.q a.to l.words l.depths (λ p k h. absurd (omega arith))) alone
