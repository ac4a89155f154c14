-- Before the first token no class has a position; past the last one the words are the places.
use Rattle.std.proofs.Common.{◌≡◌, length, arith}
use Rattle.filling.proofs.TableLaws.{places_none, places_all}
use Rattle.filling.proofs.tables.class_places.Goals as goal

pub loop-m-init : goal.loop-m-init
loop-m-init c = places_none _

pub returns : goal.returns
returns c =
    let e : c.loop-m.m ≡ length c.args.line.now = omega arith in
    places_all _ c.loop-m.places c.requires.short (rw e at c.loop-m.invariant)
