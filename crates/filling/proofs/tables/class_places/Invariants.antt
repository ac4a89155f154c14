-- Each word has the positions of its class among the tokens passed.
use Rattle.filling.proofs.TableLaws.{PlacesBelow}
use Rattle.filling.proofs.tables.class_places.Given as goal

abbrev pub invariant-loop-m : goal.invariant-loop-m
invariant-loop-m l = PlacesBelow l.line l.m l.places
