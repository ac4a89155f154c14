-- A record of the forest as it is written: its five numbers.
use Rattle.derivation.specs.Branch as derivation
use Rattle.forest.specs.declared.Branch.{Branch}

abbrev pub record_of : derivation.BranchValue → Branch
record_of b = record { rule = b.rule; place = b.place; start = b.start; middle = b.middle; end = b.end }
