-- What one check finds: no fault, or a refusal.
use Rattle.std.specs.Prelude.{Result, Ok, ⊤}
use Rattle.refusals.specs.declared.Refusal.{Refusal}

abbrev pub Check : Type 0
Check = Result ⊤ Refusal

-- it finds no fault
abbrev pub nothing_wrong : Check
nothing_wrong = Ok tt
