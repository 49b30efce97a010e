-- Beside specs/Answers.antt, what only private functions and proofs cite.
use Rattle.std.specs.Prelude.{Option, Some, None, Result, Ok, Err}

-- a fault, or the value where there is none
abbrev pub fault_or : {T E : Type 0} → Option E → T → Result T E
fault_or None x = Ok x
fault_or (Some fault) x = Err fault
