-- The kinds that are answered by one formula.
use Rattle.std.specs.Prelude.{Bool, false}
use Rattle.logic_four.specs.{declared.Kind.Kind, declared.Kind.TheVariants.Bus, Folds.takes_many}

-- the kinds that the formula answers: those that may have any number of operands, but for BUS
abbrev pub is_usual : Kind → Bool
is_usual Bus = false
is_usual kind = takes_many kind
