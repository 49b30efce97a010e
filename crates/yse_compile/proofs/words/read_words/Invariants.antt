use Rattle.image_defs.specs.Places.{Each}
use Rattle.image_file.specs.Ranges.{tables_of}
use Rattle.image_check.proofs.lemmas.EachLemmas.{EachBelow}
use Rattle.func_table.specs.Entries.{HasWords}
use Rattle.yse_compile.proofs.words.read_words.Given as goal

abbrev pub invariant-ports : goal.invariant-ports
invariant-ports l = EachBelow (λ port. Each HasWords (tables_of port.work)) l.p l.image.ports
