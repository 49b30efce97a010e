use Rattle.image_check.proofs.lemmas.EachLemmas.{EachBelow}
use Rattle.func_table.specs.Entries.{HasWords}
use Rattle.yse_compile.proofs.words.tables_words.Given as goal

abbrev pub invariant-tables : goal.invariant-tables
invariant-tables l = EachBelow HasWords l.k l.tables
