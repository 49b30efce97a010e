use Rattle.std.proofs.lemmas.{Slice.Eq.slice_eq-Decides, Bool.Decides.Decides-eqb}
use Rattle.func_table.proofs.EntryLemmas.{equal_or_other}
use Rattle.func_table.proofs.shelf.is_equal.Goals as goal

pub returns : goal.returns
returns c =
    equal_or_other c.eq.result c.args.table.now c.args.other.now
    (slice_eq-Decides Decides-eqb c.args.table.now.words c.args.other.now.words c.eq.result c.eq.ensures)
    c.entries_decide.ensures
