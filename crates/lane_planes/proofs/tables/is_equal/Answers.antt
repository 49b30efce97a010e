use Rattle.std.proofs.{Common.List, Common.ℕ, Common.ap, lemmas.Slice.Eq.slice_eq-Decides, lemmas.Bool.Decides.Decides-eqb}
use Rattle.func_table.specs.declared.table.Table.{Table}
use Rattle.lane_planes.proofs.tables.is_equal.Goals as goal

pub returns : goal.returns
returns c = λ yes.
    let table : List ℕ → Table = λ words. record { words = words } in
    let decides = slice_eq-Decides Decides-eqb c.args.table.now.words c.args.other.now.words c.eq.result c.eq.ensures in
    ap table (decides.0 yes)
