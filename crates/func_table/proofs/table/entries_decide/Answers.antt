use Rattle.std.proofs.Common.{rules, arith}
use Rattle.func_table.proofs.EntryLemmas.{same_table}
use Rattle.func_table.proofs.table.entries_decide.Goals as goal

pub returns : goal.returns
returns c =
    same_table c.args.table.now c.args.other.now (omega arith) (omega arith)
    (λ k _. search (rules, c.type_inv.table)) (λ k _. search (rules, c.type_inv.other))
