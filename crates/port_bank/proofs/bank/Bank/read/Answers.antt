use Rattle.std.proofs.Common.{subst}
use Rattle.port_bank.specs.{Reads.IsRead, Words.InEachLaneOf}
use Rattle.port_bank.proofs.LaneBanks.{read_right}
use Rattle.port_bank.proofs.bank.Bank.read.Goals as goal

pub returns : goal.returns
returns g c =
    subst (InEachLaneOf g.W.Word c.value.result (λ view v. IsRead view c.args.operand v)) c.self.view_is
    (read_right g.W.Word.lanes g.met.W.Word.some g.W.Word.lane g.W.Word.stimulus _ _ _ c.args.operand c.value.result c.self.invariant c.value.ensures)
