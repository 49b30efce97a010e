use Rattle.std.proofs.Common.{refl}
use Rattle.port_bank.proofs.LaneBanks.{kept_new}
use Rattle.port_bank.proofs.bank.Bank.new.Goals as goal

pub invariant_of-result : goal.invariant_of-result
invariant_of-result g c =
    kept_new g.W.Word.lanes g.met.W.Word.some g.W.Word.lane g.W.Word.stimulus _ _ _ c.requires.image
    (g.met.W.Word.valid c.args.image.now.columns c.args.stim.now c.requires.stimulus) refl refl refl refl refl c.in_ok-places.ensures
