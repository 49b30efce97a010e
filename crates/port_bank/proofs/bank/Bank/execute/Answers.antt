use Rattle.std.proofs.Common.{subst, sym, arith}
use Rattle.image_defs.specs.Ports.{CanExecute, value_in}
use Rattle.port_bank.specs.Words.{InEachLane, AreValues}
use Rattle.port_bank.proofs.LaneBanks.{item_bounds, kept_executed}
use Rattle.port_bank.proofs.bank.Bank.execute.Goals as goal

pub overflow_add-self : goal.overflow_add-self
overflow_add-self g c =
    let can = subst (InEachLane g.W.Word (λ view. CanExecute view c.args.slot)) (sym c.self.view_is) c.requires.can in
    omega (arith, (item_bounds g.W.Word.lanes g.met.W.Word.some g.W.Word.lane g.W.Word.stimulus _ _ _ c.args.slot c.self.invariant can).0, c.ranges.slot)

pub invariant_of-self : goal.invariant_of-self
invariant_of-self g c =
    let can = subst (InEachLane g.W.Word (λ view. CanExecute view c.args.slot)) (sym c.self.view_is) c.requires.can in
    let value = subst (AreValues g.W.Word c.args.v (λ view. value_in view c.args.slot)) (sym c.self.view_is) c.requires.value in
    kept_executed g.W.Word.lanes g.met.W.Word.some g.W.Word.lane g.W.Word.stimulus _ _ _ c.set.new.self c.args.slot c.args.v c.self.invariant can value c.set.ensures.count c.set.ensures.lanes
