use Rattle.std.proofs.Common.{subst, sym, arith}
use Rattle.image_defs.specs.Ports.{CanReceive}
use Rattle.port_bank.specs.Words.{InEachLaneOf}
use Rattle.port_bank.proofs.LaneBanks.{receipt_bounds, kept_received}
use Rattle.port_bank.proofs.bank.Bank.receive.Goals as goal

pub got_place-place-requires-clause-within : goal.got_place-place-requires-clause-within
got_place-place-requires-clause-within g c =
    let can = subst (InEachLaneOf g.W.Word c.args.v (λ view x. CanReceive view c.args.slot x)) (sym c.self.view_is) c.requires in
    (receipt_bounds g.W.Word.lanes g.met.W.Word.some g.W.Word.lane g.W.Word.stimulus _ _ _ c.args.slot c.args.v c.self.invariant can).1

pub set-requires : goal.set-requires
set-requires g c =
    let can = subst (InEachLaneOf g.W.Word c.args.v (λ view x. CanReceive view c.args.slot x)) (sym c.self.view_is) c.requires in
    rw c.got_place-place.ensures (receipt_bounds g.W.Word.lanes g.met.W.Word.some g.W.Word.lane g.W.Word.stimulus _ _ _ c.args.slot c.args.v c.self.invariant can).2

pub overflow_add-self : goal.overflow_add-self
overflow_add-self g c =
    let can = subst (InEachLaneOf g.W.Word c.args.v (λ view x. CanReceive view c.args.slot x)) (sym c.self.view_is) c.requires in
    omega (arith, (receipt_bounds g.W.Word.lanes g.met.W.Word.some g.W.Word.lane g.W.Word.stimulus _ _ _ c.args.slot c.args.v c.self.invariant can).0, c.ranges.slot)

pub invariant_of-self : goal.invariant_of-self
invariant_of-self g c =
    let can = subst (InEachLaneOf g.W.Word c.args.v (λ view x. CanReceive view c.args.slot x)) (sym c.self.view_is) c.requires in
    kept_received g.W.Word.lanes g.met.W.Word.some g.W.Word.lane g.W.Word.stimulus _ _ _ c.set.new.self c.args.slot c.args.v c.self.invariant can c.set.ensures.count (rw c.got_place-place.ensures at c.set.ensures.lanes)
