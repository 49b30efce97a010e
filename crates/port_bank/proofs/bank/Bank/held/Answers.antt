use Rattle.std.proofs.Common.{◌≡◌, subst}
use Rattle.image_defs.specs.Ports.{lane_port}
use Rattle.port_bank.specs.{Lanes.InEach, Reads.IsHeld}
use Rattle.port_bank.proofs.LaneBanks.{held_first, held_edge, held_past}
use Rattle.port_bank.proofs.bank.Bank.held.Goals as goal

pub returns-then-self-eq1 : goal.returns-then-self-eq1
returns-then-self-eq1 g c =
    subst (λ view. InEach g.W.Word.lanes (λ l. IsHeld (lane_port g.W.Word.stimulus l view) c.args.slot (g.W.Word.lane c.args.new l) (g.W.Word.lane c.of.result l))) c.self.view_is
    (held_first g.W.Word.lanes g.met.W.Word.some g.W.Word.lane g.W.Word.stimulus _ _ _ c.args.slot c.args.new c.of.result c.self.invariant c.if-self-eq1.true
    (subst (λ v. InEach g.W.Word.lanes (λ l. g.W.Word.lane c.of.result l ≡ v)) c.initial_value.ensures c.of.ensures))

pub returns-then-self : goal.returns-then-self
returns-then-self g c =
    subst (λ view. InEach g.W.Word.lanes (λ l. IsHeld (lane_port g.W.Word.stimulus l view) c.args.slot (g.W.Word.lane c.args.new l) (g.W.Word.lane c.args.new l))) c.self.view_is
    (held_edge g.W.Word.lanes g.met.W.Word.some g.W.Word.lane g.W.Word.stimulus _ _ _ c.args.slot c.args.new c.self.invariant c.if-self-eq1.false c.if-self.true)

pub returns-else-self : goal.returns-else-self
returns-else-self g c =
    subst (λ view. InEach g.W.Word.lanes (λ l. IsHeld (lane_port g.W.Word.stimulus l view) c.args.slot (g.W.Word.lane c.args.new l) (g.W.Word.lane c.past.result l))) c.self.view_is
    (held_past g.W.Word.lanes g.met.W.Word.some g.W.Word.lane g.W.Word.stimulus _ _ _ c.args.slot c.args.new c.past.result c.self.invariant c.if-self-eq1.false c.if-self.false c.past.ensures)
