use Rattle.std.proofs.Common.{◌∙◌, ◌%◌, ap, sym}
use Rattle.large_run.proofs.DrawLemmas.{gate_is, gate_end, length-operands}
use Rattle.large_run.proofs.gate.gate_driver.Goals as goal

pub driver-requires : goal.driver-requires
driver-requires c = let few = c.count_drawn-count.ensures.few in rw (c.in_ok-ops.ensures.operands, length-operands c.count_drawn-count.new.draws.state c.args.j c.count_drawn-count.result) few.0

pub returns-clause-driver : goal.returns-clause-driver
returns-clause-driver c =
    c.driver.ensures ∙ gate_is c.args.draws.now.state c.args.j (c.draw-number.result % 8) c.draw-number.new.self.state c.count_drawn-count.result c.count_drawn-count.new.draws.state c.draw-number.ensures.state
    (ap (λ d. d % 8) (c.draw-number.ensures.drawn ∙ sym c.draw-number.ensures.state)) c.count_drawn-count.ensures.count c.count_drawn-count.ensures.state c.in_ok-ops.ops c.in_ok-ops.ensures.operands

pub returns-clause-state : goal.returns-clause-state
returns-clause-state c =
    c.in_ok-ops.ensures.state ∙ gate_end c.args.draws.now.state c.args.j (c.draw-number.result % 8) c.draw-number.new.self.state c.count_drawn-count.result c.count_drawn-count.new.draws.state c.draw-number.ensures.state
    (ap (λ d. d % 8) (c.draw-number.ensures.drawn ∙ sym c.draw-number.ensures.state)) c.count_drawn-count.ensures.count c.count_drawn-count.ensures.state
