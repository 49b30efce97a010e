use Rattle.std.proofs.Common.{◌%◌, ◌<◌, length, subst}
use Rattle.plan_defs.specs.Lists.{IsLeastFree}
use Rattle.home_pick.specs.code.Rooms.{IsSpent}
use Rattle.home_pick.proofs.TurnLemmas.{in_turn, turned_more}
use Rattle.home_pick.proofs.turns.Turns.turn_port.Goals as goal

pub returns-clause-home : goal.returns-clause-home
returns-clause-home c =
    in_turn c.args.nodes.now c.args.machine.now c.args.self.now.ports c.args.n c.args.self.now.left c.args.self.now.skips c.requires.before c.requires.machine.logic_least c.requires.next c.first_past-past.result
    (subst (λ count. c.first_past-past.result < count) c.requires.before.logic (subst (λ left. c.first_past-past.result < length left) c.as_slice-2.ensures c.first_past-past.ensures.within))
    (subst (λ left. IsLeastFree (IsSpent left (c.args.n % c.args.machine.now.logic)) c.first_past-past.result) c.as_slice-2.ensures c.first_past-past.ensures.first)

pub returns-clause-turned : goal.returns-clause-turned
returns-clause-turned c =
    rw c.set-2.ensures (rw c.as_slice-3.ensures (rw c.set.ensures (
    turned_more c.args.nodes.now c.args.machine.now c.args.self.now.ports c.args.n c.args.self.now.left c.args.self.now.skips c.requires.before c.requires.machine.logic_least c.requires.next c.first_past-past.result
    (subst (λ count. c.first_past-past.result < count) c.requires.before.logic (subst (λ left. c.first_past-past.result < length left) c.as_slice-2.ensures c.first_past-past.ensures.within))
    (subst (λ left. IsLeastFree (IsSpent left (c.args.n % c.args.machine.now.logic)) c.first_past-past.result) c.as_slice-2.ensures c.first_past-past.ensures.first))))
