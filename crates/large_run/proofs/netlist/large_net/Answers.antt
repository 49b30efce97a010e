use Rattle.std.proofs.Common.{◌≤◌, ◌∙◌, sym, subst}
use Rattle.std.specs.List.{All}
use Rattle.net_defs.specs.{declared.netlist.Netlist.Netlist, declared.netlist.Signal.Signal, Loops.IsCircle, Valid.IsValid, Valid.operand_count}
use Rattle.large_run.specs.Draws.{IsState}
use Rattle.large_run.proofs.ValidLemmas.{net_is, valid_large, large_counts, no_circle_large}
use Rattle.large_run.proofs.DrawLemmas.{signals_are, gate_state_is}
use Rattle.large_run.proofs.netlist.large_net.Goals as goal

pub returns-clause-net : goal.returns-clause-net
returns-clause-net c =
    let signals = signals_are c.new-signals.result c.push_inputs.new.signals c.push_gates.new.signals c.args.gates c.new-signals.ensures c.in_ok-push_inputs.ensures c.in_ok-push_gates.ensures.signals in
    net_is c.push_gates.new.signals c.in_ok-printed.printed c.new.result c.args.gates signals c.in_ok-printed.ensures c.new.ensures

pub returns-clause-valid : goal.returns-clause-valid
returns-clause-valid c = subst IsValid (sym (returns-clause-net c)) (valid_large c.args.gates c.requires)

pub returns-clause-narrow : goal.returns-clause-narrow
returns-clause-narrow c = subst (λ (net : Netlist). All (λ (signal : Signal). operand_count signal.driver ≤ 4) net.signals) (sym (returns-clause-net c)) (large_counts c.args.gates c.requires)

pub returns-clause-no_loop : goal.returns-clause-no_loop
returns-clause-no_loop c = λ timing members. subst (λ (net : Netlist). IsCircle net timing members → ⊥) (sym (returns-clause-net c)) (no_circle_large c.args.gates timing members)

pub returns-clause-state_valid : goal.returns-clause-state_valid
returns-clause-state_valid c = subst IsState (sym (c.reached.ensures ∙ c.in_ok-push_gates.ensures.state)) (gate_state_is c.args.gates)
