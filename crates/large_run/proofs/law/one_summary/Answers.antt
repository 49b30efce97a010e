use Rattle.std.proofs.Common.{◌≡◌, ◌∙◌, ◌-◌, length, refl, sym, ap}
use Rattle.home_pick.proofs.HomeLemmas.{homes_are}
use Rattle.large_run.specs.{Large.gate_state, Large.large_netlist, Large.large_stimulus, Summaries.summary_text, Runs.cells_to, Runs.summary_of}
use Rattle.large_run.specs.Setting.{large_machine, large_timing}
use Rattle.large_run.proofs.{ValidLemmas.no_circle_large, ValidLemmas.valid_large, OneLemmas.crossings_there, OneLemmas.one_summary as same_summary}
use Rattle.large_run.proofs.SettingLemmas.{machine_valid}
use Rattle.node_defs.specs.declared.items.NodeNet.{NodeNet}
use Rattle.plan_defs.specs.Slots.{IsFirstFitPlan}
use Rattle.yse_compile.proofs.FitLemmas.{moved}
use Rattle.net_defs.specs.{Reference.HasOneSimulation, Steps.State}
use Rattle.std.specs.Prelude.{List}
use Rattle.plan_text.specs.Counted.{AreCrossings}
use Rattle.large_run.proofs.law.one_summary.Goals as goal

pub returns-clause-some : goal.returns-clause-some
returns-clause-some c gates cycles few =
    let fits = c.large_fits.ensures gates few in
    let formed = c.items_are_well_formed.ensures (large_netlist gates) large_timing fits.nodes (valid_large gates few) fits.items.items in
    let crossed = crossings_there fits.nodes fits.homes formed (homes_are fits.nodes large_machine fits.homes formed machine_valid fits.picked) in
    let simulated : HasOneSimulation (large_netlist gates) large_timing (large_stimulus (gate_state gates) cycles) =
    c.one_simulation.ensures.without_loop (large_netlist gates) large_timing (large_stimulus (gate_state gates) cycles) (no_circle_large gates large_timing) in (
      summary_text (summary_of gates fits.nodes fits.plan crossed.0 (cells_to (large_netlist gates) large_timing simulated.states cycles)),
      record {
        nodes = fits.nodes;
        items = fits.items;
        homes = fits.homes;
        picked = fits.picked;
        plan = fits.plan;
        first_fit = fits.first_fit;
        crossings = crossed.0;
        crossed = crossed.1;
        states = simulated.states;
        simulation = simulated.exists;
        summary = refl;
      },
    )

pub returns-clause-one : goal.returns-clause-one
returns-clause-one c gates cycles one other few a b =
    let nodes = c.one_list.ensures.one (large_netlist gates) large_timing a.nodes b.nodes a.items b.items in
    let homes = c.one_homes.ensures (large_netlist gates) large_machine large_timing a.nodes b.nodes a.items b.items a.homes b.homes a.picked b.picked in
    let plans = c.one_plan.ensures b.nodes b.homes a.plan b.plan (c.items_are_well_formed.ensures (large_netlist gates) large_timing b.nodes (valid_large gates few) b.items.items)
    (moved (λ n h. IsFirstFitPlan n h a.plan) nodes homes a.first_fit) b.first_fit in
    let crossings = c.one_crossing_count.ensures b.nodes b.homes a.crossings b.crossings (moved (λ n h. AreCrossings n h a.crossings) nodes homes a.crossed) b.crossed in
    let simulated : HasOneSimulation (large_netlist gates) large_timing (large_stimulus (gate_state gates) cycles) =
    c.one_simulation.ensures.without_loop (large_netlist gates) large_timing (large_stimulus (gate_state gates) cycles) (no_circle_large gates large_timing) in
    let states : a.states ≡ b.states = simulated.only a.states a.simulation ∙ sym (simulated.only b.states b.simulation) in
    a.summary
    ∙ (ap summary_text (same_summary gates (length a.nodes.items - a.nodes.first_node) a.plan.needed a.crossings (length b.nodes.items - b.nodes.first_node) b.plan.needed b.crossings
    (cells_to (large_netlist gates) large_timing a.states cycles) (cells_to (large_netlist gates) large_timing b.states cycles)
    (ap (λ (n : NodeNet). length n.items - n.first_node) nodes) plans.1 crossings (ap (λ (states : List State). cells_to (large_netlist gates) large_timing states cycles) states))
    ∙ sym b.summary)
