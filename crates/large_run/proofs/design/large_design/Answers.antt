use Rattle.std.proofs.Common.{ap, subst, ◌∙◌}
use Rattle.large_run.specs.{Large.large_stimulus, Setting.large_machine, Setting.large_timing}
use Rattle.net_defs.specs.declared.netlist.Netlist.{Netlist}
use Rattle.yse_compile.specs.Compiled.{IsCompiled, ShowsReference}
use Rattle.large_run.proofs.design.large_design.Goals as goal

pub large_net-requires : goal.large_net-requires
large_net-requires c = c.requires.few_gates

pub large_rows-requires-clause-state : goal.large_rows-requires-clause-state
large_rows-requires-clause-state c = c.in_ok-made.ensures.state_valid

pub large_rows-requires-clause-cycles : goal.large_rows-requires-clause-cycles
large_rows-requires-clause-cycles c = c.requires.few_cycles

pub compile_large-requires-clause-valid : goal.compile_large-requires-clause-valid
compile_large-requires-clause-valid c = c.in_ok-made.ensures.valid

pub compile_large-requires-clause-fits : goal.compile_large-requires-clause-fits
compile_large-requires-clause-fits c = rw c.in_ok-made.ensures.net (c.large_fits.ensures c.args.gates c.requires.few_gates)

pub figures-requires-clause-few : goal.figures-requires-clause-few
figures-requires-clause-few c = c.requires.few_gates

pub figures-requires-clause-compiled : goal.figures-requires-clause-compiled
figures-requires-clause-compiled c =
    subst (λ (net : Netlist). IsCompiled net large_machine large_timing c.in_ok-compiled.compiled) c.in_ok-made.ensures.net c.in_ok-compiled.ensures.compiled

pub returns : goal.returns
returns c =
    let compiled = c.in_ok-compiled.compiled in
    let net_is = c.in_ok-made.ensures.net in
    record {
      compiled = subst (λ (net : Netlist). IsCompiled net large_machine large_timing compiled) net_is c.in_ok-compiled.ensures.compiled;
      shown = λ stimulus. subst (λ (net : Netlist). ShowsReference net large_timing stimulus compiled.image) net_is (c.in_ok-compiled.ensures.shown stimulus);
      figures = c.in_ok-figures.ensures;
      rows = c.in_ok-rows.ensures.stimulus ∙ ap (λ state. large_stimulus state c.args.cycles) c.in_ok-made.ensures.state;
      rows_valid = c.in_ok-rows.ensures.valid;
      rows_long = c.in_ok-rows.ensures.cycles;
    }
