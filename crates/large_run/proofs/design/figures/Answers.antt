use Rattle.home_pick.proofs.HomeLemmas.{homes_are}
use Rattle.large_run.specs.{Large.large_netlist, Setting.large_machine, Setting.large_timing}
use Rattle.large_run.proofs.{ValidLemmas.valid_large, SettingLemmas.machine_valid}
use Rattle.large_run.proofs.design.figures.Goals as goal

pub crossings-requires : goal.crossings-requires
crossings-requires c =
    let formed = c.items_are_well_formed.ensures (large_netlist c.args.gates) large_timing c.args.compiled.now.nodes (valid_large c.args.gates c.requires.few) c.requires.compiled.items.items in
    record { nodes = formed; homes = homes_are c.args.compiled.now.nodes large_machine c.args.compiled.now.homes formed machine_valid c.requires.compiled.picked }
