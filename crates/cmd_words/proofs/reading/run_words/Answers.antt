-- What the settings and the texts make is what the files and the values ask for.
use Rattle.std.proofs.Common.{inr, ap, ◌∙◌, sym, refl, option_map}
use Rattle.cmd_words.specs.code.Parses.{value_found}
use Rattle.cmd_words.proofs.AskLemmas.{run_of, run_set}
use Rattle.cmd_words.proofs.reading.run_words.Goals as goal

pub returns-in_default : goal.returns-in_default
returns-in_default c =
    let value = value_found c.args.matches.now in
    inr (refl, run_set c.args.netlist.now c.args.stimulus.now value ∙ ap (option_map (run_of c.args.netlist.now c.args.stimulus.now value)) (sym c.in_default.ensures))

pub returns : goal.returns
returns c =
    let value = value_found c.args.matches.now in
    rw (c.in_ok-netlist.ensures.0, c.in_ok-netlist.ensures.1, c.in_ok-machine.ensures.0, c.in_ok-machine.ensures.1, c.in_ok-machine.ensures.2, c.in_ok-machine.ensures.3)
    (run_set c.args.netlist.now c.args.stimulus.now value ∙ ap (option_map (run_of c.args.netlist.now c.args.stimulus.now value)) (sym c.in-Some.ensures))
