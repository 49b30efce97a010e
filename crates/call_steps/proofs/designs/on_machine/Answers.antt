-- The image is one of the netlist, and that of the machine.
use Rattle.std.proofs.Common.{refl}
use Rattle.call_steps.proofs.ImageLemmas.{image_of}
use Rattle.call_steps.proofs.designs.on_machine.Goals as goal

pub invariant_of-result : goal.invariant_of-result
invariant_of-result c =
    let planned = c.planned.inside in
    let is = c.planned.invariant in
    let design = is.is.design in
    let compiled = planned.chosen.compiled in
    record {
      machine_valid = is.machine_valid;
      runnable = record {
        valid = is.valid;
        image = image_of planned.net planned.timing compiled.nodes compiled.image _ design.items.items design.built.fits design.built.matches
            (c.same_inputs.ensures planned.net planned.timing compiled.nodes is.valid design.items.items) is.shows;
      };
      made = record { chosen = planned.chosen; is = is.is; image_is = refl };
    }
