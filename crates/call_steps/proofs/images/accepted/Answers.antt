-- The image is one of the netlist whose items it matches.
use Rattle.image_defs.specs.Claimed.{lists_of}
use Rattle.call_steps.proofs.ImageLemmas.{image_of}
use Rattle.call_steps.proofs.images.accepted.Goals as goal

pub returns-in-Ok-clause-image : goal.returns-in-Ok-clause-image
returns-in-Ok-clause-image c =
    let net = c.args.mapped.net in
    let timing = c.args.timing.now in
    let nodes = c.args.mapped.nodes in
    let image = c.args.file.image in
    image_of net timing nodes image (lists_of c.args.file.claims) c.requires.items.items c.in-Ok.ensures.says.0 c.in-Ok.ensures.says.1
    (c.same_inputs.ensures net timing nodes c.requires.net c.requires.items.items)
    (c.matching_images_show.ensures net timing nodes image (lists_of c.args.file.claims) c.requires.net c.requires.items.items c.in-Ok.ensures.says.0 c.in-Ok.ensures.says.1)

pub returns-in-Err-clause-image : goal.returns-in-Err-clause-image
returns-in-Err-clause-image c = tt
