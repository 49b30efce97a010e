-- A compiled image is in range and matches, so it is taken.
use Rattle.yse_top.proofs.AcceptedLemmas.{image_taken}
use Rattle.yse_top.proofs.law.compiled_images_are_taken.Goals as goal

pub returns : goal.returns
returns c net machine timing compiled claims valid machine_valid is are =
    image_taken net timing compiled.nodes (record { image = compiled.image; claims = claims }) c.reads_or_faults.ensures.reader (c.one_list.ensures.one net timing)
    (c.matches_or_not.ensures.one (record { image = compiled.image; claims = claims }) compiled.nodes timing)
    is.items (c.designs_are_in_range.ensures net machine timing compiled claims valid machine_valid is are) (is.built.fits, are.matches timing is.built)
