use Rattle.std.proofs.Common.{rules}
use Rattle.image_defs.specs.{Claimed.HasTiming, WellFormed.IsWellFormed}
use Rattle.image_check.proofs.FirstLemmas.{all_match}
use Rattle.image_check.proofs.check.check_laid.Goals as goal

pub returns : goal.returns
returns c =
    let form : IsWellFormed c.args.file.now.image = search rules in
    let timing : HasTiming c.args.file.now.image c.args.nodes.now c.args.timing.now = search rules in
    (form, all_match c.args.file.now c.args.nodes.now c.args.timing.now c.requires.claims timing (rw c.in_default.is at c.first_place.ensures) (rw c.in_default-first_column.is at c.first_column.ensures))
