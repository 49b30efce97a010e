use Rattle.image_check.proofs.check.check_image.Goals as goal

pub returns-in-Ok-clause-says : goal.returns-in-Ok-clause-says
returns-in-Ok-clause-says c = c.check_laid.ensures
