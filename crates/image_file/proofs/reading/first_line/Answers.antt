use Rattle.image_file.proofs.reading.first_line.Goals as goal

pub returns : goal.returns
returns c = c.split_once.ensures
