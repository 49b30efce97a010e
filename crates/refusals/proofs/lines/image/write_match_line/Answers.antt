use Rattle.refusals.proofs.lines.image.write_match_line.Goals as goal

pub returns-in-Place : goal.returns-in-Place
returns-in-Place g c = rw c.in-Place.is c.write_place_line.ensures
