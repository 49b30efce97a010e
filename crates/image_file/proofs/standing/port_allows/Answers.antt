use Rattle.std.proofs.Common.{refl}
use Rattle.image_file.proofs.standing.port_allows.Goals as goal

pub returns-in-Send : goal.returns-in-Send
returns-in-Send c = rw (c.in-Send.is, c.len.ensures) refl
