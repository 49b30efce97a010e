use Rattle.image_build.proofs.host.host_work.Goals as goal

pub returns : goal.returns
returns c = let printed = rw c.as_slice.ensures at c.in_ok-printed.ensures in (c.requires.host, c.in_ok-inputs.ensures, printed)
