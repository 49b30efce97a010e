-- What is read is what the words ask for.
use Rattle.cmd_words.proofs.reading.exec.Goals as goal

pub returns : goal.returns
returns c = rw (c.as_slice.ensures) at c.accepted.ensures
