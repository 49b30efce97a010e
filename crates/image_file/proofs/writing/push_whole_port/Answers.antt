use Rattle.std.proofs.Common.{arith}
use Rattle.image_file.proofs.WritingLemmas.{port_text}
use Rattle.image_file.proofs.writing.push_whole_port.Goals as goal

pub returns : goal.returns
returns c = grind (arith, port_text)
