use Rattle.image_file.specs.declared.refusal.ImageNo.TheVariants.{Memory as NoMemory}
use Rattle.image_file.proofs.AgainLemmas.{answers_from, only_from}
use Rattle.image_file.proofs.reading.read_image.Goals as goal

pub returns-clause-answers : goal.returns-clause-answers
returns-clause-answers c = answers_from NoMemory c.args.bytes.now c.read_lines.result c.read_lines.ensures

pub returns-clause-only : goal.returns-clause-only
returns-clause-only c file reads = only_from NoMemory c.args.bytes.now c.read_lines.result file c.read_lines.ensures reads
