use Rattle.machine_text.proofs.VersionLemmas.{reads_behind}
use Rattle.machine_text.proofs.law.reads_behind_version_two.Goals as goal

pub returns : goal.returns
returns c = reads_behind
