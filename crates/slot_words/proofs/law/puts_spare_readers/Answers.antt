use Rattle.slot_words.proofs.AllowLemmas.{put_spares}
use Rattle.slot_words.specs.plain.Words.{plain}
use Rattle.slot_words.proofs.law.puts_spare_readers.Goals as goal

pub returns : goal.returns
returns c = put_spares plain
