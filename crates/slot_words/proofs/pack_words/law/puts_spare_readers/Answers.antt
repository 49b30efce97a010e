use Rattle.slot_words.proofs.PackedLemmas.{put_spares}
use Rattle.slot_words.proofs.pack_words.law.puts_spare_readers.Goals as goal

pub returns : goal.returns
returns c = put_spares
