use Rattle.std.proofs.Common.{refl}
use Rattle.image_file.proofs.AgainLemmas.{one_file, none_from_reads}
use Rattle.image_file.proofs.law.reads_as_one.Goals as goal

pub returns : goal.returns
returns c = record { one = one_file; no_fault = none_from_reads; written = λ file is. record { is = refl; ranges = is } }
