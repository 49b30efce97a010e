use Rattle.std.proofs.Common.{refl}
use Rattle.bench_text.proofs.scan.token.Goals as goal

pub returns : goal.returns
returns c = refl
