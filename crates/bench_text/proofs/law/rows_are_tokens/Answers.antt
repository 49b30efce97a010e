use Rattle.bench_text.proofs.TokenLemmas.{rows_are_tokens}
use Rattle.bench_text.proofs.law.rows_are_tokens.Goals as goal

pub returns : goal.returns
returns c = rows_are_tokens
