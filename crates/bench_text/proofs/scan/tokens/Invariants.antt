use Rattle.std.proofs.Common.{◌≡◌}
use Rattle.bench_text.specs.Tokens.{tokens_before}
use Rattle.bench_text.proofs.PlaceLemmas.{HasScanned}
use Rattle.bench_text.proofs.scan.tokens.Given as goal

abbrev pub invariant-loop-i : goal.invariant-loop-i
invariant-loop-i l = record { scanned : HasScanned l.bytes l.i l.scan; so_far : l.list ≡ tokens_before l.bytes l.i }
