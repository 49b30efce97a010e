use Rattle.std.proofs.Common.{All, ◌≤◌, ◌^◌, arith, subst, sym}
use Rattle.std.proofs.lemmas.List.Elements.{All-replicate}
use Rattle.yse.proofs.tests.watch.watch_gate.Goals as goal

pub returns : goal.returns
returns c = subst (All (λ n. n ≤ 2 ^ 62)) (sym c.new.ensures.times) (All-replicate (λ n. n ≤ 2 ^ 62) 256 0 (omega arith))
