use Rattle.std.proofs.Common.{◌≡◌, ◌∙◌, get_or, ap, arith}
use Rattle.std.specs.{Prelude.max, List.fold, List.range_with_len}
use Rattle.home_pick.specs.Better.{load_at, most_load}
use Rattle.home_pick.proofs.LoadLemmas.{most_more}
use Rattle.home_pick.proofs.loads.most_of.Goals as goal

pub ports-preserved : goal.ports-preserved
ports-preserved c =
    let size = c.requires.loads.size in
    c.max-most.ensures ∙ most_more c.args._nodes.now c.args._homes.now c.ports.most (get_or c.args.loads.now c.ports.p 0) c.ports.p c.ports.invariant (c.requires.loads.each c.ports.p (omega (arith, size)))

pub returns : goal.returns
unfolding most_load
returns c =
    let size = c.requires.loads.size in
    let all : c.ports.p ≡ c.args._homes.now.logic = omega (arith, size) in
    c.ports.invariant ∙ ap (λ n. fold (λ m port. max m (load_at c.args._nodes.now c.args._homes.now port)) 0 (range_with_len 0 n)) all
