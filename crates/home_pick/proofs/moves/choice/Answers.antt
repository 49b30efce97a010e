use Rattle.std.proofs.Common.{◌≡◌, get_or, refl, ap, arith}
use Rattle.plan_defs.specs.Homes.{home_of}
use Rattle.home_pick.proofs.{LoadLemmas.node_home, WorkLemmas.choice_is}
use Rattle.home_pick.proofs.moves.choice.Goals as goal

pub strongest-requires-clause-own : goal.strongest-requires-clause-own
strongest-requires-clause-own c =
    let home = node_home c.args.nodes.now c.args.work.now.homes c.args.v c.requires.nodes c.requires.work.are c.requires.node.0 c.requires.node.1 in
    let own : get_or c.as_slice.result.now c.args.v 0 ≡ home_of c.args.work.now.homes c.args.v = ap (λ xs. get_or xs c.args.v 0) c.as_slice.ensures in
    omega (arith, home, own, c.requires.work.size)

pub returns-clause-best : goal.returns-clause-best
returns-clause-best c =
    choice_is c.args.nodes.now c.args._machine.now c.args._bound c.args.work.now c.args.work.now.pulls.at c.as_slice-2.result.now c.args.most.now c.args.v (get_or c.as_slice.result.now c.args.v 0) c.strongest.result
    c.requires.nodes c.requires.work c.requires.most c.requires.node.0 c.requires.node.1 refl c.as_slice-2.ensures (ap (λ xs. get_or xs c.args.v 0) c.as_slice.ensures) c.strongest.ensures.first
