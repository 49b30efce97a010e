use Rattle.std.proofs.Common.{◌≡◌, ◌∙◌, ap, subst, arith}
use Rattle.home_pick.specs.{Better.IsBetter, Crossings.crossings}
use Rattle.home_pick.proofs.CrossingLemmas.{better_way, better_fewer, better_none}
use Rattle.home_pick.proofs.improve.better.Goals as goal

pub returns : goal.returns
returns c =
    let homes = c.args.homes.now in
    let work = c.settle_within.new.work in
    let better : IsBetter c.args.nodes.now c.args.machine.now homes work.homes = subst (λ h. IsBetter c.args.nodes.now c.args.machine.now h work.homes) c.in_ok-work.ensures.homes c.in_ok-settle_within.ensures.better in
    let way = better_way c.args.nodes.now c.args.machine.now homes work.homes c.requires.nodes c.requires.homes better in
    let fewer = better_fewer c.args.nodes.now c.args.machine.now homes work.homes c.requires.nodes c.requires.homes better in
    let before : c.in_ok-work.work.count ≡ crossings c.args.nodes.now homes = c.in_ok-work.ensures.work.count ∙ ap (crossings c.args.nodes.now) c.in_ok-work.ensures.homes in
    let after : work.count ≡ crossings c.args.nodes.now work.homes = c.in_ok-settle_within.ensures.work.count in
    record {
      better = better;
      before = before;
      after = after;
      fewer = omega (arith, fewer, before, after);
      homes = way.are;
      others = way.keeps;
      within = way.within;
      filled = way.filled;
      none_lowers = better_none c.args.nodes.now c.args.machine.now homes work.homes c.requires.nodes c.requires.homes better;
    }
