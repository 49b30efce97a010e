use Rattle.std.proofs.Common.{◌≡◌, ◌∙◌, ◌+◌, ◌<◌, List, ℕ, length, get_or, sym, ap, subst, arith}
use Rattle.std.specs.Prelude.{slice_index}
use Rattle.plan_defs.specs.Homes.{home_of}
use Rattle.home_pick.specs.{Bags.where_at, code.Bags.times, Crossings.crossings, Crossings.moved, Crossings.uses_by, code.Working.IsWork}
use Rattle.home_pick.proofs.WorkLemmas.{put_uses, put_loads, put_count, load_some, load_few, crossings_most}
use Rattle.home_pick.proofs.{LinkLemmas.taken_low, LinkLemmas.taken_times, LoadLemmas.node_home, MoveLemmas.moved_homes, SpreadLemmas.put_spread}
use Rattle.home_pick.proofs.moves.put.Goals.{After-as_slice, After-bag_of-taken, After-as_slice-3}
use Rattle.home_pick.proofs.moves.put.Goals as goal

-- where the node is
own_is : (c : After-as_slice) → get_or c.as_slice.result.now c.args.v 0 ≡ home_of c.args.work.now.homes c.args.v
own_is c = ap (λ xs. get_or xs c.args.v 0) c.as_slice.ensures

own_low : (c : After-as_slice) → get_or c.as_slice.result.now c.args.v 0 < c.args.work.now.homes.logic
own_low c = rw (own_is c) (node_home c.args.nodes.now c.args.work.now.homes c.args.v c.requires.nodes c.requires.work.are c.requires.node.0 c.requires.node.1)

counts : (c : After-bag_of-taken) (i : ℕ) → times c.bag_of-taken.result.now i ≡ uses_by c.args.nodes.now c.args.v i
counts c = taken_times c.args.nodes.now c.args.takes.now c.args.v c.bag_of-taken.result.now c.requires.takes c.requires.node.1 c.bag_of-taken.ensures

-- the crossings before and after
recounted : (c : After-as_slice-3) → crossings c.args.nodes.now (moved c.args.work.now.homes c.args.v c.args.port) + get_or c.as_slice-3.result.now c.args.port 0 ≡ c.args.work.now.count + get_or c.as_slice-2.result.now (get_or c.as_slice.result.now c.args.v 0) 0
recounted c =
    let own : ℕ = get_or c.as_slice.result.now c.args.v 0 in
    let work = c.requires.work in
    let own_at : own ≡ home_of c.args.work.now.homes c.args.v = ap (λ xs. get_or xs c.args.v 0) c.as_slice.ensures in
    let home = node_home c.args.nodes.now c.args.work.now.homes c.args.v c.requires.nodes work.are c.requires.node.0 c.requires.node.1 in
    put_count c.args.nodes.now c.args.work.now.homes c.args.v c.args.port c.args.work.now.count (get_or c.as_slice-2.result.now own 0) (get_or c.as_slice-3.result.now c.args.port 0) work.pulls.even c.requires.nodes work.are c.requires.node.0 c.requires.node.1 c.requires.port work.count
    (ap (λ xs. get_or xs own 0 + work.pulls.even) c.as_slice-2.ensures ∙ (ap (λ o. get_or c.args.work.now.pulls.at o 0 + work.pulls.even) own_at ∙ work.pulls.each (home_of c.args.work.now.homes c.args.v) (rw work.size home)))
    (ap (λ xs. get_or xs c.args.port 0 + work.pulls.even) c.as_slice-3.ensures ∙ work.pulls.each c.args.port (rw work.size c.requires.port))

pub give_bag-requires-clause-within : goal.give_bag-requires-clause-within
give_bag-requires-clause-within c = taken_low c.args.nodes.now c.args.v _ c.bag_of-taken.result.now c.requires.nodes (counts (goal.at.give_bag-requires-clause-within c).After-bag_of-taken) c.requires.work.without.size

pub bounds-as_slice-own : goal.bounds-as_slice-own
bounds-as_slice-own c = rw (c.as_slice-2.ensures, c.requires.work.size) (own_low (goal.at.bounds-as_slice-own c).After-as_slice)

pub recount-work-requires : goal.recount-work-requires
recount-work-requires c = record {
  few = rw c.requires.work.count (crossings_most c.args.nodes.now c.args.work.now.homes c.requires.nodes c.requires.work.are);
  known = let all = recounted (goal.at.recount-work-requires c).After-as_slice-3 in omega (arith, all);
}

pub shift-requires : goal.shift-requires
shift-requires c =
    let at = (goal.at.shift-requires c).After-as_slice in
    let loads = c.requires.work.loads in
    record {
      from = rw loads.size (own_low at);
      to = rw loads.size c.requires.port;
      some = λ apart.
          let load = loads.each (get_or c.as_slice.result.now c.args.v 0) (own_low at) in
          rw (load, own_is at) (load_some c.args.nodes.now c.args.work.now.homes c.args.v c.args.port c.requires.work.are c.requires.node.0 c.requires.node.1 (λ same. apart (own_is at ∙ same)));
      few = let load = loads.each c.args.port c.requires.port in omega (arith, load, load_few c.args.nodes.now c.args.work.now.homes c.args.port c.requires.nodes);
    }

pub returns-clause-work : goal.returns-clause-work
returns-clause-work c =
    let low = c.requires.node.1 in
    let all = recounted (goal.at.returns-clause-work c).After-as_slice-3 in
    let counted = c.recount-work.ensures in
    subst (λ (xs : List ℕ). IsWork c.args.nodes.now (record {
      homes = record { logic = c.args.work.now.homes.logic; array = c.args.work.now.homes.array; items = xs; blocks = c.args.work.now.homes.blocks };
      uses = c.give_bag.new.bags;
      loads = c.shift.new.loads;
      spread = c.args.work.now.spread;
      pulls = c.args.work.now.pulls;
      count = c.recount-work.result;
    })) (sym c.set.ensures)
    (record {
      are = moved_homes c.args.nodes.now c.args.work.now.homes c.args.v c.args.port c.requires.nodes c.requires.work.are c.requires.node.0 low c.requires.port;
      uses = put_uses c.args.nodes.now c.args.work.now.homes c.args.work.now.uses c.give_bag.new.bags c.args.v c.args.port c.bag_of-taken.result.now c.requires.work.are c.requires.work.without low (counts (goal.at.returns-clause-work c).After-bag_of-taken) c.in_ok-give_bag.ensures.bags c.in_ok-give_bag.ensures.gives;
      loads = put_loads c.args.nodes.now c.args.work.now.homes c.args.work.now.loads c.shift.new.loads c.args.v c.args.port c.requires.work.are c.requires.work.loads c.requires.node.0 low c.shift.ensures.size
          (subst (λ (o : ℕ). (p : ℕ) → p < length c.args.work.now.loads → slice_index c.shift.new.loads p + where_at o p 1 ≡ slice_index c.args.work.now.loads p + where_at c.args.port p 1) (own_is (goal.at.returns-clause-work c).After-as_slice) c.shift.ensures.each);
      spread = put_spread c.args.nodes.now c.args.work.now.homes c.args.work.now.spread c.args.v c.args.port c.requires.work.are low c.requires.work.spread;
      size = c.requires.work.size;
      touched = c.requires.work.touched;
      count = omega (arith, all, counted);
    })
