use Rattle.std.proofs.Common.{◌≡◌, ◌∙◌, ◌+◌, ◌<◌, List, ℕ, length, get_or, set, ap, arith}
use Rattle.std.proofs.lemmas.List.{length-set}
use Rattle.plan_defs.specs.Picks.{node_count, nodes_before}
use Rattle.home_pick.specs.Better.{load_at}
use Rattle.home_pick.proofs.LoadLemmas.{turn_home, loads_small, loads_more}
use Rattle.home_pick.proofs.loads.loads_of.Goals as goal

pub bounds-as_slice-port : goal.bounds-as_slice-port
bounds-as_slice-port c =
    let home = turn_home c.args.nodes.now c.args.homes.now c.as_slice-ports.result.now c.nodes.k c.node_count-k-end.result c.as_slice-ports.ensures c.requires.nodes c.requires.homes (omega arith) c.node_count-k-end.ensures in
    let long = ap (λ (xs : List ℕ). length xs) c.as_slice.ensures in
    omega (arith, home, long, c.nodes.invariant.size)

pub overflow_add-load : goal.overflow_add-load
overflow_add-load c =
    let home = turn_home c.args.nodes.now c.args.homes.now c.as_slice-ports.result.now c.nodes.k c.node_count-k-end.result c.as_slice-ports.ensures c.requires.nodes c.requires.homes (omega arith) c.node_count-k-end.ensures in
    let small = loads_small c.args.nodes.now c.as_slice-ports.result.now c.nodes.loads c.as_slice.result.now c.nodes.k (get_or c.as_slice-ports.result.now (c.args.nodes.now.first_node + c.nodes.k) 0) c.as_slice.ensures (omega (arith, home, c.nodes.invariant.size)) c.nodes.invariant.each in
    let few = c.requires.nodes.few in
    let count = c.node_count-k-end.ensures in
    omega (arith, small, few, count)

pub set-requires : goal.set-requires
set-requires c =
    let home = turn_home c.args.nodes.now c.args.homes.now c.as_slice-ports.result.now c.nodes.k c.node_count-k-end.result c.as_slice-ports.ensures c.requires.nodes c.requires.homes (omega arith) c.node_count-k-end.ensures in
    omega (arith, home, c.nodes.invariant.size)

pub nodes-preserved : goal.nodes-preserved
nodes-preserved c =
    let port : ℕ = get_or c.as_slice-ports.result.now (c.args.nodes.now.first_node + c.nodes.k) 0 in
    let new : ℕ = get_or c.as_slice.result.now port 0 + 1 in
    let home : port < c.args.homes.now.logic = turn_home c.args.nodes.now c.args.homes.now c.as_slice-ports.result.now c.nodes.k c.node_count-k-end.result c.as_slice-ports.ensures c.requires.nodes c.requires.homes (omega arith) c.node_count-k-end.ensures in
    let grown : c.set.new.self ≡ set c.nodes.loads port new = c.set.ensures in
    let long : length c.set.new.self ≡ length c.nodes.loads = ap (λ (xs : List ℕ). length xs) grown ∙ length-set c.nodes.loads port new in
    let is : new ≡ get_or c.nodes.loads port 0 + 1 = ap (λ xs. get_or xs port 0 + 1) c.as_slice.ensures in
    record {
      whole = c.as_slice-ports.ensures;
      size = long ∙ c.nodes.invariant.size;
      each = λ p low. ap (λ xs. get_or xs p 0) grown ∙ loads_more c.args.nodes.now c.as_slice-ports.result.now c.nodes.loads c.nodes.k new (omega (arith, home, c.nodes.invariant.size)) is c.nodes.invariant.each p (omega (arith, low, long));
    }

pub returns : goal.returns
unfolding load_at
returns c =
    let all : c.nodes.k ≡ node_count c.args.nodes.now = (let count = c.node_count-k-end.ensures in omega (arith, count)) in
    record {
      size = c.nodes.invariant.size;
      each = λ p low. c.nodes.invariant.each p (omega (arith, low, c.nodes.invariant.size))
          ∙ (ap (λ xs. nodes_before c.args.nodes.now xs c.nodes.k p) c.as_slice-ports.ensures ∙ ap (λ n. nodes_before c.args.nodes.now c.args.homes.now.items n p) all);
    }
