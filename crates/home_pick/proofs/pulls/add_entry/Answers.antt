use Rattle.std.proofs.Common.{◌∙◌, ◌<◌, inl, inr, List, length, get_or, sym, ap, subst, arith}
use Rattle.home_pick.specs.{declared.bags.Entry.Entry, code.Bags.IsBag, code.Bags.times, code.Moves.pull_by, code.Work.beside}
use Rattle.home_pick.proofs.PullLemmas.{entry_pull, entry_nothing, nothing_added, one_added}
use Rattle.home_pick.proofs.pulls.add_entry.Goals.{Then-entry-gt0, else-entry-gt0-via-then-entry-gt0+else-item-v, else-entry-gt0-via-else-entry-gt0, else-entry-gt0-via-then-entry-gt0+then-item-v+else-not-spread-item}
use Rattle.home_pick.proofs.{LinkLemmas.uses_low, SpreadLemmas.even_pull}
use Rattle.home_pick.proofs.pulls.add_entry.Goals as goal

-- the entry's item is there
key_low : (c : Then-entry-gt0) → c.args.entry.key < length c.args.nodes.now.items
key_low c = uses_low c.args.nodes.now c.args.v c.args.entry.key c.requires.nodes (λ none. let count = c.requires.count in omega (arith, none, count))

pub bounds-spread-item : goal.bounds-spread-item
bounds-spread-item c = rw c.requires.spread.size (key_low (goal.at.bounds-spread-item c).Then-entry-gt0)

pub bag_of-requires : goal.bag_of-requires
bag_of-requires c = rw c.requires.uses.size (key_low (goal.at.bag_of-requires c).Then-entry-gt0)

pub bounds-as_slice-item : goal.bounds-as_slice-item
bounds-as_slice-item c = rw (c.as_slice.ensures, c.requires.homes.items) (key_low (goal.at.bounds-as_slice-item c).Then-entry-gt0)

pub add_neighbour-requires-clause-bag : goal.add_neighbour-requires-clause-bag
add_neighbour-requires-clause-bag c = subst IsBag (sym c.bag_of.ensures) (c.requires.uses.bags.each c.args.entry.key)

pub returns-in_ok-add_neighbour-clause-adds : goal.returns-in_ok-add_neighbour-clause-adds
returns-in_ok-add_neighbour-clause-adds c =
    let low = key_low (goal.at.returns-in_ok-add_neighbour-clause-adds c).Then-entry-gt0 in
    record {
      size = c.in_ok-add_neighbour.ensures.adds.size;
      even = 0;
      each = λ port inside.
          let added = c.in_ok-add_neighbour.ensures.adds.each port inside in
          let is = entry_pull c.args.nodes.now c.args.homes.now c.args.v port c.args.entry c.bag_of.result.now (get_or c.as_slice.result.now c.args.entry.key 0) (λ same. omega (arith, same)) (λ none. let count = c.requires.count in omega (arith, none, count))
          (ap (λ xs. get_or xs c.args.entry.key 0) c.as_slice.ensures)
          (ap (λ (bag : List Entry). times bag port) c.bag_of.ensures ∙ c.requires.uses.times c.args.entry.key port low) in
          omega (arith, added, is);
    }

pub returns-else-entry-gt0-clause-adds : goal.returns-else-entry-gt0-clause-adds
returns-else-entry-gt0-clause-adds c = elim c.else-entry-gt0.branch [
  | else-entry-gt0-via-then-entry-gt0+else-item-v w ↦ nothing_added c.args.pulls.now.at (λ port. beside (pull_by c.args.nodes.now c.args.homes.now c.args.v port) c.args.v c.args.entry) (λ port inside. entry_nothing c.args.nodes.now c.args.homes.now c.args.v port c.args.entry (inl (omega arith)))
  | else-entry-gt0-via-else-entry-gt0 w ↦ nothing_added c.args.pulls.now.at (λ port. beside (pull_by c.args.nodes.now c.args.homes.now c.args.v port) c.args.v c.args.entry) (λ port inside. entry_nothing c.args.nodes.now c.args.homes.now c.args.v port c.args.entry (inr (let count = c.requires.count in omega (arith, count))))
  | else-entry-gt0-via-then-entry-gt0+then-item-v+else-not-spread-item w ↦ one_added c.args.pulls.now.at (λ port. beside (pull_by c.args.nodes.now c.args.homes.now c.args.v port) c.args.v c.args.entry) (λ port inside.
      even_pull c.args.nodes.now c.args.homes.now c.args.v port c.args.spread.now c.args.entry c.requires.spread (λ same. omega (arith, same)) (λ none. let count = c.requires.count in omega (arith, none, count)) w.if-not-spread-item.false (omega (arith, inside, c.requires.size)))
]
