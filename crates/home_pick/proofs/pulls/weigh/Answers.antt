use Rattle.std.proofs.Common.{◌≡◌, ◌∙◌, ◌+◌, ◌<◌, ℕ, List, length, get_or, take, sym, ap, arith}
use Rattle.std.proofs.lemmas.List.{take_all, Sums.sum_by_more}
use Rattle.std.specs.List.{sum_by}
use Rattle.home_pick.specs.{declared.bags.Entry.Entry, Bags.flag, code.Bags.times, code.Bags.entry_at, code.Moves.pull_by, code.Work.beside}
use Rattle.home_pick.proofs.PullLemmas.{own_pull, beside_most, taken_count, pull_members}
use Rattle.home_pick.proofs.SumLemmas.{flag_most}
use Rattle.home_pick.proofs.pulls.weigh.Goals as goal

pub taken-init : goal.taken-init
taken-init c =
    let size : length c.add_hits.new.pulls.at ≡ length c.args.pulls.now.at = c.in_ok-add_hits.ensures.adds.size ∙ c.clear.ensures.size in
    let value = λ (p : ℕ) (low : p < length c.add_hits.new.pulls.at).
    let none = c.clear.ensures.none p (omega (arith, low, size)) in
    let added = c.in_ok-add_hits.ensures.adds.each p (omega (arith, low, size, c.clear.ensures.size)) in
    let is : flag (times c.bag_of.result.now p) ≡ pull_by c.args.nodes.now c.args.homes.now c.args.v p c.args.v =
    ap flag (ap (λ (bag : List Entry). times bag p) c.bag_of.ensures ∙ c.requires.uses.times c.args.v p c.requires.node) ∙ sym (own_pull c.args.nodes.now c.args.homes.now c.args.v p) in
    let whole : get_or c.add_hits.new.pulls.at p 0 + 0 ≡ pull_by c.args.nodes.now c.args.homes.now c.args.v p c.args.v + 0 = omega (arith, none, added, is) in
    whole in
    record {
      taken = c.bag_of-taken.ensures;
      size = size;
      touched = c.in_ok-add_hits.ensures.touched;
      small = λ p low.
          let none = c.clear.ensures.none p (omega (arith, low, size)) in
          let added = c.in_ok-add_hits.ensures.adds.each p (omega (arith, low, size, c.clear.ensures.size)) in
          omega (arith, none, added, flag_most (times c.bag_of.result.now p));
      lowered = record { even = 0; each = value };
    }

pub add_entry-requires-clause-count : goal.add_entry-requires-clause-count
add_entry-requires-clause-count c = taken_count c.args.nodes.now c.args.takes.now c.args.v c.taken.k c.bag_of-taken.result.now c.requires.takes c.taken.invariant.taken c.requires.node (omega arith)

pub taken-preserved : goal.taken-preserved
taken-preserved c =
    let size : length c.add_entry.new.pulls.at ≡ length c.taken.pulls.at = c.in_ok-add_entry.ensures.adds.size in
    record {
      taken = c.taken.invariant.taken;
      size = size ∙ c.taken.invariant.size;
      touched = c.in_ok-add_entry.ensures.touched;
      small = λ p low.
          let inside : p < length c.taken.pulls.at = omega (arith, low, size) in
          let added = c.in_ok-add_entry.ensures.adds.each p inside in
          let had = c.taken.invariant.small p inside in
          omega (arith, added, had, beside_most c.args.nodes.now c.args.homes.now c.args.v p (entry_at c.bag_of-taken.result.now c.taken.k));
      lowered = record {
        even = c.taken.invariant.lowered.even + c.in_ok-add_entry.ensures.adds.even;
        each = λ p low.
            let inside : p < length c.taken.pulls.at = omega (arith, low, size) in
            let added = c.in_ok-add_entry.ensures.adds.each p inside in
            let had = c.taken.invariant.lowered.each p inside in
            let more = sum_by_more (beside (pull_by c.args.nodes.now c.args.homes.now c.args.v p) c.args.v) c.bag_of-taken.result.now c.taken.k (record { key = 0; count = 0 }) (omega arith) in
            omega (arith, added, had, more);
      };
    }

pub returns-clause-weighed : goal.returns-clause-weighed
returns-clause-weighed c = record {
  even = c.taken.invariant.lowered.even;
  each = λ port low.
      let all : c.taken.k ≡ length c.bag_of-taken.result.now = omega arith in
      let whole : take c.taken.k c.bag_of-taken.result.now ≡ c.bag_of-taken.result.now = take_all c.taken.k c.bag_of-taken.result.now (omega (arith, all)) in
      let had = c.taken.invariant.lowered.each port low in
      let same = ap (λ (xs : List Entry). sum_by (beside (pull_by c.args.nodes.now c.args.homes.now c.args.v port) c.args.v) xs) whole in
      omega (arith, had, same, pull_members c.args.nodes.now c.args.homes.now c.args.takes.now c.args.v port c.bag_of-taken.result.now c.requires.nodes c.requires.takes c.taken.invariant.taken c.requires.node);
}
