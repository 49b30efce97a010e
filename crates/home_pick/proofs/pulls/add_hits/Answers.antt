use Rattle.std.proofs.Common.{◌≡◌, ◌∙◌, ◌+◌, ◌<◌, List, length, get_or, take, ap, arith}
use Rattle.std.proofs.lemmas.List.{take_all}
use Rattle.std.specs.List.{sum_by}
use Rattle.home_pick.specs.{declared.bags.Entry.Entry, code.Bags.entry_at, code.Work.hit}
use Rattle.home_pick.proofs.{BagLemmas.hits_flag, PullLemmas.hits_none}
use Rattle.home_pick.proofs.pulls.add_hits.Goals as goal

pub add_hit-requires-clause-small : goal.add_hit-requires-clause-small
add_hit-requires-clause-small c = λ some low.
    let key = (entry_at c.args.bag.now c.entries.k).key in
    let none = hits_none c.args.bag.now c.entries.k c.requires.bag (omega arith) some in
    let inside : key < length c.args.pulls.now.at = (let size = c.entries.invariant.adds.size in omega (arith, low, size)) in
    let had = c.entries.invariant.adds.each key inside in
    let small = c.requires.small key inside in
    omega (arith, none, had, small)

pub returns-clause-adds : goal.returns-clause-adds
returns-clause-adds c =
    let all : c.entries.k ≡ length c.args.bag.now = omega arith in
    let whole : take c.entries.k c.args.bag.now ≡ c.args.bag.now = take_all c.entries.k c.args.bag.now (omega (arith, all)) in
    record {
      size = c.entries.invariant.adds.size;
      each = λ port low. c.entries.invariant.adds.each port low ∙ ap (λ n. get_or c.args.pulls.now.at port 0 + n) (ap (λ (xs : List Entry). sum_by (hit port) xs) whole ∙ hits_flag c.args.bag.now port c.requires.bag);
    }
