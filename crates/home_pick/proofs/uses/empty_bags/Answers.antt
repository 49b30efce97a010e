use Rattle.std.proofs.Common.{◌≡◌, ◌∷◌, ◌++◌, [], List, length, ap, arith}
use Rattle.std.proofs.lemmas.List.{length_push}
use Rattle.home_pick.specs.{declared.bags.Entry.Entry, code.Bags.IsBag, code.Bags.times}
use Rattle.home_pick.proofs.LinkLemmas.{all_push}
use Rattle.home_pick.proofs.uses.empty_bags.Goals as goal

pub bags-preserved : goal.bags-preserved
bags-preserved c =
    let pushed : c.push.new.self ≡ c.bags.bags ++ c.in_ok-bag.bag ∷ [] = c.in_ok-push.ensures.ok in
    let long = ap (λ (xs : List (List Entry)). length xs) pushed in
    record {
      size = omega (arith, long, length_push c.bags.bags c.in_ok-bag.bag, c.bags.invariant.size);
      bags = record { each = λ i. rw pushed (all_push IsBag c.bags.bags c.in_ok-bag.bag c.bags.invariant.bags.each c.in_ok-bag.ensures.bag i) };
      none = λ i q. rw pushed (all_push (λ (bag : List Entry). times bag q ≡ 0) c.bags.bags c.in_ok-bag.bag (λ j. c.bags.invariant.none j q) (c.in_ok-bag.ensures.none q) i);
    }
