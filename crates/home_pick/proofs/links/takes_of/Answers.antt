use Rattle.std.proofs.Common.{◌≡◌, ◌≤◌, ◌∷◌, ◌++◌, [], List, length, ap, arith}
use Rattle.std.proofs.lemmas.List.{length_push}
use Rattle.plan_defs.proofs.UserLemmas.{read_at}
use Rattle.home_pick.specs.{declared.bags.Entry.Entry, code.Bags.IsBag}
use Rattle.home_pick.proofs.LinkLemmas.{all_push, taken_more}
use Rattle.home_pick.proofs.links.takes_of.Goals as goal

pub items-preserved : goal.items-preserved
items-preserved c =
    let pushed : c.push.new.self ≡ c.items.takes ++ c.in_ok-taken.taken ∷ [] = c.in_ok-push.ensures.ok in
    let long = ap (λ (xs : List (List Entry)). length xs) pushed in
    record {
      whole = c.as_slice-items.ensures;
      size = omega (arith, long, length_push c.items.takes c.in_ok-taken.taken, c.items.invariant.size);
      bags = record { each = λ i. rw pushed (all_push IsBag c.items.takes c.in_ok-taken.taken c.items.invariant.bags.each c.in_ok-taken.ensures.is i) };
      few = λ u. rw pushed (all_push (λ (bag : List Entry). length bag ≤ 4) c.items.takes c.in_ok-taken.taken c.items.invariant.few c.in_ok-taken.ensures.few u);
      times = λ v i low. rw pushed (taken_more c.args.nodes.now c.items.takes c.items.u _ c.in_ok-taken.taken c.items.invariant.size
          (read_at c.args.nodes.now.items c.as_slice-items.result.now c.items.u _ c.as_slice-items.ensures (omega arith)) c.in_ok-taken.ensures.times c.items.invariant.times v i low);
    }
