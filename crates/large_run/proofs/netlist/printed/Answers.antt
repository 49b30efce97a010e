use Rattle.std.proofs.Common.{◌≡◌, ◌∙◌, ◌+◌, ◌-◌, [], ◌∷◌, ◌++◌, refl, sym, ap, arith}
use Rattle.std.proofs.lemmas.List.FromFn.{map-range_with_len_more}
use Rattle.large_run.proofs.DrawLemmas.{printed_is}
use Rattle.large_run.proofs.netlist.printed.Goals as goal

pub printed-preserved : goal.printed-preserved
printed-preserved c =
    let first = c.printed.invariant.first in
    let here : 8 + c.saturating_sub-first.result + c.printed.k ≡ 8 + (c.args.gates - 8 + c.printed.k) = omega (arith, first) in
    record {
      list = c.in_ok-push.ensures.ok ∙ (ap (λ x. c.printed.list ++ x ∷ []) here
          ∙ (ap (λ xs. xs ++ (8 + (c.args.gates - 8 + c.printed.k)) ∷ []) c.printed.invariant.list ∙ sym (map-range_with_len_more (λ j. 8 + j) (c.args.gates - 8) c.printed.k (c.args.gates - 8 + c.printed.k) refl)));
      first = first;
    }

pub returns : goal.returns
returns c = printed_is c.printed.list c.args.gates c.printed.k c.printed.invariant.list (let least = c.min-k-end.ensures in let end : c.printed.k ≡ c.min-k-end.result = omega arith in end ∙ least)
