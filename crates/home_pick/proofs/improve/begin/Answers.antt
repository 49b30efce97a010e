use Rattle.std.proofs.Common.{◌∙◌, ap, sym, subst, length, false, replicate}
use Rattle.std.proofs.lemmas.List.{length-replicate}
use Rattle.plan_defs.specs.declared.plan.Homes.{Homes}
use Rattle.home_pick.specs.code.Working.{IsWork}
use Rattle.home_pick.proofs.{SpreadLemmas.none_spread, TouchLemmas.none_touched}
use Rattle.home_pick.proofs.improve.begin.Goals as goal

pub returns-clause-work : goal.returns-clause-work
returns-clause-work c =
    subst (λ (homes : Homes). IsWork c.args.nodes.now (record {
      homes = homes;
      uses = c.in_ok-uses.uses;
      loads = c.in_ok-loads.loads;
      spread = c.in_ok-spread.spread;
      pulls = record { at = c.in_ok-at.at; touched = c.new.result };
      count = c.count_crossings.result;
    })) (sym c.in_ok-copied.ensures)
    (record {
      are = c.requires.homes;
      uses = c.in_ok-uses.ensures;
      loads = c.in_ok-loads.ensures;
      spread = none_spread c.args.nodes.now c.args.homes.now c.in_ok-spread.spread (c.in_ok-spread.ensures ∙ ap (λ n. replicate n false) c.len.ensures);
      size = ap length c.in_ok-at.ensures ∙ length-replicate c.args.homes.now.logic 0;
      touched = none_touched (record { at = c.in_ok-at.at; touched = c.new.result }) c.args.homes.now.logic c.in_ok-at.ensures c.new.ensures;
      count = c.count_crossings.ensures;
    })
