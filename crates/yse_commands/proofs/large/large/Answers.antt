-- Where the run has its summary the visits are made, and else there was no memory, before the run or after it.
use Rattle.std.proofs.Common.{Some, None, refl, inl, inr}
use Rattle.yse_commands.specs.Told.{large_turns}
use Rattle.yse_commands.proofs.GateLemmas.{large_visits}
use Rattle.yse_commands.proofs.large.large.Goals as goal

pub returns-in-Ok-clause-comes : goal.returns-in-Ok-clause-comes
returns-in-Ok-clause-comes g c =
    (Some (large_turns c.args.cycles c.args.workers), (refl, inl (inl (_, c.in-Ok.ensures.summary, refl))), large_visits _ c.args.cycles c.args.workers _ _ c.in-Ok.ensures.visits)

pub returns-in-Err-clause-comes : goal.returns-in-Err-clause-comes
returns-in-Err-clause-comes g c = elim c.in-Err.ensures.refused [
  | inl same ↦ (None, (refl, inr refl), same)
  | inr visits ↦ (Some (large_turns c.args.cycles c.args.workers), (refl, inl (inr refl)), large_visits _ c.args.cycles c.args.workers _ _ visits)
]
