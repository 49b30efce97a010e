use Rattle.std.proofs.Common.{inl, inr}
use Rattle.yse_compile.proofs.FitLemmas.{plan_fits, none_fits, many_fits}
use Rattle.yse_compile.proofs.law.fits_or_refused.Goals as goal

pub returns : goal.returns
returns c net machine timing nodes valid machine_valid acyclic items =
    let formed = c.items_are_well_formed.ensures net timing nodes valid items.items in
    elim (c.homes_or_refusal.ensures nodes machine formed machine_valid) [
      | inl found ↦ plan_fits net machine timing nodes acyclic items found.0 found.1 (c.planned_or_refused.ensures.some nodes machine found.0 formed found.2)
      | inr (inl refused) ↦ none_fits net machine timing nodes acyclic items refused.0 refused.1 refused.2 refused.3
      | inr (inr refused) ↦ many_fits net machine timing nodes acyclic items refused.0 refused.1 refused.2
    ]
