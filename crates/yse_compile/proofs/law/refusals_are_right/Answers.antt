-- Each refusal of a pass as one of the design, and what it would say of a design that fits.
use Rattle.std.proofs.Common.{inl, inr, ap}
use Rattle.net_defs.specs.declared.homes.HomeChoice.TheVariants.{Plain, Better}
use Rattle.yse_compile.specs.Compiled.{of_plan}
use Rattle.yse_compile.proofs.lemmas.ChoiceLemmas.{by_either, homes_only, homes_right, plan_only, plan_right}
use Rattle.yse_compile.proofs.law.refusals_are_right.Goals as goal

pub returns-clause-either : goal.returns-clause-either
returns-clause-either c choice net machine timing fits = by_either net machine timing choice (c.either_fits.ensures.plain net machine timing) fits

pub returns-clause-homes : goal.returns-clause-homes
returns-clause-homes c net machine timing nodes acyclic items refusal lacks = (
  homes_right net machine timing nodes acyclic items refusal lacks,
  λ fits. homes_only net machine timing nodes acyclic items (c.either_fits.ensures.bits net machine timing fits) (c.either_fits.ensures.nodes net machine timing fits) refusal lacks,
)

pub returns-clause-plan : goal.returns-clause-plan
returns-clause-plan c Plain net machine timing nodes plain valid acyclic items picked refusal lacks unfit = (
  plan_right net machine timing nodes acyclic items plain picked refusal lacks,
  λ fits. plan_only net machine timing nodes acyclic items plain picked
      (λ needed limit long. c.fits_slots.ensures net machine timing valid fits needed limit (record { acyclic = acyclic; nodes = nodes; items = items; homes = plain; picked = picked; long = long }))
      (λ port needed limit crowded. c.fits_functions.ensures net machine timing fits port needed limit (record { acyclic = acyclic; nodes = nodes; items = items; homes = plain; picked = picked; crowded = crowded }))
      refusal lacks,
)
returns-clause-plan c Better net machine timing nodes plain valid acyclic items picked refusal lacks unfit = (
  plan_right net machine timing nodes acyclic items plain picked refusal lacks,
  λ fits. elim unfit [
    | inl memory ↦ ap of_plan memory
    | inr best ↦ elim (c.either_fits.ensures.fit net machine timing nodes plain best.0 valid items picked best.1 fits) [
      | inl here ↦ plan_only net machine timing nodes acyclic items plain picked
          (c.planned_or_refused.ensures.slots nodes machine plain (c.items_are_well_formed.ensures net timing nodes valid items.items) here)
          (c.planned_or_refused.ensures.functions nodes machine plain here) refusal lacks
      | inr there ↦ absurd (best.2 there)
    ]
  ],
)
