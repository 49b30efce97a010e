use Rattle.std.proofs.Common.{inl, inr, subst}
use Rattle.net_defs.specs.declared.homes.HomeChoice.TheVariants.{Plain, Better}
use Rattle.yse_compile.specs.Compiled.{IsOverfull}
use Rattle.yse_compile.proofs.lemmas.ChoiceLemmas.{only_memory, either_or_refused}
use Rattle.yse_compile.proofs.law.fits_by_or_refused.Goals as goal

pub returns : goal.returns
returns c Plain net machine timing nodes valid machine_valid acyclic items = elim (c.fits_or_refused.ensures net machine timing nodes valid machine_valid acyclic items) [
  | inl fits ↦ inl fits
  | inr refused ↦ inr (
    refused.0,
    refused.1,
    refused.2,
    λ fits.
        subst IsOverfull (only_memory net machine timing acyclic (c.fits_bits.ensures net machine timing fits) (c.fits_nodes.ensures net machine timing fits)
        (c.fits_slots.ensures net machine timing valid fits) (c.fits_functions.ensures net machine timing fits) refused.0 refused.1) refused.2,
  )
]
returns c Better net machine timing nodes valid machine_valid acyclic items =
    either_or_refused net machine timing machine_valid
    (λ others is. c.items_are_well_formed.ensures net timing others valid is.items)
    (λ others homes formed are. c.planned_or_refused.ensures.some others machine homes formed are)
    (λ others homes formed fit lacks. elim lacks [
      | inl long ↦ c.planned_or_refused.ensures.slots others machine homes formed fit long.0 long.1 long.2
      | inr crowded ↦ c.planned_or_refused.ensures.functions others machine homes fit crowded.0 crowded.1 crowded.2 crowded.3
    ])
    (λ others start. c.some_better.ensures others machine start)
    (c.either_fits.ensures.bits net machine timing) (c.either_fits.ensures.nodes net machine timing)
    (λ others plain best is picked better either. c.either_fits.ensures.fit net machine timing others plain best valid is picked better either)
    (c.fits_or_refused.ensures net machine timing nodes valid machine_valid acyclic items)
