-- A design that fits by a choice has homes that the choice gives it.
use Rattle.std.proofs.Common.{◌≡◌, ◌⊎◌, inl, inr, ℕ, Bool, true, false, [], refl, subst}
use Rattle.machine_text.specs.{declared.machine.Machine.Machine, Machines.IsValid as IsValidMachine}
use Rattle.net_defs.specs.declared.homes.HomeChoice.{HomeChoice, TheVariants.Plain, TheVariants.Better}
use Rattle.net_defs.specs.declared.{netlist.Netlist.Netlist, timing.Timing.Timing}
use Rattle.net_defs.specs.declared.timing.Init.TheVariants as init
use Rattle.node_defs.specs.{declared.items.NodeNet.NodeNet, Order.IsMapped, WellFormed.IsWellFormed}
use Rattle.plan_defs.specs.{declared.plan.Homes.Homes, declared.plan.Plan.Plan, Homes.AreHomes, Picks.ArePicked, Slots.IsFirstFitPlan, Tables.Fits}
use Rattle.home_pick.specs.{Better.IsBetter, Crossings.crossings}
use Rattle.home_pick.proofs.HomeLemmas.{homes_are}
use Rattle.yse_compile.specs.Chosen.{FitsBy, FitsEither, HomesFit, IsUsed}
use Rattle.yse_compile.specs.{declared.choose.Chosen.Chosen, Designs.DesignFits}
use Rattle.yse_compile.proofs.lemmas.ChoiceLemmas.{better_are}

-- homes that the choice gives, with a plan that fits
pub record HasHomes (choice : HomeChoice) (net : Netlist) (machine : Machine) (timing : Timing) : Type 0 where
  pub chosen : Chosen
  pub items : IsMapped net timing chosen.compiled.nodes
  pub plain : Homes
  pub picked : ArePicked chosen.compiled.nodes machine plain
  pub used : IsUsed choice chosen.compiled.nodes machine plain chosen
  pub housed : AreHomes chosen.compiled.nodes chosen.compiled.homes
  pub first_fit : IsFirstFitPlan chosen.compiled.nodes chosen.compiled.homes chosen.compiled.plan
  pub fits : Fits chosen.compiled.nodes chosen.compiled.homes machine chosen.compiled.plan

-- homes and a plan of items, with a switch and an image that nothing is said of
abbrev sketch : NodeNet → Homes → Plan → ℕ → ℕ → Bool → Chosen
sketch nodes homes plan before after better = record {
  compiled = record {
    nodes = nodes;
    homes = homes;
    plan = plan;
    switch = record { ports = [] };
    image = record { slots = 0; units = 0; init = init.Undef; columns = 0; ports = [] };
  };
  before = before;
  after = after;
  better = better;
}

module _ (net : Netlist) (machine : Machine) (timing : Timing) (valid : IsValidMachine machine)
    (formed : (nodes : NodeNet) → IsMapped net timing nodes → IsWellFormed nodes)
    (best : (nodes : NodeNet) (start : Homes) → (better : Homes) × IsBetter nodes machine start better)
    (one_best : (nodes : NodeNet) (start one other : Homes) → IsBetter nodes machine start one → IsBetter nodes machine start other → one ≡ other)
    (decided : (nodes : NodeNet) (homes : Homes) → IsWellFormed nodes → AreHomes nodes homes → HomesFit nodes machine homes ⊎ (HomesFit nodes machine homes → ⊥)) where
  plain_homes : DesignFits net machine timing → HasHomes Plain net machine timing
  plain_homes fits = record {
    chosen = sketch fits.nodes fits.homes fits.plan (crossings fits.nodes fits.homes) (crossings fits.nodes fits.homes) false;
    items = fits.items;
    plain = fits.homes;
    picked = fits.picked;
    used = record { homes = refl; plainly = refl; before = refl; after = refl };
    housed = homes_are fits.nodes machine fits.homes (formed fits.nodes fits.items) valid fits.picked;
    first_fit = fits.first_fit;
    fits = fits.fits;
  }

  better_homes : FitsEither net machine timing → HasHomes Better net machine timing
  better_homes fits = by (decided nodes better.0 well (better_are nodes machine plain better.0 well housed better.1))
    where
      nodes : NodeNet
      nodes = fits.nodes

      plain : Homes
      plain = fits.plain

      well : IsWellFormed nodes
      well = formed nodes fits.items

      housed : AreHomes nodes plain
      housed = homes_are nodes machine plain well valid fits.picked

      better : (better : Homes) × IsBetter nodes machine plain better
      better = best nodes plain

      plain_fit : (HomesFit nodes machine better.0 → ⊥) → HomesFit nodes machine plain
      plain_fit none = elim fits.fit [
        | inl here ↦ here
        | inr there ↦ absurd (none (subst (HomesFit nodes machine) (one_best nodes plain there.0 better.0 there.1 better.1) there.2))
      ]

      by : HomesFit nodes machine better.0 ⊎ (HomesFit nodes machine better.0 → ⊥) → HasHomes Better net machine timing
      by (inl fit) = record {
        chosen = sketch nodes better.0 fit.plan (crossings nodes plain) (crossings nodes better.0) true;
        items = fits.items;
        plain = plain;
        picked = fits.picked;
        used = record { best = better.0; is_better = better.1; before = refl; after = refl; used = inl (refl, refl) };
        housed = better_are nodes machine plain better.0 well housed better.1;
        first_fit = fit.first_fit;
        fits = fit.fits;
      }
      by (inr none) = let fit = plain_fit none in record {
        chosen = sketch nodes plain fit.plan (crossings nodes plain) (crossings nodes better.0) false;
        items = fits.items;
        plain = plain;
        picked = fits.picked;
        used = record { best = better.0; is_better = better.1; before = refl; after = refl; used = inr (refl, refl, none) };
        housed = housed;
        first_fit = fit.first_fit;
        fits = fit.fits;
      }

  pub has_homes : (choice : HomeChoice) → FitsBy choice net machine timing → HasHomes choice net machine timing
  has_homes Plain fits = plain_homes fits
  has_homes Better fits = better_homes fits
