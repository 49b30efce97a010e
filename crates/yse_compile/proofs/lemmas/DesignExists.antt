-- A design that fits by a choice of homes exists, with the claims of its image.
use Rattle.std.proofs.Common.{◌≡◌, ◌∙◌, ◌⊎◌, ◌≤◌, inl, inr, Bool, true, false, ℕ, length, refl, sym, ap, subst, arith}
use Rattle.limits.specs.declared.TheConstants.{MAX_SLOTS}
use Rattle.machine_text.specs.{declared.machine.Machine.Machine, Machines.IsValid as IsValidMachine}
use Rattle.net_defs.specs.declared.homes.HomeChoice.{HomeChoice, TheVariants.Plain, TheVariants.Better}
use Rattle.net_defs.specs.declared.{netlist.Netlist.Netlist, timing.Timing.Timing}
use Rattle.node_defs.specs.{declared.items.NodeNet.NodeNet, Order.IsMapped, WellFormed.IsWellFormed}
use Rattle.plan_defs.specs.{declared.plan.Homes.Homes, declared.plan.Plan.Plan, declared.switch.Switch.Switch, Homes.AreHomes, Picks.ArePicked, Picks.AreHoused}
use Rattle.plan_defs.specs.Switches.{IsSwitch}
use Rattle.home_pick.specs.{Better.IsBetter, Better.KeepsOthers, Better.bound_of, Crossings.crossings}
use Rattle.home_pick.proofs.{PassLemmas.passes_way, PassLemmas.start_way, HomeLemmas.homes_are}
use Rattle.image_defs.specs.declared.{image.Image.Image, file.Claims.Claims}
use Rattle.image_build.specs.{Built.IsBuilt, Plans.IsPlanned}
use Rattle.yse_compile.specs.Chosen.{FitsBy, FitsEither, HomesFit, IsChosen, IsDesign, IsUsed}
use Rattle.yse_compile.specs.{declared.choose.Chosen.Chosen, declared.compiler.Compiled.Compiled, Claims.AreClaimsOf, Designs.IsAcyclic, Designs.DesignFits}
use Rattle.yse_compile.proofs.lemmas.ChoiceLemmas.{better_are}

-- better homes keep what is no node
better_keeps : (nodes : NodeNet) (machine : Machine) (start better : Homes) → IsWellFormed nodes → AreHomes nodes start → IsBetter nodes machine start better → KeepsOthers nodes start better
better_keeps nodes machine start better formed are is =
    subst (KeepsOthers nodes start) (sym is.reached) (passes_way nodes machine (bound_of nodes start) start is.count formed (start_way nodes machine start are)).keeps

-- a switch, an image and claims for each plan of items
abbrev pub MakesImages : NodeNet → Timing → Type 0
MakesImages nodes timing =
    (homes : Homes) (plan : Plan) → IsPlanned nodes homes plan
    → (switch : Switch) × (image : Image) × (claims : Claims) × IsSwitch nodes homes plan.slots switch × IsBuilt nodes homes plan switch timing image
    × AreClaimsOf (record { nodes = nodes; homes = homes; plan = plan; switch = switch; image = image }) claims

-- a design that is chosen, with its claims
pub record HasDesign (choice : HomeChoice) (net : Netlist) (machine : Machine) (timing : Timing) : Type 0 where
  pub chosen : Chosen
  pub claims : Claims
  pub is : IsChosen net machine timing choice chosen
  pub are : AreClaimsOf chosen.compiled claims

module _ (net : Netlist) (machine : Machine) (timing : Timing) (nodes : NodeNet) (valid : IsValidMachine machine) (items : IsMapped net timing nodes) (formed : IsWellFormed nodes) (makes : MakesImages nodes timing) where
  -- homes of the items, and a plan that fits there
  record AreAt (homes : Homes) : Type 0 where
    logic : homes.logic ≡ machine.logic
    array : homes.array ≡ machine.array
    are : AreHomes nodes homes
    memories : AreHoused nodes machine homes.blocks (length nodes.blocks)

  -- a design at these homes
  record HasDesignAt (homes : Homes) : Type 0 where
    compiled : Compiled
    claims : Claims
    nodes_are : compiled.nodes ≡ nodes
    homes_same : compiled.homes ≡ homes
    design : IsDesign net machine timing compiled
    claimed : AreClaimsOf compiled claims

  design_at : IsAcyclic net timing → (homes : Homes) → AreAt homes → HomesFit nodes machine homes → HasDesignAt homes
  design_at acyclic homes at fit =
      let few : fit.plan.needed ≤ MAX_SLOTS = (let within = fit.fits.slots in let most = valid.slots_most in omega (arith, within, most)) in
      let made = makes homes fit.plan (record { formed = formed; housed = at.are; first_fit = fit.first_fit; few = few }) in
      record {
        compiled = record { nodes = nodes; homes = homes; plan = fit.plan; switch = made.0; image = made.1 };
        claims = made.2;
        nodes_are = refl;
        homes_same = refl;
        design = record {
          acyclic = acyclic;
          items = items;
          logic = at.logic;
          array = at.array;
          homes = at.are;
          memories = at.memories;
          first_fit = fit.first_fit;
          fits = fit.fits;
          routed = made.3;
          built = made.4;
        };
        claimed = made.5;
      }

  -- the design is chosen, at plain homes or others
  chosen_as : (choice : HomeChoice) (plain : Homes) (after : ℕ) (better : Bool) (homes : Homes) → ArePicked nodes machine plain → (made : HasDesignAt homes)
      → IsUsed choice made.compiled.nodes machine plain (record { compiled = made.compiled; before = crossings nodes plain; after = after; better = better }) → HasDesign choice net machine timing
  chosen_as choice plain after better homes picked made used = record {
    chosen = record { compiled = made.compiled; before = crossings nodes plain; after = after; better = better };
    claims = made.claims;
    is = record { plain = plain; picked = subst (λ n. ArePicked n machine plain) (sym made.nodes_are) picked; design = made.design; used = used };
    are = made.claimed;
  }

  module _ (same : (others : NodeNet) → IsMapped net timing others → others ≡ nodes)
      (best : (start : Homes) → (better : Homes) × IsBetter nodes machine start better)
      (one_best : (start one other : Homes) → IsBetter nodes machine start one → IsBetter nodes machine start other → one ≡ other)
      (decided : (homes : Homes) → AreHomes nodes homes → HomesFit nodes machine homes ⊎ (HomesFit nodes machine homes → ⊥)) where
    -- the items that fit are these
    kept : (P : NodeNet → Type 0) (others : NodeNet) → IsMapped net timing others → P others → P nodes
    kept P others are = subst P (same others are)

    plain_at : (homes : Homes) → ArePicked nodes machine homes → AreAt homes
    plain_at homes picked = record { logic = picked.logic; array = picked.array; are = homes_are nodes machine homes formed valid picked; memories = picked.memories }

    plain_design : DesignFits net machine timing → HasDesign Plain net machine timing
    plain_design fits =
        let picked : ArePicked nodes machine fits.homes = kept (λ n. ArePicked n machine fits.homes) fits.nodes fits.items fits.picked in
        let fit = kept (λ n. HomesFit n machine fits.homes) fits.nodes fits.items (record { plan = fits.plan; first_fit = fits.first_fit; fits = fits.fits }) in
        let made = design_at fits.acyclic fits.homes (plain_at fits.homes picked) fit in
        chosen_as Plain fits.homes (crossings nodes fits.homes) false fits.homes picked made (record {
          homes = made.homes_same;
          plainly = refl;
          before = ap (λ n. crossings n fits.homes) (sym made.nodes_are);
          after = ap (λ n. crossings n fits.homes) (sym made.nodes_are);
        })

    better_design : FitsEither net machine timing → HasDesign Better net machine timing
    better_design fits = by (decided better.0 are) where
      plain : Homes
      plain = fits.plain

      picked : ArePicked nodes machine plain
      picked = kept (λ n. ArePicked n machine plain) fits.nodes fits.items fits.picked

      better : (better : Homes) × IsBetter nodes machine plain better
      better = best plain

      housed : AreHomes nodes plain
      housed = homes_are nodes machine plain formed valid picked

      are : AreHomes nodes better.0
      are = better_are nodes machine plain better.0 formed housed better.1

      keeps : KeepsOthers nodes plain better.0
      keeps = better_keeps nodes machine plain better.0 formed housed better.1

      better_at : AreAt better.0
      better_at = record {
        logic = keeps.logic ∙ picked.logic;
        array = keeps.array ∙ picked.array;
        are = are;
        memories = subst (λ ports. AreHoused nodes machine ports (length nodes.blocks)) (sym keeps.blocks) picked.memories;
      }

      plain_fit : (HomesFit nodes machine better.0 → ⊥) → HomesFit nodes machine plain
      plain_fit none = elim fits.fit [
        | inl here ↦ kept (λ n. HomesFit n machine plain) fits.nodes fits.items here
        | inr other ↦
            let mine : IsBetter nodes machine plain other.0 = kept (λ n. IsBetter n machine plain other.0) fits.nodes fits.items other.1 in
            absurd (none (subst (HomesFit nodes machine) (one_best plain other.0 better.0 mine better.1) (kept (λ n. HomesFit n machine other.0) fits.nodes fits.items other.2)))
      ]

      made_at : (homes : Homes) (best : Bool) (made : HasDesignAt homes)
          → ((best ≡ true) × (made.compiled.homes ≡ better.0)) ⊎ ((best ≡ false) × (made.compiled.homes ≡ plain) × (HomesFit made.compiled.nodes machine better.0 → ⊥)) → HasDesign Better net machine timing
      made_at homes best made used = chosen_as Better plain (crossings nodes better.0) best homes picked made (record {
        best = better.0;
        is_better = subst (λ n. IsBetter n machine plain better.0) (sym made.nodes_are) better.1;
        before = ap (λ n. crossings n plain) (sym made.nodes_are);
        after = ap (λ n. crossings n better.0) (sym made.nodes_are);
        used = used;
      })

      by : HomesFit nodes machine better.0 ⊎ (HomesFit nodes machine better.0 → ⊥) → HasDesign Better net machine timing
      by (inl fit) = let made = design_at fits.acyclic better.0 better_at fit in made_at better.0 true made (inl (refl, made.homes_same))
      by (inr none) =
          let made = design_at fits.acyclic plain (plain_at plain picked) (plain_fit none) in
          made_at plain false made (inr (refl, made.homes_same, λ fits. none (subst (λ n. HomesFit n machine better.0) made.nodes_are fits)))

    pub has_design : (choice : HomeChoice) → FitsBy choice net machine timing → HasDesign choice net machine timing
    has_design Plain fits = plain_design fits
    has_design Better fits = better_design fits
