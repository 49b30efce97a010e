-- By a choice of homes a design fits or is refused, and it has one design's homes.
use Rattle.std.proofs.Common.{◌≡◌, ◌∙◌, ◌⊎◌, inl, inr, ℕ, true, false, refl, sym, ap, subst}
use Rattle.machine_text.specs.{declared.machine.Machine.Machine, Machines.IsValid as IsValidMachine}
use Rattle.net_defs.specs.declared.homes.HomeChoice.{HomeChoice, TheVariants.Plain, TheVariants.Better}
use Rattle.net_defs.specs.declared.{netlist.Netlist.Netlist, timing.Timing.Timing}
use Rattle.node_defs.specs.{declared.items.NodeNet.NodeNet, Order.IsMapped, WellFormed.IsWellFormed}
use Rattle.plan_defs.specs.{declared.plan.Homes.Homes, Homes.AreHomes, Picks.ArePicked, Slots.IsFirstFitPlan, Tables.Fits}
use Rattle.home_pick.specs.{Better.bound_of, Better.IsBetter, Crossings.crossings, declared.pick.HomeNo.HomeNo}
use Rattle.home_pick.specs.declared.pick.HomeNo.TheVariants.{Bits as NoBits, Memory as NoRoom, Nodes as ManyNodes}
use Rattle.home_pick.specs.Refusals.{IsRight as LacksHomes}
use Rattle.home_pick.proofs.{PassLemmas.passes_way, PassLemmas.start_way, HomeLemmas.homes_are}
use Rattle.slot_plan.specs.declared.fit.PlanNo.{PlanNo, TheVariants.Slots as ManySlots, TheVariants.Functions as ManyFunctions, TheVariants.Memory as NoMemory}
use Rattle.slot_plan.specs.Refusals.{IsCrowded, IsLong, IsRight as IsUnplanned}
use Rattle.yse_compile.specs.declared.compiler.CompNo.TheVariants.{Loop, Bits, Slots, Functions, Memory, Nodes}
use Rattle.yse_compile.specs.Chosen.{FitsBy, FitsEither, HomesFit, IsDesign, IsUsed}
use Rattle.yse_compile.specs.Compiled.{IsCompiled, IsOverfull, IsRight, of_homes, of_plan}
use Rattle.yse_compile.specs.Designs.{IsAcyclic, DesignFits, LacksBits, LacksNodes, LacksSlots, LacksFunctions}
use Rattle.yse_compile.specs.declared.{choose.Chosen.Chosen, compiler.Compiled.Compiled, compiler.CompNo.CompNo}
use Rattle.yse_compile.proofs.FitLemmas.{FitsOrNot, LacksPlan}

-- better homes are homes
pub better_are : (nodes : NodeNet) (machine : Machine) (start better : Homes) → IsWellFormed nodes → AreHomes nodes start → IsBetter nodes machine start better → AreHomes nodes better
better_are nodes machine start better formed are is =
    subst (AreHomes nodes) (sym is.reached) (passes_way nodes machine (bound_of nodes start) start is.count formed (start_way nodes machine start are)).are

-- what fits at its plain homes fits at them or at better ones
pub plain_either : (net : Netlist) (machine : Machine) (timing : Timing) → DesignFits net machine timing → FitsEither net machine timing
plain_either net machine timing fits = record {
  acyclic = fits.acyclic;
  nodes = fits.nodes;
  items = fits.items;
  plain = fits.homes;
  picked = fits.picked;
  fit = inl (record { plan = fits.plan; first_fit = fits.first_fit; fits = fits.fits });
}

-- what fits by a choice of homes fits at plain homes or at better ones
pub by_either : (net : Netlist) (machine : Machine) (timing : Timing) (choice : HomeChoice) → (DesignFits net machine timing → FitsEither net machine timing) → FitsBy choice net machine timing → FitsEither net machine timing
by_either net machine timing Plain plain fits = plain fits
by_either net machine timing Better plain fits = fits

-- it fits by a claim, or a refusal is right and it does not
abbrev pub FitsOrRefused : Netlist → Machine → Timing → Type 0 → Type 0
FitsOrRefused net machine timing Claim = Claim ⊎ ((why : CompNo) × IsRight net machine timing why × IsOverfull why × (Claim → ⊥))

module _ (net : Netlist) (machine : Machine) (timing : Timing) where
  -- ---- plain homes

  -- where no refusal of a machine that is too small is right, it is memory that is wanting
  pub only_memory : IsAcyclic net timing → ((block needed left : ℕ) → LacksBits net machine timing block needed left → ⊥)
      → ((needed limit : ℕ) → LacksNodes net machine timing needed limit → ⊥)
      → ((needed limit : ℕ) → LacksSlots net machine timing needed limit → ⊥)
      → ((port needed limit : ℕ) → LacksFunctions net machine timing port needed limit → ⊥)
      → (why : CompNo) → IsRight net machine timing why → why ≡ Memory
  only_memory acyclic bits many slots functions (Loop members) right = absurd (acyclic members right.is.circle)
  only_memory acyclic bits many slots functions (Bits block needed left) right = absurd (bits block needed left right)
  only_memory acyclic bits many slots functions (Slots needed limit) right = absurd (slots needed limit right)
  only_memory acyclic bits many slots functions (Functions port needed limit) right = absurd (functions port needed limit right)
  only_memory acyclic bits many slots functions Memory right = refl
  only_memory acyclic bits many slots functions (Nodes needed limit) right = absurd (many needed limit right)

  -- ---- either

  module _ (machine_valid : IsValidMachine machine)
      (formed : (nodes : NodeNet) → IsMapped net timing nodes → IsWellFormed nodes)
      (planned : (nodes : NodeNet) (homes : Homes) → IsWellFormed nodes → AreHomes nodes homes → HomesFit nodes machine homes ⊎ LacksPlan nodes homes machine)
      (never : (nodes : NodeNet) (homes : Homes) → IsWellFormed nodes → HomesFit nodes machine homes → LacksPlan nodes homes machine → ⊥)
      (best : (nodes : NodeNet) (start : Homes) → (better : Homes) × IsBetter nodes machine start better)
      (bits : FitsEither net machine timing → (block needed left : ℕ) → LacksBits net machine timing block needed left → ⊥)
      (many : FitsEither net machine timing → (needed limit : ℕ) → LacksNodes net machine timing needed limit → ⊥)
      (fit : (nodes : NodeNet) (plain better : Homes) → IsMapped net timing nodes → ArePicked nodes machine plain → IsBetter nodes machine plain better → FitsEither net machine timing → HomesFit nodes machine plain ⊎ HomesFit nodes machine better) where
    -- where it doesn't fit at the plain homes it fits at better ones or at neither
    at_best : (nodes : NodeNet) (homes : Homes) → IsAcyclic net timing → IsMapped net timing nodes → ArePicked nodes machine homes → LacksPlan nodes homes machine
        → FitsEither net machine timing ⊎ (FitsEither net machine timing → ⊥)
    at_best nodes homes acyclic items picked lacks =
        let well = formed nodes items in
        let better = best nodes homes in
        let are : AreHomes nodes better.0 = better_are nodes machine homes better.0 well (homes_are nodes machine homes well machine_valid picked) better.1 in
        elim (planned nodes better.0 well are) [
          | inl fits ↦ inl (record { acyclic = acyclic; nodes = nodes; items = items; plain = homes; picked = picked; fit = inr (better.0, better.1, fits) })
          | inr none ↦ inr (λ either. elim (fit nodes homes better.0 items picked better.1 either) [
            | inl here ↦ never nodes homes well here lacks
            | inr there ↦ never nodes better.0 well there none
          ])
        ]

    decided : (why : CompNo) → IsRight net machine timing why → IsOverfull why → FitsEither net machine timing ⊎ (FitsEither net machine timing → ⊥)
    decided (Loop members) right over = absurd over
    decided (Bits block needed left) right over = inr (λ either. bits either block needed left right)
    decided (Slots needed limit) right over = at_best right.nodes right.homes right.acyclic right.items right.picked (inl (needed, limit, right.long))
    decided (Functions port needed limit) right over = at_best right.nodes right.homes right.acyclic right.items right.picked (inr (port, needed, limit, right.crowded))
    decided Memory right over = absurd over
    decided (Nodes needed limit) right over = inr (λ either. many either needed limit right)

    pub either_or_refused : FitsOrNot net machine timing → FitsOrRefused net machine timing (FitsEither net machine timing)
    either_or_refused (inl fits) = inl (plain_either net machine timing fits)
    either_or_refused (inr (why, right, over)) = elim (decided why right over) [
      | inl either ↦ inl either
      | inr neither ↦ inr (why, right, over, neither)
    ]

-- ---- what is compiled

-- a compiled design is a design
pub compiled_design : (net : Netlist) (machine : Machine) (timing : Timing) (compiled : Compiled) → AreHomes compiled.nodes compiled.homes → IsCompiled net machine timing compiled → IsDesign net machine timing compiled
compiled_design net machine timing compiled homes is = record {
  acyclic = is.acyclic;
  items = is.items;
  logic = is.picked.logic;
  array = is.picked.array;
  homes = homes;
  memories = is.picked.memories;
  first_fit = is.first_fit;
  fits = is.fits;
  routed = is.routed;
  built = is.built;
}

-- homes that a choice uses fit by it
pub used_fits : (net : Netlist) (machine : Machine) (timing : Timing) (nodes : NodeNet) (plain : Homes) (choice : HomeChoice) (chosen : Chosen) → IsAcyclic net timing → IsMapped net timing nodes → ArePicked nodes machine plain
    → HomesFit nodes machine chosen.compiled.homes → IsUsed choice nodes machine plain chosen → FitsBy choice net machine timing
used_fits net machine timing nodes plain Plain chosen acyclic items picked fit used = record {
  acyclic = acyclic;
  nodes = nodes;
  items = items;
  homes = plain;
  picked = picked;
  plan = fit.plan;
  first_fit = subst (λ h. IsFirstFitPlan nodes h fit.plan) used.homes fit.first_fit;
  fits = subst (λ h. Fits nodes h machine fit.plan) used.homes fit.fits;
}
used_fits net machine timing nodes plain Better chosen acyclic items picked fit used = record {
  acyclic = acyclic;
  nodes = nodes;
  items = items;
  plain = plain;
  picked = picked;
  fit = elim used.used [
    | inl best ↦ inr (used.best, used.is_better, subst (HomesFit nodes machine) best.1 fit)
    | inr kept ↦ inl (subst (HomesFit nodes machine) kept.1 fit)
  ];
}

-- ---- refusals of homes and of plans

module _ (net : Netlist) (machine : Machine) (timing : Timing) (nodes : NodeNet) (acyclic : IsAcyclic net timing) (items : IsMapped net timing nodes) where
  pub homes_right : (refusal : HomeNo) → LacksHomes nodes machine refusal → IsRight net machine timing (of_homes refusal)
  homes_right (NoBits block needed left) lacks = record { acyclic = acyclic; nodes = nodes; items = items; none = lacks }
  homes_right NoRoom lacks = tt
  homes_right (ManyNodes needed limit) lacks = record { acyclic = acyclic; nodes = nodes; items = items; many = lacks }

  pub homes_only : ((block needed left : ℕ) → LacksBits net machine timing block needed left → ⊥) → ((needed limit : ℕ) → LacksNodes net machine timing needed limit → ⊥)
      → (refusal : HomeNo) → LacksHomes nodes machine refusal → of_homes refusal ≡ Memory
  homes_only bits many (NoBits block needed left) lacks = absurd (bits block needed left (homes_right (NoBits block needed left) lacks))
  homes_only bits many NoRoom lacks = refl
  homes_only bits many (ManyNodes needed limit) lacks = absurd (many needed limit (homes_right (ManyNodes needed limit) lacks))

  module _ (plain : Homes) (picked : ArePicked nodes machine plain) where
    pub plan_right : (refusal : PlanNo) → IsUnplanned nodes plain machine refusal → IsRight net machine timing (of_plan refusal)
    plan_right (ManySlots needed limit) lacks = record { acyclic = acyclic; nodes = nodes; items = items; homes = plain; picked = picked; long = lacks }
    plan_right (ManyFunctions port needed limit) lacks = record { acyclic = acyclic; nodes = nodes; items = items; homes = plain; picked = picked; crowded = lacks }
    plan_right NoMemory lacks = tt

    pub plan_only : ((needed limit : ℕ) → IsLong nodes plain machine needed limit → ⊥) → ((port needed limit : ℕ) → IsCrowded nodes plain machine port needed limit → ⊥)
        → (refusal : PlanNo) → IsUnplanned nodes plain machine refusal → of_plan refusal ≡ Memory
    plan_only slots functions (ManySlots needed limit) lacks = absurd (slots needed limit lacks)
    plan_only slots functions (ManyFunctions port needed limit) lacks = absurd (functions port needed limit lacks)
    plan_only slots functions NoMemory lacks = refl

-- ---- one choice

-- the same homes and counts
abbrev pub AreAlike : Chosen → Chosen → Type 0
AreAlike one other = (one.compiled.homes ≡ other.compiled.homes) × (one.before ≡ other.before) × (one.after ≡ other.after) × (one.better ≡ other.better)

-- homes that one choice uses for items from the same homes, and that fit, are alike
pub used_alike : (choice : HomeChoice) (nodes : NodeNet) (machine : Machine) (plain : Homes) (one other : Chosen)
    → ((best better : Homes) → IsBetter nodes machine plain best → IsBetter nodes machine plain better → best ≡ better)
    → IsUsed choice nodes machine plain one → IsUsed choice nodes machine plain other
    → HomesFit nodes machine one.compiled.homes → HomesFit nodes machine other.compiled.homes → AreAlike one other
used_alike Plain nodes machine plain one other one_better first second fits fits_too = (
  first.homes ∙ sym second.homes,
  first.before ∙ sym second.before,
  first.after ∙ sym second.after,
  first.plainly ∙ sym second.plainly,
)
used_alike Better nodes machine plain one other one_better first second fits fits_too =
    let homes = by first.used second.used in
    (homes.0, first.before ∙ sym second.before, first.after ∙ (ap (crossings nodes) best ∙ sym second.after), homes.1)
  where
    best : first.best ≡ second.best
    best = one_better first.best second.best first.is_better second.is_better

    by : ((one.better ≡ true) × (one.compiled.homes ≡ first.best)) ⊎ ((one.better ≡ false) × (one.compiled.homes ≡ plain) × (HomesFit nodes machine first.best → ⊥))
        → ((other.better ≡ true) × (other.compiled.homes ≡ second.best)) ⊎ ((other.better ≡ false) × (other.compiled.homes ≡ plain) × (HomesFit nodes machine second.best → ⊥))
        → (one.compiled.homes ≡ other.compiled.homes) × (one.better ≡ other.better)
    by (inl here) (inl too) = (here.1 ∙ (best ∙ sym too.1), here.0 ∙ sym too.0)
    by (inl here) (inr too) = absurd (too.2 (subst (HomesFit nodes machine) (here.1 ∙ best) fits))
    by (inr here) (inl too) = absurd (here.2 (subst (HomesFit nodes machine) (too.1 ∙ sym best) fits_too))
    by (inr here) (inr too) = (here.1 ∙ sym too.1, here.0 ∙ sym too.0)
