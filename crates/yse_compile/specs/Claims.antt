-- The claims of a compiled design: which item of the netlist stands at each place of its image.
use Rattle.std.specs.Prelude.{◌≡◌, ℕ, map}
use Rattle.net_defs.specs.declared.timing.Timing.{Timing}
use Rattle.node_defs.specs.WellFormed.{IsWellFormed}
use Rattle.plan_defs.specs.{Homes.AreHomes, Slots.slot_of, Slots.IsFirstFitPlan, Switches.IsSwitch}
use Rattle.image_defs.specs.{declared.image.PortImage.PortImage, Places.Each, Places.IsPort, Places.item_slots, Matches.claims_of, Matches.Matches}
use Rattle.image_defs.specs.{declared.file.Claims.Claims, Claimed.lists_of, Claimed.HasClaims}
use Rattle.image_file.specs.Ranges.{tables_of}
use Rattle.func_table.specs.Entries.{HasWords}
use Rattle.image_build.specs.{PortItems.ArePlanClaims, Built.IsBuilt}
use Rattle.yse_compile.specs.declared.compiler.Compiled.{Compiled}

-- well-formed items at their homes, in their first-fit plan, with the switch's settings and an image that is
-- built for them in some timing
pub record IsPlaced (compiled : Compiled) : Type 0 where
  pub formed : IsWellFormed compiled.nodes
  pub housed : AreHomes compiled.nodes compiled.homes
  pub first_fit : IsFirstFitPlan compiled.nodes compiled.homes compiled.plan
  pub routed : IsSwitch compiled.nodes compiled.homes compiled.plan.slots compiled.switch
  pub timing : Timing
  pub built : IsBuilt compiled.nodes compiled.homes compiled.plan compiled.switch timing compiled.image

-- each place of the image claims the item that the plan puts there
pub record AreClaimsOf (compiled : Compiled) (claims : Claims) : Type 0 where
  pub planned : ArePlanClaims compiled.nodes compiled.homes compiled.plan.slots (lists_of claims)
  pub placed : (p : ℕ) (port : PortImage) → IsPort compiled.image p port → item_slots port.work ≡ map (slot_of compiled.plan.slots) (claims_of (lists_of claims) p)
  -- its tables have words as all tables do
  pub words : Each (λ port. Each HasWords (tables_of port.work)) compiled.image.ports
  -- there is a claim for each place
  pub whole : HasClaims (record { image = compiled.image; claims = claims })
  -- through them the image matches the items, in each timing that it is built for
  pub matches : (timing : Timing) → IsBuilt compiled.nodes compiled.homes compiled.plan compiled.switch timing compiled.image
      → Matches compiled.image (lists_of claims) compiled.nodes timing
