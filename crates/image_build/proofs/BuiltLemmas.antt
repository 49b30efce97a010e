-- An image that is laid out is built: it is well-formed and matches its items, so that it gives their values.
use Rattle.std.proofs.Common.{◌≡◌, ◌↔◌, ◌∙◌, ℕ, ◌+◌, ◌*◌, ◌<◌, List, length, Some, slice_get, refl, sym, ap, subst, arith}
use Rattle.std.proofs.lemmas.List.{length-map}
use Rattle.std.specs.List.Sorted.{IsStrictlyIncreasing}
use Rattle.list_laws.proofs.Members.{member_at, mapped_at}
use Rattle.net_defs.specs.{declared.timing.Timing.Timing, declared.stimulus.Stimulus.Stimulus, Steps.State, Valid.IsValidTiming}
use Rattle.node_defs.specs.{declared.items.Item.Item, declared.items.NodeNet.NodeNet, Values.AreItemValues}
use Rattle.image_defs.specs.Places.{Each, IsPort, item_slots, in_slots}
use Rattle.image_defs.specs.Matches.{claims_of, IsClaim, ClaimsIn, ImplementsClaim, PrintsItems, Matches}
use Rattle.image_defs.specs.declared.image.{Work.Work, Work.TheVariants.Logic, Work.TheVariants.Array, Work.TheVariants.Host, PortImage.PortImage, Image.Image}
use Rattle.image_defs.specs.{WellFormed.IsHost, WellFormed.IsPortImage, WellFormed.IsWellFormed, Shows.ShowsItems}
use Rattle.image_defs.specs.Places as places
use Rattle.image_defs.proofs.lemmas.MatchLemmas.{shows_items}
use Rattle.plan_defs.specs.{declared.plan.Homes.Homes, declared.plan.Plan.Plan, declared.switch.Switch.Switch, Homes.home_of, Homes.host_of, Homes.ports_of}
use Rattle.plan_defs.specs.{Slots.slot_of, Switches.IsSwitch}
use Rattle.plan_defs.proofs.lemmas.PortLemmas.{home_port}
use Rattle.image_build.specs.{Plans.IsPlanned, Built.IsBuilt, Built.GivesItems, code.Layouts.IsWorkFor, code.Layouts.IsLaidOut}
use Rattle.image_build.proofs.ClaimLemmas.{claimed_in, port_low, claim_at, placed}
use Rattle.image_build.proofs.LinkLemmas.{outs_rise, sends_right, receives_right, in_item}
use Rattle.image_build.proofs.{SourceLemmas.ins_rise, WorkLemmas.port_done, WorkLemmas.port_prints, PlannedLemmas.slot_low}

-- ---- the last port

host_last : (nodes : NodeNet) (homes : Homes) (slots : List ℕ) (p : ℕ) (items : List ℕ) (work : Work) → IsWorkFor nodes homes slots p items work → IsHost work ↔ (p + 1 ≡ ports_of homes)
host_last nodes homes slots p items (Logic tables tasks) is = (λ h. absurd h, λ same. let low = is.0 in absurd (omega (arith, same, low)))
host_last nodes homes slots p items (Array blocks outs) is = (λ h. absurd h, λ same. let low = is.1 in absurd (omega (arith, same, low)))
host_last nodes homes slots p items (Host inputs printed) is = (λ h. let host = is.0 in omega (arith, host), λ same. tt)

module _ {nodes : NodeNet} {homes : Homes} {plan : Plan} {switch : Switch} {timing : Timing} {claims : List (List ℕ)} {image : Image}
    (planned : IsPlanned nodes homes plan) (routed : IsSwitch nodes homes plan.slots switch) (laid : IsLaidOut nodes homes plan switch timing claims image) where
  -- ---- well-formed

  slot_within : (o : ℕ) → o < length nodes.items → slot_of plan.slots o < image.slots
  slot_within o low =
      let past = slot_low _ _ _ planned o low in
      let slots = laid.slots in
      omega (arith, past, slots)

  items_low : (p : ℕ) (port : PortImage) → IsPort image p port → Each (λ slot. slot < image.slots) (item_slots port.work)
  items_low p port at k slot here =
      let made : (x : ℕ) × IsClaim claims p k x × (slot_of plan.slots x ≡ slot) = mapped_at (slot_of plan.slots) (claims_of claims p) k slot (ap (λ slots. slice_get slots k) (sym (placed laid p port at)) ∙ here) in
      subst (λ s. s < image.slots) made.2 (slot_within made.0 (claim_at laid p k made.0 (port_low laid p port at) made.1).0)

  ins_low : (p : ℕ) (port : PortImage) → IsPort image p port → Each (λ slot. slot < image.slots) (in_slots port.ins)
  ins_low p port at k slot here =
      let item : (o : ℕ) × (o < length nodes.items) × (slot ≡ slot_of plan.slots o) = in_item planned routed laid p port at k slot here in
      subst (λ s. s < image.slots) (sym item.2) (slot_within item.0 item.1)

  port_right : (p : ℕ) (port : PortImage) → IsPort image p port → IsPortImage image p port
  port_right p port at = record {
    items = subst IsStrictlyIncreasing (sym (placed laid p port at)) (laid.planned.items p (port_low laid p port at)).rising;
    item_slots_within = items_low p port at;
    work = (port_done planned routed laid p port at).names;
    outs = outs_rise planned routed laid p port at;
    sends = sends_right planned routed laid p port at;
    ins = ins_rise planned routed laid p port at;
    in_slots_within = ins_low p port at;
    receives = receives_right planned routed laid p port at;
  }

  image_fits : IsValidTiming timing → IsWellFormed image
  image_fits valid = record {
    slots = let few = planned.few in let slots = laid.slots in omega (arith, few, slots);
    units = (let some = valid.some in let units = laid.units in omega (arith, some, units), let few = valid.few in let units = laid.units in omega (arith, few, units));
    some_ports = let count = laid.ports in omega (arith, count);
    most_ports = let few = planned.housed.ports in let count = laid.ports in omega (arith, few, count);
    ports = port_right;
    host = λ p port at. subst (λ count. IsHost port.work ↔ (p + 1 ≡ count)) (sym laid.ports) (host_last nodes homes plan.slots p (claims_of claims p) port.work (laid.works p port at));
  }

  -- ---- matching

  item_as : (p i x : ℕ) (port : PortImage) → IsPort image p port → IsClaim claims p i x → ImplementsClaim image claims nodes p i x port
  item_as p i x port at claim =
      let one : (one : Item) × (slice_get nodes.items x ≡ Some one) = member_at nodes.items x (claim_at laid p i x (port_low laid p port at) claim).0 in
      record { item = one.0; is = one.1; same = (port_done planned routed laid p port at).same i x one.0 claim one.1 }

  host_is : places.host_of image ≡ host_of homes
  host_is = let count = laid.ports in omega (arith, count)

  printed_as : (host : PortImage) → IsPort image (places.host_of image) host → PrintsItems image claims nodes.printed host
  printed_as host at =
      let prints = port_prints planned routed laid (places.host_of image) host at host_is in
      record { as_many = prints.0; each = prints.1 }

  image_matches : Matches image claims nodes timing
  image_matches = record {
    units = laid.units;
    init = laid.init;
    columns = laid.columns;
    ports = laid.planned.ports ∙ sym laid.ports;
    as_many = λ p port at. sym (ap length (placed laid p port at) ∙ length-map (claims_of claims p) (slot_of plan.slots));
    items = item_as;
    printed = printed_as;
  }

-- an image that is laid out for items in their plan is built for them
pub laid_out_is_built : (nodes : NodeNet) (homes : Homes) (plan : Plan) (switch : Switch) (timing : Timing) (claims : List (List ℕ)) (image : Image)
    → IsPlanned nodes homes plan → IsSwitch nodes homes plan.slots switch → IsValidTiming timing
    → IsLaidOut nodes homes plan switch timing claims image → IsBuilt nodes homes plan switch timing image
laid_out_is_built nodes homes plan switch timing claims image planned routed valid laid = record {
  fits = image_fits planned routed laid valid;
  slots = laid.slots;
  claims = claims;
  planned = laid.planned;
  placed = placed laid;
  matches = image_matches planned routed laid;
  ordered = λ p port at. (port_done planned routed laid p port at).ordered;
  links = laid.links;
}

-- an image that is built gives its items' values
pub built_gives : (nodes : NodeNet) (homes : Homes) (plan : Plan) (switch : Switch) (timing : Timing) (image : Image)
    → IsPlanned nodes homes plan → IsBuilt nodes homes plan switch timing image
    → (stimulus : Stimulus) (values : List State) → AreItemValues nodes timing stimulus values → GivesItems nodes homes plan timing stimulus values image
built_gives nodes homes plan switch timing image planned built stimulus values are = record {
  places = λ turn x items here low. shows.places turn (home_of homes x) (slot_of plan.slots x) x items here (claimed x low);
  cells = λ c j x items here printed. shows.cells c j x items (ap (λ units. slice_get values (c * units)) built.matches.units ∙ here) printed;
} where
  shows : ShowsItems image built.claims nodes stimulus values
  shows = shows_items image built.claims nodes timing stimulus values built.fits built.matches are

  claimed : (x : ℕ) → x < length nodes.items → ClaimsIn image built.claims (home_of homes x) (slot_of plan.slots x) x
  claimed x low =
      let home : home_of homes x < ports_of homes = home_port nodes homes x planned.formed planned.housed low in
      let port : (port : PortImage) × IsPort image (home_of homes x) port =
      member_at image.ports (home_of homes x) (let count = built.matches.ports in let ports = built.planned.ports in omega (arith, home, count, ports)) in
      claimed_in nodes homes plan.slots built.claims image (home_of homes x) x port.0 port.1 (built.planned.items (home_of homes x) home) (built.placed (home_of homes x) port.0 port.1) (low, refl)
