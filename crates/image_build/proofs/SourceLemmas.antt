-- Where a port takes items from: what it uses is at it or comes to it, and stands early enough.
use Rattle.std.proofs.Common.{◌≡◌, ◌≢◌, ◌∙◌, ◌⊎◌, inl, inr, ℕ, ◌<◌, ◌==◌, Bool, true, false, if◌then◌else◌, List, length, Some, slice_get, refl, sym, ap, subst, arith, eq-eqb, [], ◌∷◌, map}
use Rattle.std.proofs.lemmas.{Bool.cases_eq, Bool.cases_lt, Bool.ne_eqb, Option.slice_get_within}
use Rattle.std.specs.List.Sorted.{IsStrictlyIncreasing}
use Rattle.list_laws.proofs.Members.{member_at}
use Rattle.net_defs.specs.declared.timing.Timing.{Timing}
use Rattle.node_defs.specs.declared.items.{Tag.Tag, Tag.TheVariants.This, Tag.TheVariants.Last, Feed.Feed, Feed.TheVariants.From, Feed.TheVariants.Fixed}
use Rattle.node_defs.specs.{declared.items.Item.Item, declared.items.NodeNet.NodeNet, Takes.FeedTakes, Takes.FeedAwaits, Takes.Awaits}
use Rattle.image_defs.specs.Places.{Stands, IsPort, in_slots, sender_in}
use Rattle.image_defs.specs.WellFormed.{IsThere, IsBefore, IsOfLast, IsOperand, IsPast, IsPresent}
use Rattle.image_defs.specs.declared.image.{Source.Source, Source.TheVariants.Own, Source.TheVariants.Got, LinkIn.LinkIn, PortImage.PortImage, Image.Image}
use Rattle.image_defs.specs.Matches.{ClaimsIn, is_last, Carries}
use Rattle.image_defs.proofs.lemmas.PlaceLemmas.{sender_found}
use Rattle.plan_defs.specs.declared.{plan.Homes.Homes, plan.Plan.Plan, switch.Receipt.Receipt, switch.PortLinks.PortLinks, switch.Switch.Switch}
use Rattle.plan_defs.specs.{Homes.home_of, Homes.ports_of, Readers.IsUser, Readers.IsReader, Slots.slot_of, Switches.IsReceiptOf, Switches.IsSwitch}
use Rattle.plan_defs.proofs.lemmas.PortLemmas.{user_port}
use Rattle.image_build.specs.{Plans.IsPlanned, Built.link_in, code.Layouts.source_of, code.Layouts.feed_source, code.Layouts.IsLaidOut}
use Rattle.image_build.proofs.{MemberLemmas.made_there, ClaimLemmas.port_low, ClaimLemmas.claimed, ClaimLemmas.item_there}

-- ---- where a source is from

pub own_source : (homes : Homes) (slots : List ℕ) (p o : ℕ) (last : Bool) → home_of homes o ≡ p → source_of homes slots p o last ≡ Own (slot_of slots o) last
own_source homes slots p o last same = rw (eq-eqb (home_of homes o) p same) refl

pub got_source : (homes : Homes) (slots : List ℕ) (p o : ℕ) (last : Bool) → home_of homes o ≢ p → source_of homes slots p o last ≡ Got (slot_of slots o) last
got_source homes slots p o last other = rw (ne_eqb (home_of homes o) p other) refl

-- what it takes of this turn stands before, where its item's slot does
source_before : (homes : Homes) (slots : List ℕ) (p o slot : ℕ) (last : Bool) → (last ≡ false → slot_of slots o < slot) → IsBefore slot (source_of homes slots p o last)
source_before homes slots p o slot last early = by_home (home_of homes o == p) where
  by_home : (own : Bool) → IsBefore slot (if own then Own (slot_of slots o) last else Got (slot_of slots o) last)
  by_home true = early
  by_home false = early

source_of_last : (homes : Homes) (slots : List ℕ) (p o : ℕ) (last : Bool) → IsOfLast last (source_of homes slots p o last)
source_of_last homes slots p o last = by_home (home_of homes o == p) where
  by_home : (own : Bool) → IsOfLast last (if own then Own (slot_of slots o) last else Got (slot_of slots o) last)
  by_home true = refl
  by_home false = refl

-- ---- the slots in which a port receives

pub received_slots : (receipts : List Receipt) → in_slots (map link_in receipts) ≡ map (λ (receipt : Receipt). receipt.slot) receipts
received_slots [] = refl
received_slots (receipt ∷ receipts) = ap (λ slots. receipt.slot ∷ slots) (received_slots receipts)

-- ---- what a port takes

-- a source that is there and carries the item
abbrev pub Brings : Image → List (List ℕ) → ℕ → PortImage → ℕ → Tag → Source → Type 0
Brings image claims p port o tag source = IsThere port source × Carries image claims p port.ins source (From o tag)

module _ {nodes : NodeNet} {homes : Homes} {plan : Plan} {switch : Switch} {timing : Timing} {claims : List (List ℕ)} {image : Image}
    (planned : IsPlanned nodes homes plan) (routed : IsSwitch nodes homes plan.slots switch) (laid : IsLaidOut nodes homes plan switch timing claims image) where
  pub links_at : (p : ℕ) → p < ports_of homes → (links : PortLinks) × (slice_get switch.ports p ≡ Some links)
  links_at p low = member_at switch.ports p (let count = routed.ports in omega (arith, low, count))

  -- the slots in which a port receives rise
  pub ins_rise : (p : ℕ) (port : PortImage) → IsPort image p port → IsStrictlyIncreasing (in_slots port.ins)
  ins_rise p port at =
      let links : (links : PortLinks) × (slice_get switch.ports p ≡ Some links) = links_at p (port_low laid p port at) in
      subst IsStrictlyIncreasing (sym (ap in_slots (laid.links p port links.0 at links.1).ins ∙ received_slots links.0.receipts)) (routed.receipts p links.0 links.1).rising

  -- what a port reads it receives from the item's home
  pub received : (p o : ℕ) (port : PortImage) → IsPort image p port → o < length nodes.items → IsReader nodes homes o p → Stands port.ins (record { slot = slot_of plan.slots o; sender = home_of homes o })
  received p o port at low reads =
      let links : (links : PortLinks) × (slice_get switch.ports p ≡ Some links) = links_at p (port_low laid p port at) in
      let found : (k : ℕ) × (receipt : Receipt) × (slice_get links.0.receipts k ≡ Some receipt) × IsReceiptOf homes plan.slots o receipt = (routed.receipts p links.0 links.1).whole o low reads in (
        found.0,
        made_there link_in port.ins links.0.receipts found.0 found.1 (laid.links p port links.0 at links.1).ins found.2
            ∙ ap Some (same_link found.1 (slot_of plan.slots o) (home_of homes o) found.3.slot found.3.sender),
      )
    where
      same_link : (receipt : Receipt) (slot sender : ℕ) → receipt.slot ≡ slot → receipt.sender ≡ sender → link_in receipt ≡ record { slot = slot; sender = sender }
      same_link receipt slot sender slot_is sender_is = rw (slot_is, sender_is) refl

  -- what a port uses it takes from where it is, and that carries it
  pub used : (p o : ℕ) (port : PortImage) (tag : Tag) → IsPort image p port → IsUser nodes homes o p → Brings image claims p port o tag (source_of homes plan.slots p o (is_last tag))
  used p o port tag at uses = by_home (cases_eq (home_of homes o) p) where
    low : o < length nodes.items
    low = (user_port nodes homes o p planned.formed planned.housed uses).0

    at_home : home_of homes o ≡ p → Brings image claims p port o tag (Own (slot_of plan.slots o) (is_last tag))
    at_home same = (
      item_there laid p o port at (low, same),
      (subst (λ q. ClaimsIn image claims q (slot_of plan.slots o) o) same (claimed laid o planned low), refl),
    )

    away : home_of homes o ≢ p → Brings image claims p port o tag (Got (slot_of plan.slots o) (is_last tag))
    away other =
        let link : Stands port.ins (record { slot = slot_of plan.slots o; sender = home_of homes o }) = received p o port at low (record { user = uses; away = λ same. other (sym same) }) in
        let from : sender_in port.ins (slot_of plan.slots o) ≡ home_of homes o = sender_found port.ins link.0 (record { slot = slot_of plan.slots o; sender = home_of homes o }) (ins_rise p port at) link.1 in (
          (link.0, made_there (λ (l : LinkIn). l.slot) (in_slots port.ins) port.ins link.0 (record { slot = slot_of plan.slots o; sender = home_of homes o }) refl link.1),
          (subst (λ q. ClaimsIn image claims q (slot_of plan.slots o) o) (sym from) (claimed laid o planned low), refl),
        )

    by_home : (home_of homes o ≡ p) ⊎ (home_of homes o ≢ p) → Brings image claims p port o tag (source_of homes plan.slots p o (is_last tag))
    by_home (inl same) = subst (Brings image claims p port o tag) (sym (own_source homes plan.slots p o (is_last tag) same)) (at_home same)
    by_home (inr other) = subst (Brings image claims p port o tag) (sym (got_source homes plan.slots p o (is_last tag) other)) (away other)

  -- ---- operands of items

  -- an operand of this turn has an earlier slot
  pub early : (x o : ℕ) (one : Item) → slice_get nodes.items x ≡ Some one → Awaits one o → slot_of plan.slots o < slot_of plan.slots x
  early x o one at awaits = elim (cases_lt (slot_of plan.slots o) (slot_of plan.slots x)) [
    | inl below ↦ below
    | inr late ↦ absurd ((planned.first_fit.slots.least x (slice_get_within nodes.items x one at)).free (inl (record { operand = o; item = one; is = at; awaits = awaits; late = late })))
  ]

  pub feed_right : (p slot : ℕ) (port : PortImage) (feed : Feed) → IsPort image p port → ((o : ℕ) → FeedTakes feed o → IsUser nodes homes o p) → ((o : ℕ) → FeedAwaits feed o → slot_of plan.slots o < slot)
      → IsOperand port slot (feed_source homes plan.slots p feed) × Carries image claims p port.ins (feed_source homes plan.slots p feed) feed
  feed_right p slot port (From o This) at uses before =
      let right = used p o port This at (uses o refl) in
      (record { there = right.0; before = source_before homes plan.slots p o slot false (λ this. before o refl) }, right.1)
  feed_right p slot port (From o Last) at uses before =
      let right = used p o port Last at (uses o refl) in
      (record { there = right.0; before = source_before homes plan.slots p o slot true (λ this. cc) }, right.1)
  feed_right p slot port (Fixed v) at uses before = (record { there = tt; before = tt }, refl)

  pub past_right : (p o : ℕ) (port : PortImage) → IsPort image p port → IsUser nodes homes o p
      → IsPast port (source_of homes plan.slots p o true) × Carries image claims p port.ins (source_of homes plan.slots p o true) (From o Last)
  past_right p o port at uses =
      let right = used p o port Last at uses in
      (record { there = right.0; last = source_of_last homes plan.slots p o true }, right.1)

  pub present_right : (p o : ℕ) (port : PortImage) → IsPort image p port → IsUser nodes homes o p
      → IsPresent port (source_of homes plan.slots p o false) × Carries image claims p port.ins (source_of homes plan.slots p o false) (From o This)
  present_right p o port at uses =
      let right = used p o port This at uses in
      (record { there = right.0; last = source_of_last homes plan.slots p o false }, right.1)
