-- Where the items of a plan stand in an image that is laid out: each in its slot at its home.
use Rattle.std.proofs.Common.{◌≡◌, ◌∙◌, ℕ, ◌<◌, List, length, map, Some, slice_get, refl, sym, ap, subst, arith}
use Rattle.std.proofs.lemmas.Option.{slice_get_within}
use Rattle.list_laws.proofs.{Members.member_at, Options.one_some}
use Rattle.net_defs.specs.declared.timing.Timing.{Timing}
use Rattle.func_table.specs.declared.table.Table.{Table}
use Rattle.node_defs.specs.declared.items.Item.TheVariants.{Input, BlockBit, Node, Latch}
use Rattle.node_defs.specs.declared.items.{Item.Item, NodeNet.NodeNet}
use Rattle.image_defs.specs.Places.{Stands, IsPort, item_slots, task_slot}
use Rattle.image_defs.specs.declared.image.{Task.Task, OutBit.OutBit, InColumn.InColumn, Work.Work}
use Rattle.image_defs.specs.declared.image.{Work.TheVariants.Logic, Work.TheVariants.Array, Work.TheVariants.Host, PortImage.PortImage, Image.Image}
use Rattle.image_defs.specs.Matches.{claims_of, IsClaim, ClaimsIn}
use Rattle.image_defs.proofs.lemmas.MatchLemmas.{maps_same}
use Rattle.plan_defs.specs.{declared.plan.Homes.Homes, declared.plan.Plan.Plan, declared.switch.Switch.Switch, Homes.home_of, Homes.ports_of, Slots.slot_of}
use Rattle.plan_defs.proofs.lemmas.PortLemmas.{home_port}
use Rattle.image_build.specs.code.Layouts.{AreMadeFor, IsTaskFor, IsBitFor, IsInputFor, IsWorkFor, IsLaidOut}
use Rattle.image_build.specs.{PortItems.IsAt, PortItems.ArePortItems, Plans.IsPlanned}
use Rattle.image_build.proofs.MemberLemmas.{made_there}

-- ---- the slots of what a port does

task_placed : (nodes : NodeNet) (homes : Homes) (slots : List ℕ) (p x : ℕ) (tables : List Table) (one : Item) (task : Task) → IsTaskFor nodes homes slots p tables x one task → task_slot task ≡ slot_of slots x
task_placed nodes homes slots p x tables (Input column) task is = absurd is
task_placed nodes homes slots p x tables (BlockBit m bit) task is = absurd is
task_placed nodes homes slots p x tables (Node t feeds) task (n, low, same, is) = ap task_slot is
task_placed nodes homes slots p x tables (Latch op) task is = ap task_slot is

bit_placed : (slots numbers : List ℕ) (x : ℕ) (one : Item) (out : OutBit) → IsBitFor slots numbers x one out → out.slot ≡ slot_of slots x
bit_placed slots numbers x (Input column) out is = absurd is
bit_placed slots numbers x (BlockBit m bit) out (k, at, is) = ap (λ (o : OutBit). o.slot) is
bit_placed slots numbers x (Node t feeds) out is = absurd is
bit_placed slots numbers x (Latch op) out is = absurd is

input_placed : (slots : List ℕ) (x : ℕ) (one : Item) (input : InColumn) → IsInputFor slots x one input → input.slot ≡ slot_of slots x
input_placed slots x (Input column) input is = ap (λ (i : InColumn). i.slot) is
input_placed slots x (BlockBit m bit) input is = absurd is
input_placed slots x (Node t feeds) input is = absurd is
input_placed slots x (Latch op) input is = absurd is

-- what is made for items stands in their slots, in their order
made_placed : {T : Type 0} (nodes : NodeNet) (slots : List ℕ) (slot_in : T → ℕ) (IsFor : ℕ → Item → T → Type 0) (items : List ℕ) (made : List T) → ((k x : ℕ) → slice_get items k ≡ Some x → x < length nodes.items)
    → ((x : ℕ) (one : Item) (thing : T) → IsFor x one thing → slot_in thing ≡ slot_of slots x) → AreMadeFor nodes IsFor items made → map slot_in made ≡ map (slot_of slots) items
made_placed nodes slots slot_in IsFor items made there placed are =
    maps_same slot_in (slot_of slots) made items are.as_many (λ k thing x at item_at.
    let one = member_at nodes.items x (there k x item_at) in
    placed x one.0 thing (are.each k x one.0 thing item_at one.1 at))

work_placed : (nodes : NodeNet) (homes : Homes) (slots : List ℕ) (p : ℕ) (items : List ℕ) (work : Work) → ((k x : ℕ) → slice_get items k ≡ Some x → x < length nodes.items)
    → IsWorkFor nodes homes slots p items work → item_slots work ≡ map (slot_of slots) items
work_placed nodes homes slots p items (Logic tables tasks) there (low, are, order) =
    made_placed nodes slots task_slot (IsTaskFor nodes homes slots p tables) items tasks there (λ x. task_placed nodes homes slots p x tables) are
work_placed nodes homes slots p items (Array blocks outs) there (from, low, numbers, lists, are_blocks, are) =
    made_placed nodes slots (λ (out : OutBit). out.slot) (IsBitFor slots numbers) items outs there (bit_placed slots numbers) are
work_placed nodes homes slots p items (Host inputs printed) there (same, are, prints) =
    made_placed nodes slots (λ (input : InColumn). input.slot) (IsInputFor slots) items inputs there (input_placed slots) are

-- ---- the items of a port

-- an item of a port is claimed there, in its slot
pub claimed_in : (nodes : NodeNet) (homes : Homes) (slots : List ℕ) (claims : List (List ℕ)) (image : Image) (p o : ℕ) (port : PortImage) → IsPort image p port → ArePortItems nodes homes slots p (claims_of claims p)
    → item_slots port.work ≡ map (slot_of slots) (claims_of claims p) → IsAt nodes homes p o → ClaimsIn image claims p (slot_of slots o) o
claimed_in nodes homes slots claims image p o port at items made is_at =
    let found : (k : ℕ) × (x : ℕ) × IsClaim claims p k x × (x ≡ o) = items.whole o is_at in
    let claim : IsClaim claims p found.0 o = found.2 ∙ ap Some found.3 in
    record { i = found.0; port = port; is = at; stands = made_there (slot_of slots) (item_slots port.work) (claims_of claims p) found.0 o made claim; claimed = claim }

module _ {nodes : NodeNet} {homes : Homes} {plan : Plan} {switch : Switch} {timing : Timing} {claims : List (List ℕ)} {image : Image} (laid : IsLaidOut nodes homes plan switch timing claims image) where
  pub port_low : (p : ℕ) (port : PortImage) → IsPort image p port → p < ports_of homes
  port_low p port at = let low = slice_get_within image.ports p port at in let count = laid.ports in omega (arith, low, count)

  pub port_at : (p : ℕ) → p < ports_of homes → (port : PortImage) × IsPort image p port
  port_at p low = member_at image.ports p (let count = laid.ports in omega (arith, low, count))

  -- what a port claims is at it
  pub claim_at : (p k x : ℕ) → p < ports_of homes → IsClaim claims p k x → IsAt nodes homes p x
  claim_at p k x low claim =
      let found : (i : ℕ) × IsAt nodes homes p i × (x ≡ i) = (laid.planned.items p low).each k x claim in
      subst (IsAt nodes homes p) (sym found.2) found.1

  -- a port's items stand in the slots of what it claims
  pub placed : (p : ℕ) (port : PortImage) → IsPort image p port → item_slots port.work ≡ map (slot_of plan.slots) (claims_of claims p)
  placed p port at =
      work_placed nodes homes plan.slots p (claims_of claims p) port.work (λ k x claim. (claim_at p k x (port_low p port at) claim).0) (laid.works p port at)

  claimed_at : (p o : ℕ) (port : PortImage) → IsPort image p port → IsAt nodes homes p o → ClaimsIn image claims p (slot_of plan.slots o) o
  claimed_at p o port at is_at = claimed_in nodes homes plan.slots claims image p o port at (laid.planned.items p (port_low p port at)) (placed p port at) is_at

  -- an item is claimed at its home, in its slot
  pub claimed : (o : ℕ) → IsPlanned nodes homes plan → o < length nodes.items → ClaimsIn image claims (home_of homes o) (slot_of plan.slots o) o
  claimed o planned low =
      let port : (port : PortImage) × IsPort image (home_of homes o) port = port_at (home_of homes o) (home_port nodes homes o planned.formed planned.housed low) in
      claimed_at (home_of homes o) o port.0 port.1 (low, refl)

  pub item_there : (p o : ℕ) (port : PortImage) → IsPort image p port → IsAt nodes homes p o → Stands (item_slots port.work) (slot_of plan.slots o)
  item_there p o port at is_at =
      let claim : ClaimsIn image claims p (slot_of plan.slots o) o = claimed_at p o port at is_at in
      let same : claim.port ≡ port = one_some claim.port port (sym claim.is ∙ at) in
      (claim.i, subst (λ (q : PortImage). slice_get (item_slots q.work) claim.i ≡ Some (slot_of plan.slots o)) same claim.stands)
