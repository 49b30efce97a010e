-- The links of an image that is laid out: what a port sends its readers receive, and what it receives is sent.
use Rattle.std.proofs.Common.{◌≡◌, ◌∙◌, ℕ, ◌<◌, List, [], ◌∷◌, length, map, Some, slice_get, refl, sym, ap, subst, arith}
use Rattle.std.specs.List.Sorted.{IsStrictlyIncreasing}
use Rattle.list_laws.proofs.Members.{mapped_at, listed}
use Rattle.net_defs.specs.declared.timing.Timing.{Timing}
use Rattle.node_defs.specs.declared.items.NodeNet.{NodeNet}
use Rattle.image_defs.specs.Places.{Each, Stands, IsPort, in_slots, out_slots}
use Rattle.image_defs.specs.declared.image.{LinkIn.LinkIn, PortImage.PortImage, Image.Image}
use Rattle.image_defs.specs.WellFormed.{ReceivesFrom, IsLinkOut, IsLinkIn}
use Rattle.plan_defs.specs.Switches.{IsSendingOf, IsSent, IsReceiptOf, IsSwitch}
use Rattle.plan_defs.specs.declared.{plan.Homes.Homes, plan.Plan.Plan, switch.Sending.Sending, switch.Receipt.Receipt, switch.PortLinks.PortLinks}
use Rattle.plan_defs.specs.{declared.switch.Switch.Switch, Homes.home_of, Homes.ports_of, Readers.IsReader, Slots.slot_of}
use Rattle.plan_defs.proofs.lemmas.PortLemmas.{home_port, reader_port}
use Rattle.image_build.specs.{Plans.IsPlanned, Built.link_out, Built.link_in, code.Layouts.IsLaidOut}
use Rattle.image_build.proofs.{MemberLemmas.stands, MemberLemmas.made_there, ClaimLemmas.port_low, ClaimLemmas.port_at, ClaimLemmas.item_there}
use Rattle.image_build.proofs.SourceLemmas.{links_at, received}

-- the slots in which a port sends
sent_slots : (sends : List Sending) → out_slots (map link_out sends) ≡ map (λ (sending : Sending). sending.slot) sends
sent_slots [] = refl
sent_slots (sending ∷ sends) = ap (λ slots. sending.slot ∷ slots) (sent_slots sends)

module _ {nodes : NodeNet} {homes : Homes} {plan : Plan} {switch : Switch} {timing : Timing} {claims : List (List ℕ)} {image : Image}
    (planned : IsPlanned nodes homes plan) (routed : IsSwitch nodes homes plan.slots switch) (laid : IsLaidOut nodes homes plan switch timing claims image) where
  -- ---- links out

  -- each reader of an item receives it
  received_before : (o r : ℕ) → IsReader nodes homes o r → ReceivesFrom image r (slot_of plan.slots o) (home_of homes o)
  received_before o r reads =
      let known : (o < length nodes.items) × (r < ports_of homes) = reader_port nodes homes o r planned.formed planned.housed reads in
      let port : (port : PortImage) × IsPort image r port = port_at laid r known.1 in
      record { port = port.0; is = port.1; receives = received planned routed laid r o port.0 port.1 known.0 reads }

  sending_right : (p o : ℕ) (port : PortImage) (sending : Sending) → IsPort image p port → IsSent nodes homes p o → IsSendingOf nodes homes plan.slots o sending → IsLinkOut image p port (link_out sending)
  sending_right p o port sending at sent of = record {
    item = subst (Stands _) (sym of.slot) (item_there laid p o port at (sent.within, sent.home));
    some = let low = ((of.readers.exact sent.reader).1 sent.reads).1 in omega (arith, low);
    rising = of.readers.rising;
    other = λ k r here same. (reads k r here).away (same ∙ sym sent.home);
    received = λ k r here. subst (λ s. ReceivesFrom image r s p) (sym of.slot) (subst (ReceivesFrom image r (slot_of plan.slots o)) sent.home (received_before o r (reads k r here)));
  } where
    reads : (k r : ℕ) → slice_get sending.readers k ≡ Some r → IsReader nodes homes o r
    reads k r here = (of.readers.exact r).0 (listed sending.readers k r here)

  -- ---- links in

  -- what a port sends of an item to one of its readers
  sent_from : (o p : ℕ) (sender : PortImage) (out : PortLinks) → IsPort image (home_of homes o) sender → slice_get switch.ports (home_of homes o) ≡ Some out → o < length nodes.items → IsReader nodes homes o p
      → IsLinkIn image p (record { slot = slot_of plan.slots o; sender = home_of homes o })
  sent_from o p sender out at out_at low reads =
      let found : (k : ℕ) × (sending : Sending) × (slice_get out.sends k ≡ Some sending) × IsSendingOf nodes homes plan.slots o sending =
      (routed.sends (home_of homes o) out out_at).whole o (record { within = low; home = refl; reader = p; reads = reads }) in
      record {
        sender = sender;
        is = at;
        sent = link_out found.1;
        sends = (found.0, made_there link_out sender.outs out.sends found.0 found.1 (laid.links (home_of homes o) sender out at out_at).outs found.2);
        slot = found.3.slot;
        reads = stands found.1.readers p ((found.3.readers.exact p).1 reads);
      }

  -- an item is sent to each of its readers
  sent : (o p : ℕ) → o < length nodes.items → IsReader nodes homes o p → IsLinkIn image p (record { slot = slot_of plan.slots o; sender = home_of homes o })
  sent o p low reads =
      let sender : (sender : PortImage) × IsPort image (home_of homes o) sender = port_at laid (home_of homes o) (home_port nodes homes o planned.formed planned.housed low) in
      let out : (out : PortLinks) × (slice_get switch.ports (home_of homes o) ≡ Some out) = links_at planned routed laid (home_of homes o) (port_low laid (home_of homes o) sender.0 sender.1) in
      sent_from o p sender.0 out.0 sender.1 out.1 low reads

  -- ---- one port

  module _ (p : ℕ) (port : PortImage) (at : IsPort image p port) where
    links : (links : PortLinks) × (slice_get switch.ports p ≡ Some links)
    links = links_at planned routed laid p (port_low laid p port at)

    outs_are : port.outs ≡ map link_out links.0.sends
    outs_are = (laid.links p port links.0 at links.1).outs

    ins_are : port.ins ≡ map link_in links.0.receipts
    ins_are = (laid.links p port links.0 at links.1).ins

    pub outs_rise : IsStrictlyIncreasing (out_slots port.outs)
    outs_rise = subst IsStrictlyIncreasing (sym (ap out_slots outs_are ∙ sent_slots links.0.sends)) (routed.sends p links.0 links.1).rising

    pub sends_right : Each (IsLinkOut image p port) port.outs
    sends_right k link here =
        let made : (sending : Sending) × (slice_get links.0.sends k ≡ Some sending) × (link_out sending ≡ link) = mapped_at link_out links.0.sends k link (ap (λ list. slice_get list k) (sym outs_are) ∙ here) in
        let found : (o : ℕ) × IsSent nodes homes p o × IsSendingOf nodes homes plan.slots o made.0 = (routed.sends p links.0 links.1).each k made.0 made.1 in
        subst (IsLinkOut image p port) made.2 (sending_right p found.0 port made.0 at found.1 found.2)

    -- a link in, and the item that comes by it
    received_item : (k : ℕ) (link : LinkIn) → slice_get port.ins k ≡ Some link → (o : ℕ) × (o < length nodes.items) × IsReader nodes homes o p × (link.slot ≡ slot_of plan.slots o) × (link.sender ≡ home_of homes o)
    received_item k link here =
        let made : (receipt : Receipt) × (slice_get links.0.receipts k ≡ Some receipt) × (link_in receipt ≡ link) = mapped_at link_in links.0.receipts k link (ap (λ list. slice_get list k) (sym ins_are) ∙ here) in
        let found : (o : ℕ) × (o < length nodes.items) × IsReader nodes homes o p × IsReceiptOf homes plan.slots o made.0 = (routed.receipts p links.0 links.1).each k made.0 made.1 in
        (found.0, found.1, found.2, ap (λ (l : LinkIn). l.slot) (sym made.2) ∙ found.3.slot, ap (λ (l : LinkIn). l.sender) (sym made.2) ∙ found.3.sender)

    pub receives_right : Each (IsLinkIn image p) port.ins
    receives_right k link here =
        let item : (o : ℕ) × (o < length nodes.items) × IsReader nodes homes o p × (link.slot ≡ slot_of plan.slots o) × (link.sender ≡ home_of homes o) = received_item k link here in
        subst (IsLinkIn image p) (same_link link (slot_of plan.slots item.0) (home_of homes item.0) item.3 item.4) (sent item.0 p item.1 item.2)
      where
        same_link : (l : LinkIn) (slot sender : ℕ) → l.slot ≡ slot → l.sender ≡ sender → record { slot = slot; sender = sender } ≡ l
        same_link l slot sender slot_is sender_is = rw (← slot_is, ← sender_is) refl

    -- a slot in which the port receives is an item's
    pub in_item : (k slot : ℕ) → slice_get (in_slots port.ins) k ≡ Some slot → (o : ℕ) × (o < length nodes.items) × (slot ≡ slot_of plan.slots o)
    in_item k slot here =
        let made : (link : LinkIn) × (slice_get port.ins k ≡ Some link) × (link.slot ≡ slot) = mapped_at (λ (l : LinkIn). l.slot) port.ins k slot here in
        let item : (o : ℕ) × (o < length nodes.items) × IsReader nodes homes o p × (made.0.slot ≡ slot_of plan.slots o) × (made.0.sender ≡ home_of homes o) = received_item k made.0 made.1 in
        (item.0, item.1, sym made.2 ∙ item.3)
