-- Beside specs/Links.antt, what only private functions and proofs cite.
use Rattle.std.specs.Prelude.{◌≡◌, ℕ, ◌<◌, List, [], ◌∷◌, ◌++◌, length, Contains, slice_index_or}
use Rattle.node_defs.specs.declared.items.NodeNet.{NodeNet}
use Rattle.plan_defs.specs.declared.{plan.Homes.Homes, switch.Sending.Sending, switch.Receipt.Receipt, switch.PortLinks.PortLinks}
use Rattle.plan_defs.specs.{Homes.ports_of, Readers.IsReader, Switches.IsSendingOf, Switches.IsSent, Switches.IsReceiptOf}
use Rattle.switch_set.specs.Links.{IsSlotList}

-- what the port of this number sends and receives; nothing past the last port
abbrev pub links_at : List PortLinks → ℕ → PortLinks
links_at ports port = slice_index_or ports port (record { sends = []; receipts = [] })

-- a port that sends this too
abbrev pub with_sending : PortLinks → Sending → PortLinks
with_sending links sending = record links { sends = links.sends ++ sending ∷ [] }

-- a port that receives this too
abbrev pub with_receipt : PortLinks → Receipt → PortLinks
with_receipt links receipt = record links { receipts = links.receipts ++ receipt ∷ [] }

-- so many ports, which send and receive nothing
pub record AreUnlinked (count : ℕ) (ports : List PortLinks) : Type 0 where
  pub are : length ports ≡ count
  pub sends : (port : ℕ) → (links_at ports port).sends ≡ []
  pub receipts : (port : ℕ) → (links_at ports port).receipts ≡ []

-- the receivers, and no other ports, receive this too
pub record Receives (old new : List PortLinks) (IsReceiver : ℕ → Type 0) (receipt : Receipt) : Type 0 where
  pub ports : length new ≡ length old
  pub sends : (port : ℕ) → (links_at new port).sends ≡ (links_at old port).sends
  pub more : (port : ℕ) → IsReceiver port → (links_at new port).receipts ≡ (links_at old port).receipts ++ receipt ∷ []
  pub same : (port : ℕ) → (IsReceiver port → ⊥) → (links_at new port).receipts ≡ (links_at old port).receipts

-- in this slot the home sends to the readers too, and no other port sends or receives more
pub record Links (old new : List PortLinks) (slot home : ℕ) (readers : List ℕ) : Type 0 where
  pub ports : length new ≡ length old
  pub sender : 0 < length readers → (links_at new home).sends ≡ (links_at old home).sends ++ record { slot = slot; readers = readers } ∷ []
  pub silent : (port : ℕ) → (port ≡ home → readers ≡ []) → (links_at new port).sends ≡ (links_at old port).sends
  pub receivers : (port : ℕ) → Contains readers port → (links_at new port).receipts ≡ (links_at old port).receipts ++ record { slot = slot; sender = home } ∷ []
  pub others : (port : ℕ) → (Contains readers port → ⊥) → (links_at new port).receipts ≡ (links_at old port).receipts

-- what a port sends of these items
abbrev pub AreSendsOf : NodeNet → Homes → List ℕ → List ℕ → ℕ → List Sending → Type 0
AreSendsOf nodes homes slots items port sends =
    IsSlotList (λ (sending : Sending). sending.slot) (IsSendingOf nodes homes slots) (λ i. IsSent nodes homes port i × Contains items i) sends

-- what a port receives of these items
abbrev pub AreReceiptsOf : NodeNet → Homes → List ℕ → List ℕ → ℕ → List Receipt → Type 0
AreReceiptsOf nodes homes slots items port receipts =
    IsSlotList (λ (receipt : Receipt). receipt.slot) (IsReceiptOf homes slots) (λ i. IsReader nodes homes i port × Contains items i) receipts

-- the ports send and receive these items, and no others
pub record AreLinked (nodes : NodeNet) (homes : Homes) (slots items : List ℕ) (ports : List PortLinks) : Type 0 where
  pub ports_are : length ports ≡ ports_of homes
  pub sends : (port : ℕ) → AreSendsOf nodes homes slots items port (links_at ports port).sends
  pub receipts : (port : ℕ) → AreReceiptsOf nodes homes slots items port (links_at ports port).receipts
