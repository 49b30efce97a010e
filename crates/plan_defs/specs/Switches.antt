-- What the switch does in each slot.
use Rattle.std.specs.Prelude.{◌≡◌, ℕ, ◌<◌, List, length, map, Some, slice_get}
use Rattle.std.specs.List.Sorted.{IsStrictlyIncreasing}
use Rattle.node_defs.specs.declared.items.NodeNet.{NodeNet}
use Rattle.plan_defs.specs.declared.{plan.Homes.Homes, switch.Sending.Sending, switch.Receipt.Receipt, switch.PortLinks.PortLinks, switch.Switch.Switch}
use Rattle.plan_defs.specs.{Homes.home_of, Homes.ports_of, Readers.IsReader, Readers.IsReaderList, Slots.slot_of}

-- the sending is that of item i: in its slot, to all its readers
pub record IsSendingOf (nodes : NodeNet) (homes : Homes) (slots : List ℕ) (i : ℕ) (sending : Sending) : Type 0 where
  pub slot : sending.slot ≡ slot_of slots i
  pub readers : IsReaderList nodes homes i sending.readers

-- item i is at the port and has a reader
pub record IsSent (nodes : NodeNet) (homes : Homes) (port i : ℕ) : Type 0 where
  pub within : i < length nodes.items
  pub home : home_of homes i ≡ port
  pub reader : ℕ
  pub reads : IsReader nodes homes i reader

-- what the port sends, in slot order, at most once in a slot: each item that is at it and has a reader
pub record AreSends (nodes : NodeNet) (homes : Homes) (slots : List ℕ) (port : ℕ) (sends : List Sending) : Type 0 where
  pub rising : IsStrictlyIncreasing (map (λ sending. sending.slot) sends)
  pub each : (k : ℕ) (sending : Sending) → slice_get sends k ≡ Some sending → (i : ℕ) × IsSent nodes homes port i × IsSendingOf nodes homes slots i sending
  pub whole : (i : ℕ) → IsSent nodes homes port i → (k : ℕ) × (sending : Sending) × (slice_get sends k ≡ Some sending) × IsSendingOf nodes homes slots i sending

-- the receipt is of item i: in its slot, from its home
pub record IsReceiptOf (homes : Homes) (slots : List ℕ) (i : ℕ) (receipt : Receipt) : Type 0 where
  pub slot : receipt.slot ≡ slot_of slots i
  pub sender : receipt.sender ≡ home_of homes i

-- what the port receives, in slot order, at most once in a slot: each item that it reads
pub record AreReceipts (nodes : NodeNet) (homes : Homes) (slots : List ℕ) (port : ℕ) (receipts : List Receipt) : Type 0 where
  pub rising : IsStrictlyIncreasing (map (λ receipt. receipt.slot) receipts)
  pub each : (k : ℕ) (receipt : Receipt) → slice_get receipts k ≡ Some receipt → (i : ℕ) × (i < length nodes.items) × IsReader nodes homes i port × IsReceiptOf homes slots i receipt
  pub whole : (i : ℕ) → i < length nodes.items → IsReader nodes homes i port → (k : ℕ) × (receipt : Receipt) × (slice_get receipts k ≡ Some receipt) × IsReceiptOf homes slots i receipt

-- the switch of these items at these homes and slots
pub record IsSwitch (nodes : NodeNet) (homes : Homes) (slots : List ℕ) (switch : Switch) : Type 0 where
  pub ports : length switch.ports ≡ ports_of homes
  pub sends : (port : ℕ) (links : PortLinks) → slice_get switch.ports port ≡ Some links → AreSends nodes homes slots port links.sends
  pub receipts : (port : ℕ) (links : PortLinks) → slice_get switch.ports port ≡ Some links → AreReceipts nodes homes slots port links.receipts
