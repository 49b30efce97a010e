-- A small image is well formed. It has an input, a node, a register and a memory. Port 0 is a logic
-- processor, port 1 an array processor, and port 2 the host. The host feeds the input in slot 0. The
-- node looks it up in slot 1, the register holds the node's value in slot 2, and the memory, whose write
-- enable, address bit and data bit are all the input, puts its output bit into slot 3. All are printed.
use Rattle.std.proofs.Common.{◌≡◌, ◌≢◌, ◌↔◌, ℕ, zero, suc, ◌+◌, ◌<◌, true, false, List, [], ◌∷◌, slice_get, Some, subst, refl, arith}
use Rattle.std.specs.List.{AllByRecursion, Sorted.IsStrictlyIncreasing}
use Rattle.list_laws.proofs.Options.{one_some}
use Rattle.logic_four.specs.declared.V4.TheVariants.{Zero}
use Rattle.net_defs.specs.declared.timing.Init.TheVariants as init
use Rattle.func_table.specs.declared.table.Table.{Table}
use Rattle.image_defs.specs.Places.{Each, Stands, item_slots, IsPort}
use Rattle.image_defs.specs.WellFormed.{IsThere, IsOfLast, IsOperand, IsPast, IsPresent, IsTask, IsBlock, IsBit, IsHost, IsLinkOut, IsLinkIn, IsPortImage, IsWellFormed, ReceivesFrom}
use Rattle.image_defs.specs.declared.image.{Source.Source, Source.TheVariants.Own, Source.TheVariants.Got, Source.TheVariants.Const, Task.Task}
use Rattle.image_defs.specs.declared.image.{Task.TheVariants.Eval, Task.TheVariants.Hold, BlockWork.BlockWork, OutBit.OutBit, InColumn.InColumn}
use Rattle.image_defs.specs.declared.image.{Work.TheVariants.Logic, Work.TheVariants.Array, Work.TheVariants.Host, LinkIn.LinkIn, LinkOut.LinkOut}
use Rattle.image_defs.specs.declared.image.{PortImage.PortImage, Image.Image}

-- what holds of each member by the list holds of each by its place
pub each_by : {X : Type 0} (P : X → Type 0) (xs : List X) → AllByRecursion P xs → Each P xs
each_by P [] all i x at = cc
each_by P (y ∷ ys) all zero x at = let e : y ≡ x = cc in subst P e all.0
each_by P (y ∷ ys) all (suc i) x at = each_by P ys all.1 i x at

-- a link in and a link out
abbrev pub comes : ℕ → ℕ → LinkIn
comes slot sender = record { slot = slot; sender = sender }

abbrev pub goes : ℕ → List ℕ → LinkOut
goes slot readers = record { slot = slot; readers = readers }

-- one number rises
pub one_rises : (s : ℕ) → IsStrictlyIncreasing (s ∷ [])
one_rises s k within = absurd (omega (arith, within))

two_rise : (s t : ℕ) → s < t → IsStrictlyIncreasing (s ∷ t ∷ [])
two_rise s t less zero within = omega (arith, less)
two_rise s t less (suc k) within = absurd (omega (arith, within))

three_rise : (s t u : ℕ) → s < t → t < u → IsStrictlyIncreasing (s ∷ t ∷ u ∷ [])
three_rise s t u less more zero within = omega (arith, less)
three_rise s t u less more (suc zero) within = omega (arith, more)
three_rise s t u less more (suc (suc k)) within = absurd (omega (arith, within))

-- what the ports do
abbrev pub looks : Task
looks = Eval 1 0 (Got 0 false) (Const Zero) (Const Zero) (Const Zero)

abbrev pub holds : Task
holds = Hold 2 (Own 1 true)

abbrev pub memory : BlockWork
memory = record { we = Got 0 true; address = Got 0 true ∷ []; word = Got 0 true ∷ [] }

abbrev pub out_bit : OutBit
out_bit = record { slot = 3; block = 0; bit = 0 }

abbrev pub feeds : InColumn
feeds = record { slot = 0; column = 0 }

abbrev pub array_port : PortImage
array_port = record {
  work = Array (memory ∷ []) (out_bit ∷ []);
  outs = goes 3 (2 ∷ []) ∷ [];
  ins = comes 0 2 ∷ [];
}

abbrev pub host_port : PortImage
host_port = record {
  work = Host (feeds ∷ []) (Own 0 false ∷ Got 1 false ∷ Got 2 false ∷ Got 3 false ∷ []);
  outs = goes 0 (0 ∷ 1 ∷ []) ∷ [];
  ins = comes 1 0 ∷ comes 2 0 ∷ comes 3 1 ∷ [];
}

module _ (table : Table) where
  abbrev pub logic_port : PortImage
  logic_port = record {
    work = Logic (table ∷ []) (looks ∷ holds ∷ []);
    outs = goes 1 (2 ∷ []) ∷ goes 2 (2 ∷ []) ∷ [];
    ins = comes 0 2 ∷ [];
  }

  abbrev pub image : Image
  image = record { slots = 4; units = 1; init = init.Zero; columns = 1; ports = logic_port ∷ array_port ∷ host_port ∷ [] }

  -- ---- links

  received_at : (p : ℕ) (port : PortImage) (slot sender i : ℕ) → IsPort image p port → slice_get port.ins i ≡ Some (comes slot sender) → ReceivesFrom image p slot sender
  received_at p port slot sender i is at = record { port = port; is = is; receives = (i, at) }

  -- a port before the host sends to the host
  sends_host : (p slot i : ℕ) (port : PortImage) → p < 2 → Stands (item_slots port.work) slot → slice_get host_port.ins i ≡ Some (comes slot p) → IsLinkOut image p port (goes slot (2 ∷ []))
  sends_host p slot i port first item at = record {
    item = item;
    some = omega arith;
    rising = one_rises 2;
    other = each_by (λ r. r ≢ p) (2 ∷ []) ((λ e. absurd (omega (arith, e, first))), tt);
    received = each_by (λ r. ReceivesFrom image r slot p) (2 ∷ []) (received_at 2 host_port slot p i refl at, tt);
  }

  host_sends : IsLinkOut image 2 host_port (goes 0 (0 ∷ 1 ∷ []))
  host_sends = record {
    item = (0, refl);
    some = omega arith;
    rising = two_rise 0 1 (omega arith);
    other = each_by (λ r. r ≢ 2) (0 ∷ 1 ∷ []) ((λ e. absurd (omega (arith, e))), ((λ e. absurd (omega (arith, e))), tt));
    received = each_by (λ r. ReceivesFrom image r 0 2) (0 ∷ 1 ∷ []) (received_at 0 logic_port 0 2 0 refl refl, (received_at 1 array_port 0 2 0 refl refl, tt));
  }

  comes_from : (p i j slot sender : ℕ) (port : PortImage) (readers : List ℕ) → IsPort image sender port → slice_get port.outs i ≡ Some (goes slot readers) → slice_get readers j ≡ Some p → IsLinkIn image p (comes slot sender)
  comes_from p i j slot sender port readers is at reads = record {
    sender = port;
    is = is;
    sent = goes slot readers;
    sends = (i, at);
    slot = refl;
    reads = (j, reads);
  }

  -- ---- ports

  logic_fits : IsPortImage image 0 logic_port
  logic_fits = record {
    items = two_rise 1 2 (omega arith);
    item_slots_within = each_by (λ slot. slot < 4) (1 ∷ 2 ∷ []) (omega arith, (omega arith, tt));
    work = each_by (IsTask logic_port 1) (looks ∷ holds ∷ []) ((omega arith, record { there = (0, refl); before = λ _. omega arith }, fixed, fixed, fixed), (record { there = (0, refl); last = refl }, tt));
    outs = two_rise 1 2 (omega arith);
    sends = each_by (IsLinkOut image 0 logic_port) (goes 1 (2 ∷ []) ∷ goes 2 (2 ∷ []) ∷ []) (sends_host 0 1 0 logic_port (omega arith) (0, refl) refl, (sends_host 0 2 1 logic_port (omega arith) (1, refl) refl, tt));
    ins = one_rises 0;
    in_slots_within = each_by (λ slot. slot < 4) (0 ∷ []) (omega arith, tt);
    receives = each_by (IsLinkIn image 0) (comes 0 2 ∷ []) (comes_from 0 0 0 0 2 host_port (0 ∷ 1 ∷ []) refl refl refl, tt);
  } where
    fixed : IsOperand logic_port 1 (Const Zero)
    fixed = record { there = tt; before = tt }

  array_fits : IsPortImage image 1 array_port
  array_fits = record {
    items = one_rises 3;
    item_slots_within = each_by (λ slot. slot < 4) (3 ∷ []) (omega arith, tt);
    work = (each_by (IsBlock array_port) (memory ∷ []) (block, tt), each_by (IsBit (memory ∷ [])) (out_bit ∷ []) ((memory, refl, omega arith), tt));
    outs = one_rises 3;
    sends = each_by (IsLinkOut image 1 array_port) (goes 3 (2 ∷ []) ∷ []) (sends_host 1 3 2 array_port (omega arith) (0, refl) refl, tt);
    ins = one_rises 0;
    in_slots_within = each_by (λ slot. slot < 4) (0 ∷ []) (omega arith, tt);
    receives = each_by (IsLinkIn image 1) (comes 0 2 ∷ []) (comes_from 1 0 1 0 2 host_port (0 ∷ 1 ∷ []) refl refl refl, tt);
  } where
    past : IsPast array_port (Got 0 true)
    past = record { there = (0, refl); last = refl }

    block : IsBlock array_port memory
    block = record {
      we = past;
      address = each_by (IsPast array_port) (Got 0 true ∷ []) (past, tt);
      address_bits = (omega arith, omega arith);
      word = each_by (IsPast array_port) (Got 0 true ∷ []) (past, tt);
      word_bits = (omega arith, omega arith);
    }

  host_fits : IsPortImage image 2 host_port
  host_fits = record {
    items = one_rises 0;
    item_slots_within = each_by (λ slot. slot < 4) (0 ∷ []) (omega arith, tt);
    work = (each_by (λ input. input.column < 1) (feeds ∷ []) (omega arith, tt), each_by (IsPresent host_port) (Own 0 false ∷ Got 1 false ∷ Got 2 false ∷ Got 3 false ∷ []) (present (Own 0 false) (0, refl) refl, (present (Got 1 false) (0, refl) refl, (present (Got 2 false) (1, refl) refl, (present (Got 3 false) (2, refl) refl, tt)))));
    outs = one_rises 0;
    sends = each_by (IsLinkOut image 2 host_port) (goes 0 (0 ∷ 1 ∷ []) ∷ []) (host_sends, tt);
    ins = three_rise 1 2 3 (omega arith) (omega arith);
    in_slots_within = each_by (λ slot. slot < 4) (1 ∷ 2 ∷ 3 ∷ []) (omega arith, (omega arith, (omega arith, tt)));
    receives = each_by (IsLinkIn image 2) (comes 1 0 ∷ comes 2 0 ∷ comes 3 1 ∷ []) (comes_from 2 0 0 1 0 logic_port (2 ∷ []) refl refl refl, (comes_from 2 1 0 2 0 logic_port (2 ∷ []) refl refl refl, (comes_from 2 0 0 3 1 array_port (2 ∷ []) refl refl refl, tt)));
  } where
    present : (source : Source) → IsThere host_port source → IsOfLast false source → IsPresent host_port source
    present source there last = record { there = there; last = last }

  pub image_fits : IsWellFormed image
  image_fits = record {
    slots = omega arith;
    units = (omega arith, omega arith);
    some_ports = omega arith;
    most_ports = omega arith;
    ports = ports;
    host = host;
  } where
    ports : (p : ℕ) (port : PortImage) → IsPort image p port → IsPortImage image p port
    ports zero port is = subst (IsPortImage image 0) (one_some logic_port port is) logic_fits
    ports (suc zero) port is = subst (IsPortImage image 1) (one_some array_port port is) array_fits
    ports (suc (suc zero)) port is = subst (IsPortImage image 2) (one_some host_port port is) host_fits
    ports (suc (suc (suc p))) port is = cc

    host : (p : ℕ) (port : PortImage) → IsPort image p port → IsHost port.work ↔ (p + 1 ≡ 3)
    host zero port is = subst (λ q. IsHost q.work ↔ (0 + 1 ≡ 3)) (one_some logic_port port is) ((λ none. absurd none), (λ e. absurd (omega (arith, e))))
    host (suc zero) port is = subst (λ q. IsHost q.work ↔ (1 + 1 ≡ 3)) (one_some array_port port is) ((λ none. absurd none), (λ e. absurd (omega (arith, e))))
    host (suc (suc zero)) port is = subst (λ q. IsHost q.work ↔ (2 + 1 ≡ 3)) (one_some host_port port is) ((λ _. omega arith), (λ _. tt))
    host (suc (suc (suc p))) port is = cc
