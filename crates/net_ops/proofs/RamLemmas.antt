-- What the memories answered through their ports.
use Rattle.std.proofs.Common.{◌≡◌, ◌≢◌, ◌∙◌, ℕ, ◌+◌, ◌<◌, inl, inr, List, [], ◌∷◌, ◌++◌, length, get_or, set, sym, ap, subst, arith, Some}
use Rattle.std.proofs.lemmas.List.{length-set, length_push, get_or-set_same, get_or-set_other, get_or_append_left, get_or_push}
use Rattle.std.proofs.lemmas.{Bool.Decides.eqb_tells, Option.slice_get_within, Option.slice_get-get_or, Option.get_or_from_slice_get}
use Rattle.std.specs.List.{slice_get, refill}
use Rattle.logic_four.specs.declared.V4.{V4}
use Rattle.net_defs.specs.declared.netlist.{Netlist.Netlist, Block.Block}
use Rattle.list_laws.proofs.Ranges.{last_or}
use Rattle.net_ops.proofs.{Memories.memory_here, Memories.same_memory, lemmas.Writes.refill_set}
use Rattle.net_ops.specs.{declared.ram.RamPort.RamPort, Lanes.lane_row, Rams.FitsPort, Rams.ArePorts, code.States.HasActed}

-- a port more
pub ports_push : (items : List Block) (ports : List RamPort) (i : ℕ) (memory : Block) (port : RamPort) → length ports ≡ i → memory ≡ get_or items i memory → FitsPort memory port
    → ((m : ℕ) (other : Block) (p : RamPort) → slice_get items m ≡ Some other → slice_get ports m ≡ Some p → FitsPort other p)
    → (m : ℕ) (other : Block) (p : RamPort) → slice_get items m ≡ Some other → slice_get (ports ++ port ∷ []) m ≡ Some p → FitsPort other p
ports_push items ports i memory port long is fits so_far m other p at there =
    let within = slice_get_within (ports ++ port ∷ []) m p there in
    let read : get_or (ports ++ port ∷ []) m port ≡ p = get_or_from_slice_get (ports ++ port ∷ []) m p port there in
    elim (last_or m (length ports) (omega (arith, length_push ports port))) [
      | inl h ↦ so_far m other p at (slice_get-get_or ports m port h ∙ ap Some (sym (get_or_append_left ports (port ∷ []) port m h) ∙ read))
      | inr h ↦
          let last : port ≡ p = sym (get_or_push ports port port m (sym h)) ∙ read in
          let same : memory ≡ other = is ∙ (ap (λ n. get_or items n memory) (sym (h ∙ long)) ∙ get_or_from_slice_get items m other memory at) in
          rw (← last, ← same) fits
    ]

pub ports_whole : (net : Netlist) (items : List Block) (ports : List RamPort) → items ≡ net.blocks → length ports ≡ length items
    → ((m : ℕ) (memory : Block) (port : RamPort) → slice_get items m ≡ Some memory → slice_get ports m ≡ Some port → FitsPort memory port) → ArePorts net ports
ports_whole net items ports whole long fits = record {
  memories = long ∙ ap length whole;
  fits = λ m memory port at there. fits m memory port (ap (λ list. slice_get list m) whole ∙ at) there;
}

-- one port set: its item, and every other as it was
module _ {X : Type 0} (xs : List X) (m : ℕ) (v : X) where
  set_here : (x : X) → m < length xs → slice_get (set xs m v) m ≡ Some x → v ≡ x
  set_here x room there = sym (get_or-set_same xs m v v room) ∙ get_or_from_slice_get (set xs m v) m x v there

  set_there : (k : ℕ) (x : X) → k ≢ m → slice_get (set xs m v) k ≡ Some x → slice_get xs k ≡ Some x
  set_there k x other there =
      let within = slice_get_within (set xs m v) k x there in
      slice_get-get_or xs k x (omega (arith, length-set xs m v)) ∙ ap Some (sym (get_or-set_other xs m k v x other) ∙ get_or_from_slice_get (set xs m v) k x x there)

module _ (net : Netlist) (row : List V4) (old words : List (List (List V4))) (ports now : List RamPort) (m : ℕ) (memory : Block) (item : RamPort) (are : ArePorts net ports) (same : now ≡ ports) (within : m < length net.blocks) (is : memory ≡ get_or net.blocks m memory) where
  room : m < length ports
  room = omega (arith, are.memories)

  pub fits_here : FitsPort memory (get_or now m item)
  fits_here = rw same (are.fits m memory (get_or ports m item) (memory_here net m memory within is) (slice_get-get_or ports m item room))

  pub fits_more : (new : RamPort) → FitsPort memory new → ArePorts net (refill (length ports) ports (set now m new))
  fits_more new fits = rw (refill_set ports now m new same) (record {
    memories = length-set ports m new ∙ are.memories;
    fits = λ k other port at there. elim (eqb_tells k m) [
      | inl h ↦
          let at_m : slice_get net.blocks m ≡ Some other = subst (λ n. slice_get net.blocks n ≡ Some other) h.1 at in
          let equal : other ≡ memory = same_memory net m memory other within is at_m in
          let last : new ≡ port = set_here ports m new port room (subst (λ n. slice_get (set ports m new) n ≡ Some port) h.1 there) in
          rw (equal, ← last) fits
      | inr h ↦ are.fits k other port at (set_there ports m new k port h.1 there)
    ];
  })

-- one lane more went through an edge
pub lanes_more : {W : Type 0} (lane : W → ℕ → V4) (lanes : ℕ) (net : Netlist) (start before after : List W) (words now : List (List (List (List V4)))) (l : ℕ) (new : List (List (List V4))) → l < length now → l < lanes
    → ((k : ℕ) → k < lanes → k ≢ l → lane_row lane k after ≡ lane_row lane k before)
    → ((k : ℕ) → k < l → HasActed net (lane_row lane k start) (lane_row lane k before) (get_or words k []) (get_or now k []))
    → HasActed net (lane_row lane l start) (lane_row lane l after) (get_or words l []) new
    → (k : ℕ) → k < l + 1 → HasActed net (lane_row lane k start) (lane_row lane k after) (get_or words k []) (get_or (set now l new) k [])
lanes_more lane lanes net start before after words now l new low few others done acted k below = elim (last_or k l below) [
  | inl h ↦
      let apart : k ≢ l = omega (arith, h) in
      rw (others k (omega (arith, h, few)) apart, get_or-set_other now l k new [] apart) (done k h)
  | inr h ↦
      subst (λ m. HasActed net (lane_row lane m start) (lane_row lane m after) (get_or words m []) (get_or (set now l new) m [])) (sym h)
      (rw (get_or-set_same now l new [] low) acted)
]
