-- Of the refusals which say that a machine is too small, one is right.
use Rattle.std.proofs.Common.{◌≡◌, ◌∙◌, ℕ, ap}
use Rattle.machine_text.specs.declared.machine.Machine.{Machine}
use Rattle.net_defs.specs.declared.{netlist.Netlist.Netlist, timing.Timing.Timing}
use Rattle.node_defs.specs.{declared.items.NodeNet.NodeNet, Order.IsMapped}
use Rattle.plan_defs.specs.{declared.plan.Homes.Homes, Picks.ArePicked}
use Rattle.yse_compile.specs.declared.compiler.CompNo.TheVariants.{Loop, Bits, Slots, Functions, Memory, Nodes}
use Rattle.yse_compile.specs.Designs.{LacksBits, LacksNodes, LacksSlots, LacksFunctions}
use Rattle.yse_compile.specs.{declared.compiler.CompNo.CompNo, Compiled.IsRight, Compiled.IsOverfull}

-- refusals of three numbers, and of two
bits_same : (a b k m l n : ℕ) → a ≡ b → k ≡ m → l ≡ n → Bits a k l ≡ Bits b m n
bits_same a b k m l n block needed left = ap (λ x. Bits x k l) block ∙ (ap (λ x. Bits b x l) needed ∙ ap (Bits b m) left)

nodes_same : (k m l n : ℕ) → k ≡ m → l ≡ n → Nodes k l ≡ Nodes m n
nodes_same k m l n needed limit = ap (λ x. Nodes x l) needed ∙ ap (Nodes m) limit

slots_same : (k m l n : ℕ) → k ≡ m → l ≡ n → Slots k l ≡ Slots m n
slots_same k m l n needed limit = ap (λ x. Slots x l) needed ∙ ap (Slots m) limit

functions_same : (a b k m l n : ℕ) → a ≡ b → k ≡ m → l ≡ n → Functions a k l ≡ Functions b m n
functions_same a b k m l n port needed limit = ap (λ x. Functions x k l) port ∙ (ap (λ x. Functions b x l) needed ∙ ap (Functions b m) limit)

module _ (net : Netlist) (machine : Machine) (timing : Timing)
    (one_lack : (a k l b m n : ℕ) → LacksBits net machine timing a k l → LacksBits net machine timing b m n → (a ≡ b) × (k ≡ m) × (l ≡ n))
    (bits_first : (nodes : NodeNet) (homes : Homes) → IsMapped net timing nodes → ArePicked nodes machine homes → (a k l : ℕ) → LacksBits net machine timing a k l → ⊥)
    (bits_before_nodes : (a k l m n : ℕ) → LacksBits net machine timing a k l → LacksNodes net machine timing m n → ⊥)
    (one_many : (k l m n : ℕ) → LacksNodes net machine timing k l → LacksNodes net machine timing m n → (k ≡ m) × (l ≡ n))
    (nodes_first : (nodes : NodeNet) (homes : Homes) → IsMapped net timing nodes → ArePicked nodes machine homes → (k l : ℕ) → LacksNodes net machine timing k l → ⊥)
    (one_length : (k l m n : ℕ) → LacksSlots net machine timing k l → LacksSlots net machine timing m n → (k ≡ m) × (l ≡ n))
    (slots_first : (k l b m n : ℕ) → LacksSlots net machine timing k l → LacksFunctions net machine timing b m n → ⊥)
    (one_crowd : (a k l b m n : ℕ) → LacksFunctions net machine timing a k l → LacksFunctions net machine timing b m n → (a ≡ b) × (k ≡ m) × (l ≡ n)) where
  pub one_refusal : (one other : CompNo) → IsRight net machine timing one → IsRight net machine timing other → IsOverfull one → IsOverfull other → one ≡ other
  one_refusal (Loop members) other first second full too = absurd full
  one_refusal Memory other first second full too = absurd full
  one_refusal one (Loop members) first second full too = absurd too
  one_refusal one Memory first second full too = absurd too
  one_refusal (Bits a k l) (Bits b m n) first second full too = let same = one_lack a k l b m n first second in bits_same a b k m l n same.0 same.1 same.2
  one_refusal (Bits a k l) (Slots m n) first second full too = absurd (bits_first second.nodes second.homes second.items second.picked a k l first)
  one_refusal (Bits a k l) (Functions b m n) first second full too = absurd (bits_first second.nodes second.homes second.items second.picked a k l first)
  one_refusal (Bits a k l) (Nodes m n) first second full too = absurd (bits_before_nodes a k l m n first second)
  one_refusal (Nodes k l) (Bits b m n) first second full too = absurd (bits_before_nodes b m n k l second first)
  one_refusal (Nodes k l) (Nodes m n) first second full too = let same = one_many k l m n first second in nodes_same k m l n same.0 same.1
  one_refusal (Nodes k l) (Slots m n) first second full too = absurd (nodes_first second.nodes second.homes second.items second.picked k l first)
  one_refusal (Nodes k l) (Functions b m n) first second full too = absurd (nodes_first second.nodes second.homes second.items second.picked k l first)
  one_refusal (Slots k l) (Bits b m n) first second full too = absurd (bits_first first.nodes first.homes first.items first.picked b m n second)
  one_refusal (Slots k l) (Nodes m n) first second full too = absurd (nodes_first first.nodes first.homes first.items first.picked m n second)
  one_refusal (Slots k l) (Slots m n) first second full too = let same = one_length k l m n first second in slots_same k m l n same.0 same.1
  one_refusal (Slots k l) (Functions b m n) first second full too = absurd (slots_first k l b m n first second)
  one_refusal (Functions a k l) (Bits b m n) first second full too = absurd (bits_first first.nodes first.homes first.items first.picked b m n second)
  one_refusal (Functions a k l) (Nodes m n) first second full too = absurd (nodes_first first.nodes first.homes first.items first.picked m n second)
  one_refusal (Functions a k l) (Slots m n) first second full too = absurd (slots_first m n a k l second first)
  one_refusal (Functions a k l) (Functions b m n) first second full too = let same = one_crowd a k l b m n first second in functions_same a b k m l n same.0 same.1 same.2
