-- The memories of an array port have no more bits than the port holds.
use Rattle.std.proofs.Common.{inl, inr, ◌≡◌, ◌∙◌, ℕ, zero, suc, ◌+◌, ◌-◌, ◌*◌, ◌^◌, ◌<◌, ◌≤◌, ◌==◌, Bool, true, false, List, [], ◌∷◌, ◌++◌, length, get_or, Some, slice_get, refl, sym, ap, subst, mul_comm, arith}
use Rattle.std.proofs.{lemmas.Bool.cases_lt, lemmas.Bool.eqb-true, lemmas.Bool.eqb-false, Math.Numerals.add-one}
use Rattle.std.proofs.lemmas.{List.Sums.sum_by-cons, List.Sums.sum_by_push, Option.slice_get_within, Option.get_or_from_slice_get}
use Rattle.std.specs.List.{sum_by}
use Rattle.list_laws.proofs.Members.{member_at}
use Rattle.limits.specs.declared.TheConstants.{MAX_ARRAY_BITS}
use Rattle.machine_text.specs.{declared.machine.Limited.TheVariants.Bits, declared.machine.Machine.Machine, Machines.IsValid}
use Rattle.machine_text.proofs.lemmas.LimitLemmas.{limit_in_range}
use Rattle.node_defs.specs.declared.items.{NodeBlock.NodeBlock, NodeNet.NodeNet}
use Rattle.plan_defs.specs.Picks.{bits_of, bits_before, bit_limit, AreHoused}
use Rattle.plan_defs.specs.{declared.plan.Homes.Homes, code.Lists.ListsBelow}
use Rattle.plan_defs.proofs.ListLemmas.{listed_none, listed_more, listed_not, listed_all}
use Rattle.switch_set.proofs.lemmas.SameLemmas.{one_lists}
use Rattle.home_pick.proofs.FillLemmas.{bits_at, bits_more, bits_read}
use Rattle.image_defs.specs.declared.image.{BlockWork.BlockWork, LinkIn.LinkIn, OutBit.OutBit, Work.Work}
use Rattle.image_defs.specs.declared.image.{Work.TheVariants.Logic, Work.TheVariants.Array, Work.TheVariants.Host, Image.Image}
use Rattle.image_defs.specs.Places.{blocks_of}
use Rattle.image_file.specs.Ranges as ranges
use Rattle.image_file.specs.Ranges.{block_bits}
use Rattle.image_build.specs.Built.{AreBlocksOf, IsOrdered}

-- ---- sums

sums_same : {X Y : Type 0} (f : X → ℕ) (g : Y → ℕ) (xs : List X) (ys : List Y) → length xs ≡ length ys → ((k : ℕ) (x : X) (y : Y) → slice_get xs k ≡ Some x → slice_get ys k ≡ Some y → f x ≡ g y) → sum_by f xs ≡ sum_by g ys
sums_same f g [] [] long same = refl
sums_same f g [] (y ∷ ys) long same = absurd (omega (arith, long))
sums_same f g (x ∷ xs) [] long same = absurd (omega (arith, long))
sums_same f g (x ∷ xs) (y ∷ ys) long same =
    let first : f x ≡ g y = same 0 x y refl refl in
    let rest : sum_by f xs ≡ sum_by g ys = sums_same f g xs ys (omega (arith, long)) (λ k z w here there. same (suc k) z w here there) in
    omega (arith, sum_by-cons f x xs, sum_by-cons g y ys, first, rest)

-- ---- the memories of a port

-- memory m is one of the first so many, and is at port p
abbrev IsHere : List ℕ → ℕ → ℕ → ℕ → Type 0
IsHere ports p end m = (m < end) × (get_or ports m 0 ≡ p)

-- those of the first n memories that are at port p, and their bits
record Listing (nodes : NodeNet) (ports : List ℕ) (p end n : ℕ) : Type 0 where
  numbers : List ℕ
  listed : ListsBelow (IsHere ports p end) n numbers
  sum : sum_by (bits_of nodes) numbers ≡ bits_before nodes ports n p

module _ (nodes : NodeNet) (ports : List ℕ) (p : ℕ) where
  bits_here : (n : ℕ) → (get_or ports n 0 == p) ≡ true → bits_at nodes ports p n ≡ bits_of nodes n
  bits_here n here = rw here refl

  bits_away : (n : ℕ) → (get_or ports n 0 == p) ≡ false → bits_at nodes ports p n ≡ 0
  bits_away n away = rw away refl

  list_more : (end n : ℕ) → suc n ≤ end → Listing nodes ports p end n → (b : Bool) → (get_or ports n 0 == p) ≡ b → Listing nodes ports p end (suc n)
  list_more end n few before true here = record {
    numbers = before.numbers ++ n ∷ [];
    listed = subst (λ m. ListsBelow (IsHere ports p end) m (before.numbers ++ n ∷ [])) (add-one n) (listed_more (IsHere ports p end) n before.numbers before.listed (omega (arith, few), eqb-true (get_or ports n 0) p here));
    sum = subst (λ m. sum_by (bits_of nodes) (before.numbers ++ n ∷ []) ≡ bits_before nodes ports m p) (add-one n)
        (let before_sum = before.sum in omega (arith, sum_by_push (bits_of nodes) before.numbers n, bits_more nodes ports n p, bits_here n here, before_sum));
  }
  list_more end n few before false away = record {
    numbers = before.numbers;
    listed = subst (λ m. ListsBelow (IsHere ports p end) m before.numbers) (add-one n) (listed_not (IsHere ports p end) n before.numbers before.listed (λ is. eqb-false (get_or ports n 0) p away is.1));
    sum = subst (λ m. sum_by (bits_of nodes) before.numbers ≡ bits_before nodes ports m p) (add-one n)
        (let before_sum = before.sum in omega (arith, bits_more nodes ports n p, bits_away n away, before_sum));
  }

  list_to : (end n : ℕ) → n ≤ end → Listing nodes ports p end n
  list_to end zero few = record { numbers = []; listed = listed_none (IsHere ports p end); sum = refl }
  list_to end (suc n) few = list_more end n few (list_to end n (omega (arith, few))) (get_or ports n 0 == p) refl

-- memories that are housed have no more bits at a port than it holds
module _ (nodes : NodeNet) (machine : Machine) (ports : List ℕ) (count : ℕ) (housed : AreHoused nodes machine ports count) (a : ℕ) where
  fits_more : (n : ℕ) → suc n ≤ count → bits_before nodes ports n (machine.logic + a) ≤ bit_limit machine a → (b : Bool) → (get_or ports n 0 == machine.logic + a) ≡ b → bits_before nodes ports (n + 1) (machine.logic + a) ≤ bit_limit machine a
  fits_more n few before true here =
      let home = housed.array n (omega (arith, few)) in
      let same : home.0 ≡ a = let at = home.2 in omega (arith, at, eqb-true (get_or ports n 0) (machine.logic + a) here) in
      let free : bit_limit machine a < bits_before nodes ports n (machine.logic + a) + bits_of nodes n → ⊥ = subst (λ b. bit_limit machine b < bits_before nodes ports n (machine.logic + b) + bits_of nodes n → ⊥) same home.3.free in
      elim (cases_lt (bit_limit machine a) (bits_before nodes ports n (machine.logic + a) + bits_of nodes n)) [
        | inl past ↦ absurd (free past)
        | inr room ↦ omega (arith, room, bits_more nodes ports n (machine.logic + a), bits_here nodes ports (machine.logic + a) n here)
      ]
  fits_more n few before false away = omega (arith, before, bits_more nodes ports n (machine.logic + a), bits_away nodes ports (machine.logic + a) n away)

  fits_to : (n : ℕ) → n ≤ count → bits_before nodes ports n (machine.logic + a) ≤ bit_limit machine a
  fits_to zero few = omega arith
  fits_to (suc n) few =
      subst (λ m. bits_before nodes ports m (machine.logic + a) ≤ bit_limit machine a) (add-one n)
      (fits_more n few (fits_to n (omega (arith, few))) (get_or ports n 0 == machine.logic + a) refl)

-- ---- what an array port does

module _ (nodes : NodeNet) (homes : Homes) (machine : Machine) (image : Image) (claims : List (List ℕ)) (p : ℕ) (ins : List LinkIn) where
  module _ (blocks : List BlockWork) (outs : List OutBit) (are : AreBlocksOf nodes homes image claims p ins blocks outs) where
    listing : Listing nodes homes.blocks p (length nodes.blocks) (length nodes.blocks)
    listing = list_to nodes homes.blocks p (length nodes.blocks) (length nodes.blocks) (omega arith)

    same_numbers : are.numbers ≡ listing.numbers
    same_numbers = one_lists (IsHere homes.blocks p (length nodes.blocks)) are.numbers listing.numbers are.lists
        (listed_all (IsHere homes.blocks p (length nodes.blocks)) (length nodes.blocks) listing.numbers listing.listed (λ m is. is.0))

    few_blocks : length blocks ≤ length nodes.blocks
    few_blocks = let count = are.as_many in let size = listing.listed.size in omega (arith, count, ap length same_numbers, size)

    block_same : (k : ℕ) (block : BlockWork) (m : ℕ) → slice_get blocks k ≡ Some block → slice_get are.numbers k ≡ Some m → block_bits block ≡ bits_of nodes m
    block_same k block m here there =
        let low : m < length nodes.blocks = ((are.lists.exact m).0 (k, slice_get_within are.numbers k m there, get_or_from_slice_get are.numbers k m m there)).0 in
        let memory : (memory : NodeBlock) × (slice_get nodes.blocks m ≡ Some memory) = member_at nodes.blocks m low in
        let same = are.each k m block memory.0 here there memory.1 in
        ap (λ n. n * 2 ^ length block.address) same.word.as_many
        ∙ (ap (λ n. length memory.0.word * 2 ^ n) same.address.as_many
        ∙ (mul_comm (length memory.0.word) (2 ^ length memory.0.address) ∙ sym (bits_read nodes m memory.0 memory.1)))

    bits_sum : sum_by block_bits blocks ≡ bits_before nodes homes.blocks (length nodes.blocks) p
    bits_sum = sums_same block_bits (bits_of nodes) blocks are.numbers are.as_many block_same ∙ (ap (sum_by (bits_of nodes)) same_numbers ∙ listing.sum)

  pub blocks_few : (work : Work) → IsOrdered nodes homes image claims p ins work → length (blocks_of work) ≤ length nodes.blocks
  blocks_few (Logic tables tasks) order = omega arith
  blocks_few (Array blocks outs) (from, low, are) = few_blocks blocks outs are
  blocks_few (Host inputs printed) order = omega arith

  pub bits_few : (work : Work) → IsValid machine → homes.logic ≡ machine.logic → AreHoused nodes machine homes.blocks (length nodes.blocks)
      → IsOrdered nodes homes image claims p ins work → ranges.bits_of work ≤ MAX_ARRAY_BITS
  bits_few (Logic tables tasks) valid logic housed order = omega arith
  bits_few (Array blocks outs) valid logic housed (from, low, are) =
      let a : ℕ = p - homes.logic in
      let here : p ≡ machine.logic + (p - homes.logic) = omega (arith, from, logic) in
      let most = (limit_in_range machine Bits (p - homes.logic) valid).1 in
      let room : bits_before nodes homes.blocks (length nodes.blocks) p ≤ bit_limit machine (p - homes.logic) =
      subst (λ q. bits_before nodes homes.blocks (length nodes.blocks) q ≤ bit_limit machine (p - homes.logic)) (sym here) (fits_to nodes machine homes.blocks (length nodes.blocks) housed (p - homes.logic) (length nodes.blocks) (omega arith)) in
      omega (arith, bits_sum blocks outs are, room, most)
  bits_few (Host inputs printed) valid logic housed order = omega arith
