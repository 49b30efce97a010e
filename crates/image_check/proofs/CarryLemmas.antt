-- Sources that carry operands.
use Rattle.std.proofs.Common.{◌≡◌, ◌↔◌, IsTrue, Bool, true, false, rules, ℕ, ◌+◌, ◌<◌, ◌≤◌, List, length, get_or, Some, slice_get, inl, inr, sym, subst, arith}
use Rattle.std.proofs.lemmas.Option.{slice_get_within, slice_get-get_or}
use Rattle.list_laws.proofs.{Places.one_there, Ranges.last_or}
use Rattle.node_defs.specs.declared.items.{Feed.TheVariants.From, Feeds.Feeds, Tag.TheVariants.Last, NodeBlock.NodeBlock}
use Rattle.image_defs.specs.{declared.image.Source.Source, declared.image.BlockWork.BlockWork, Matches.CarryAll, Matches.MemoryImplements, Claimed.lists_of}
use Rattle.image_check.specs.{declared.claims.OnePort.OnePort, declared.nodes.Operands.Operands, code.OnePorts.CarriesAt, code.OnePorts.CarryFour}

-- the first n sources carry the first n items
abbrev pub CarryBelow : OnePort → List Source → List ℕ → ℕ → Type 0
CarryBelow one sources items n = (k x : ℕ) (source : Source) → k < n → slice_get sources k ≡ Some source → slice_get items k ≡ Some x → CarriesAt one source (From x Last)

abbrev pub CarryAllAt : OnePort → List Source → List ℕ → Type 0
CarryAllAt one sources items = CarryAll one.file.now.image (lists_of one.file.now.claims) one.number one.port.now.ins sources items

pub carry_not : (one : OnePort) (sources : List Source) (items : List ℕ) (k : ℕ) (d : Source) → k < length sources → length sources ≡ length items → IsTrue false ↔ CarriesAt one (get_or sources k d) (From (get_or items k 0) Last) → IsTrue false ↔ CarryAllAt one sources items
carry_not one sources items k d within as_many is =
    (λ f. cc, λ all. is.1 (all.each k (get_or items k 0) (get_or sources k d) (slice_get-get_or sources k d within) (slice_get-get_or items k 0 (omega (arith, within, as_many)))))

pub carry_more : (one : OnePort) (sources : List Source) (items : List ℕ) (k : ℕ) (d : Source) → k < length sources → length sources ≡ length items → CarryBelow one sources items k → CarriesAt one (get_or sources k d) (From (get_or items k 0) Last) → CarryBelow one sources items (k + 1)
carry_more one sources items k d within as_many before here i x source low at there = elim (last_or i k low) [
  | inl less ↦ before i x source less at there
  | inr same ↦
      let s : get_or sources k d ≡ source = one_there sources k i (get_or sources k d) source (sym same) (slice_get-get_or sources k d within) at in
      let n : get_or items k 0 ≡ x = one_there items k i (get_or items k 0) x (sym same) (slice_get-get_or items k 0 (omega (arith, within, as_many))) there in
      subst (λ (y : ℕ). CarriesAt one source (From y Last)) n (subst (λ (z : Source). CarriesAt one z (From (get_or items k 0) Last)) s here)
]

pub carry_done : (one : OnePort) (sources : List Source) (items : List ℕ) (k : ℕ) → length sources ≤ k → length sources ≡ length items → CarryBelow one sources items k → IsTrue true ↔ CarryAllAt one sources items
carry_done one sources items k all as_many so_far =
    (λ _. record { as_many = as_many; each = λ i x source at there. (let low = slice_get_within sources i source at in so_far i x source (omega (arith, low, all)) at there) }, λ _. search rules)

-- ---- nodes and memories

pub four_by_last : (one : OnePort) (sources : Operands) (feeds : Feeds) (r : Bool) → CarriesAt one sources.a feeds.a → CarriesAt one sources.b feeds.b → CarriesAt one sources.c feeds.c → IsTrue r ↔ CarriesAt one sources.d feeds.d → IsTrue r ↔ CarryFour one sources feeds
four_by_last one sources feeds r a b c said = (λ is. record { a = a; b = b; c = c; d = said.0 is }, λ f. said.1 f.d)

pub memory_by_word : (one : OnePort) (block : BlockWork) (memory : NodeBlock) (address word : List Source) (a w : List ℕ) (r : Bool) → address ≡ block.address → word ≡ block.word → a ≡ memory.address → w ≡ memory.word
    → CarriesAt one block.we (From memory.we Last) → CarryAllAt one address a → IsTrue r ↔ CarryAllAt one word w
    → IsTrue r ↔ MemoryImplements one.file.now.image (lists_of one.file.now.claims) one.number one.port.now.ins block memory
memory_by_word one block memory address word a w r address-is word-is a-is w-is we addresses said = (whole, λ m. words.1 m.word) where
  words : IsTrue r ↔ CarryAllAt one block.word memory.word
  words = subst (λ (xs : List ℕ). IsTrue r ↔ CarryAllAt one block.word xs) w-is (subst (λ (ss : List Source). IsTrue r ↔ CarryAllAt one ss w) word-is said)

  whole : IsTrue r → MemoryImplements one.file.now.image (lists_of one.file.now.claims) one.number one.port.now.ins block memory
  whole is = record {
    we = we;
    address = subst (λ (xs : List ℕ). CarryAllAt one block.address xs) a-is (subst (λ (ss : List Source). CarryAllAt one ss a) address-is addresses);
    word = words.0 is;
  }

pub memory_no_address : (one : OnePort) (block : BlockWork) (memory : NodeBlock) (address : List Source) (a : List ℕ) → address ≡ block.address → a ≡ memory.address → IsTrue false ↔ CarryAllAt one address a
    → IsTrue false ↔ MemoryImplements one.file.now.image (lists_of one.file.now.claims) one.number one.port.now.ins block memory
memory_no_address one block memory address a address-is a-is said =
    (λ f. cc, λ m. said.1 (subst (λ (ss : List Source). CarryAllAt one ss a) (sym address-is) (subst (λ (xs : List ℕ). CarryAllAt one block.address xs) (sym a-is) m.address)))
