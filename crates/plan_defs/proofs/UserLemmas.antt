-- Users that are marked one after another.
use Rattle.std.proofs.Common.{◌≡◌, ◌∙◌, ◌⊎◌, inl, inr, ℕ, ◌+◌, ◌<◌, List, length, get_or, sym, ap, subst, arith, Some, slice_get}
use Rattle.std.proofs.lemmas.{Option.slice_get_within, Option.slice_get-get_or, List.get_or_default}
use Rattle.std.specs.List.{Contains}
use Rattle.list_laws.proofs.Ranges.{last_or}
use Rattle.plan_defs.specs.Homes.{AreHomes, home_of, block_home, host_of}
use Rattle.plan_defs.specs.{declared.bit_rows.BitRows.BitRows, Bits.HasBit, Bits.IsShaped, Bits.Adds, declared.plan.Homes.Homes}
use Rattle.plan_defs.specs.{Readers.ItemTakes, Readers.MemoryTakes, Readers.IsUser, code.UserRows.HasPlace, code.UserRows.AreUsers}
use Rattle.plan_defs.proofs.lemmas.{AddLemmas.adds_both, AddLemmas.adds_same, PortLemmas.user_port}
use Rattle.node_defs.specs.{declared.items.Item.Item, declared.items.NodeBlock.NodeBlock, declared.items.NodeNet.NodeNet, Takes.Takes, Takes.BlockTakes}
use Rattle.node_defs.specs.WellFormed.{IsWellFormed}

pub place_kept : (a b : BitRows) (P : ℕ → ℕ → Type 0) (row bit : ℕ) → Adds a b P → HasPlace a row bit → HasPlace b row bit
place_kept a b P row bit adds place = record {
  within = rw adds.stride place.within;
  room = rw (adds.stride, adds.words) place.room;
}

pub shaped_place : (rows : BitRows) (n row bit : ℕ) → IsShaped rows n 4 → row < n → bit < 256 → HasPlace rows row bit
shaped_place rows n row bit shape low within = record {
  within = rw shape.stride_is (omega arith);
  room = rw (shape.stride_is, shape.words) (omega arith);
}

-- items of two kinds, with one port
pub adds_either : (a b c : BitRows) (P Q : ℕ → Type 0) (port : ℕ) → Adds a b (λ o p. P o × (p ≡ port)) → Adds b c (λ o p. Q o × (p ≡ port)) → Adds a c (λ o p. (P o ⊎ Q o) × (p ≡ port))
adds_either a b c P Q port first second = adds_both a b c (λ o p. P o × (p ≡ port)) (λ o p. Q o × (p ≡ port)) (λ o p. (P o ⊎ Q o) × (p ≡ port)) first second (λ o p. (there o p, back o p)) where
  there : (o p : ℕ) → (P o ⊎ Q o) × (p ≡ port) → (P o × (p ≡ port)) ⊎ (Q o × (p ≡ port))
  there o p (inl is, at) = inl (is, at)
  there o p (inr is, at) = inr (is, at)

  back : (o p : ℕ) → (P o × (p ≡ port)) ⊎ (Q o × (p ≡ port)) → (P o ⊎ Q o) × (p ≡ port)
  back o p (inl (is, at)) = (inl is, at)
  back o p (inr (is, at)) = (inr is, at)

-- ---- lists

-- item o is one of the first so many of the list
abbrev pub IsAmong : List ℕ → ℕ → ℕ → Type 0
IsAmong items n o = (k : ℕ) × (k < n) × (get_or items k 0 ≡ o)

pub among_more : (a b c : BitRows) (items : List ℕ) (n port : ℕ) → Adds a b (λ o p. IsAmong items n o × (p ≡ port)) → Adds b c (λ o p. (o ≡ get_or items n 0) × (p ≡ port)) → Adds a c (λ o p. IsAmong items (n + 1) o × (p ≡ port))
among_more a b c items n port before adds =
    adds_same a c (λ o p. (IsAmong items n o ⊎ (o ≡ get_or items n 0)) × (p ≡ port)) (λ o p. IsAmong items (n + 1) o × (p ≡ port))
    (adds_either a b c (IsAmong items n) (λ o. o ≡ get_or items n 0) port before adds)
    (λ o p. (λ h. (there o h.0, h.1), λ h. (back o h.0, h.1))) where
      there : (o : ℕ) → IsAmong items (n + 1) o → IsAmong items n o ⊎ (o ≡ get_or items n 0)
      there o (k, low, is) = elim (last_or k n low) [ inl below ↦ inl (k, below, is) | inr same ↦ inr (sym is ∙ ap (λ i. get_or items i 0) same) ]

      back : (o : ℕ) → IsAmong items n o ⊎ (o ≡ get_or items n 0) → IsAmong items (n + 1) o
      back o (inl (k, low, is)) = (k, omega arith, is)
      back o (inr is) = (n, omega arith, sym is)

pub among_all : (a b : BitRows) (items : List ℕ) (n port : ℕ) → n ≡ length items → Adds a b (λ o p. IsAmong items n o × (p ≡ port)) → Adds a b (λ o p. Contains items o × (p ≡ port))
among_all a b items n port whole adds =
    adds_same a b (λ o p. IsAmong items n o × (p ≡ port)) (λ o p. Contains items o × (p ≡ port)) adds (λ o p. (λ h. (there o h.0, h.1), λ h. (back o h.0, h.1))) where
      there : (o : ℕ) → Contains items o → IsAmong items n o
      there o (k, low, is) = (k, omega (arith, low, whole), get_or_default items k 0 o low ∙ is)

      back : (o : ℕ) → IsAmong items n o → Contains items o
      back o (k, low, is) = let inside : k < length items = omega (arith, low, whole) in (k, inside, get_or_default items k o 0 inside ∙ is)

-- ---- items and memories

abbrev pub ItemTakesBelow : NodeNet → Homes → ℕ → ℕ → ℕ → Type 0
ItemTakesBelow nodes homes n o p = (t : ItemTakes nodes homes o p) × (t.taker < n)

abbrev pub MemoryTakesBelow : NodeNet → Homes → ℕ → ℕ → ℕ → Type 0
MemoryTakesBelow nodes homes n o p = (t : MemoryTakes nodes homes o p) × (t.memory < n)

module _ (nodes : NodeNet) (homes : Homes) (a b c : BitRows) (n port : ℕ) where
  pub item_more : (item : Item) → slice_get nodes.items n ≡ Some item → home_of homes n ≡ port → Adds a b (ItemTakesBelow nodes homes n) → Adds b c (λ o p. Takes item o × (p ≡ port)) → Adds a c (ItemTakesBelow nodes homes (n + 1))
  item_more item is home before adds = adds_both a b c (ItemTakesBelow nodes homes n) (λ o p. Takes item o × (p ≡ port)) (ItemTakesBelow nodes homes (n + 1)) before adds (λ o p. (there o p, back o p)) where
    there : (o p : ℕ) → ItemTakesBelow nodes homes (n + 1) o p → ItemTakesBelow nodes homes n o p ⊎ (Takes item o × (p ≡ port))
    there o p (t, low) = elim (last_or t.taker n low) [
      | inl below ↦ inl (t, below)
      | inr same ↦
          let here : slice_get nodes.items n ≡ Some t.item = subst (λ k. slice_get nodes.items k ≡ Some t.item) same t.is in
          let one : t.item ≡ item = cc in
          inr (subst (λ i. Takes i o) one t.takes, sym t.home ∙ (ap (home_of homes) same ∙ home))
    ]

    back : (o p : ℕ) → ItemTakesBelow nodes homes n o p ⊎ (Takes item o × (p ≡ port)) → ItemTakesBelow nodes homes (n + 1) o p
    back o p (inl (t, low)) = (t, omega arith)
    back o p (inr (takes, at)) = (record { taker = n; item = item; is = is; takes = takes; home = home ∙ sym at }, omega arith)

  pub memory_more : (block : NodeBlock) → slice_get nodes.blocks n ≡ Some block → block_home homes n ≡ port → Adds a b (MemoryTakesBelow nodes homes n) → Adds b c (λ o p. BlockTakes block o × (p ≡ port)) → Adds a c (MemoryTakesBelow nodes homes (n + 1))
  memory_more block is home before adds = adds_both a b c (MemoryTakesBelow nodes homes n) (λ o p. BlockTakes block o × (p ≡ port)) (MemoryTakesBelow nodes homes (n + 1)) before adds (λ o p. (there o p, back o p)) where
    there : (o p : ℕ) → MemoryTakesBelow nodes homes (n + 1) o p → MemoryTakesBelow nodes homes n o p ⊎ (BlockTakes block o × (p ≡ port))
    there o p (t, low) = elim (last_or t.memory n low) [
      | inl below ↦ inl (t, below)
      | inr same ↦
          let here : slice_get nodes.blocks n ≡ Some t.block = subst (λ k. slice_get nodes.blocks k ≡ Some t.block) same t.is in
          let one : t.block ≡ block = cc in
          inr (subst (λ i. BlockTakes i o) one t.takes, sym t.home ∙ (ap (block_home homes) same ∙ home))
    ]

    back : (o p : ℕ) → MemoryTakesBelow nodes homes n o p ⊎ (BlockTakes block o × (p ≡ port)) → MemoryTakesBelow nodes homes (n + 1) o p
    back o p (inl (t, low)) = (t, omega arith)
    back o p (inr (takes, at)) = (record { memory = n; block = block; is = is; takes = takes; home = home ∙ sym at }, omega arith)

pub item_all : (nodes : NodeNet) (homes : Homes) (a b : BitRows) (n : ℕ) → n ≡ length nodes.items → Adds a b (ItemTakesBelow nodes homes n) → Adds a b (ItemTakes nodes homes)
item_all nodes homes a b n whole adds = adds_same a b (ItemTakesBelow nodes homes n) (ItemTakes nodes homes) adds (λ o p. (there o p, λ t. t.0)) where
  there : (o p : ℕ) → ItemTakes nodes homes o p → ItemTakesBelow nodes homes n o p
  there o p t = (t, omega (arith, whole, slice_get_within nodes.items t.taker t.item t.is))

pub memory_all : (nodes : NodeNet) (homes : Homes) (a b : BitRows) (n : ℕ) → n ≡ length nodes.blocks → Adds a b (MemoryTakesBelow nodes homes n) → Adds a b (MemoryTakes nodes homes)
memory_all nodes homes a b n whole adds = adds_same a b (MemoryTakesBelow nodes homes n) (MemoryTakes nodes homes) adds (λ o p. (there o p, λ t. t.0)) where
  there : (o p : ℕ) → MemoryTakes nodes homes o p → MemoryTakesBelow nodes homes n o p
  there o p t = (t, omega (arith, whole, slice_get_within nodes.blocks t.memory t.block t.is))

-- there is a place for what an item or a memory takes
pub item_place : (nodes : NodeNet) (homes : Homes) (a b : BitRows) (P : ℕ → ℕ → Type 0) (n port : ℕ) (item : Item) → slice_get nodes.items n ≡ Some item → home_of homes n ≡ port → Adds a b P → ((o p : ℕ) → ItemTakes nodes homes o p → HasPlace a o p) → (o : ℕ) → Takes item o → HasPlace b o port
item_place nodes homes a b P n port item is home adds places o takes = place_kept a b P o port adds (places o port (record { taker = n; item = item; is = is; takes = takes; home = home }))

pub memory_place : (nodes : NodeNet) (homes : Homes) (a b : BitRows) (P : ℕ → ℕ → Type 0) (n port : ℕ) (block : NodeBlock) → slice_get nodes.blocks n ≡ Some block → block_home homes n ≡ port → Adds a b P → ((o p : ℕ) → MemoryTakes nodes homes o p → HasPlace a o p) → (o : ℕ) → BlockTakes block o → HasPlace b o port
memory_place nodes homes a b P n port block is home adds places o takes = place_kept a b P o port adds (places o port (record { memory = n; block = block; is = is; takes = takes; home = home }))

-- ---- all users

pub user_place : (nodes : NodeNet) (homes : Homes) (rows : BitRows) (i port : ℕ) → IsWellFormed nodes → AreHomes nodes homes → IsShaped rows (length nodes.items) 4 → IsUser nodes homes i port → HasPlace rows i port
user_place nodes homes rows i port formed are shape uses =
    let known = user_port nodes homes i port formed are uses in
    let low = known.1 in
    shaped_place rows (length nodes.items) i port shape known.0 (omega (arith, low))

pub users_are : (nodes : NodeNet) (homes : Homes) (a b c d : BitRows) → IsShaped a (length nodes.items) 4 → ((row bit : ℕ) → HasBit a row bit → ⊥) → Adds a b (ItemTakes nodes homes) → Adds b c (MemoryTakes nodes homes) → Adds c d (λ o p. Contains nodes.printed o × (p ≡ host_of homes)) → AreUsers nodes homes d
users_are nodes homes a b c d shape none items memories printed = record {
  shape = record {
    stride_is = printed.stride ∙ (memories.stride ∙ (items.stride ∙ shape.stride_is));
    words = printed.words ∙ (memories.words ∙ (items.words ∙ shape.words));
  };
  exact = λ i port. (there i port, back i port);
} where
  there : (i port : ℕ) → HasBit d i port → IsUser nodes homes i port
  there i port has = elim ((printed.bits i port).0 has) [
    | inr is ↦ inr (inr is)
    | inl before ↦ elim ((memories.bits i port).0 before) [
      | inr is ↦ inr (inl is)
      | inl first ↦ elim ((items.bits i port).0 first) [ inr is ↦ inl is | inl old ↦ absurd (none i port old) ]
    ]
  ]

  back : (i port : ℕ) → IsUser nodes homes i port → HasBit d i port
  back i port (inl is) = (printed.bits i port).1 (inl ((memories.bits i port).1 (inl ((items.bits i port).1 (inr is)))))
  back i port (inr (inl is)) = (printed.bits i port).1 (inl ((memories.bits i port).1 (inr is)))
  back i port (inr (inr is)) = (printed.bits i port).1 (inr is)

-- what is read at a place of a list that was lent
pub read_at : {X : Type 0} (xs ys : List X) (n : ℕ) (d : X) → ys ≡ xs → n < length ys → slice_get xs n ≡ Some (get_or ys n d)
read_at xs ys n d same low = subst (λ l. slice_get l n ≡ Some (get_or ys n d)) same (slice_get-get_or ys n d low)
