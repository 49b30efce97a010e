-- Tables that are marked one node after another, and counted.
use Rattle.std.proofs.Common.{◌≡◌, ◌∙◌, ◌⊎◌, ◌↔◌, inl, inr, ℕ, ◌+◌, ◌*◌, ◌<◌, ◌≤◌, Bool, true, false, if◌then◌else◌, IsTrue, List, [], ◌∷◌, ◌++◌, length, get_or, refl, sym, ap, subst, arith, Some, slice_get}
use Rattle.std.proofs.{lemmas.Option.slice_get_within, lemmas.List.length-append, lemmas.List.get_or_append_left, Math.Seq.get_or-append_seam}
use Rattle.list_laws.proofs.Ranges.{last_or}
use Rattle.plan_defs.specs.{declared.bit_rows.BitRows.BitRows, Bits.HasBit, Bits.IsShaped, Bits.Adds, declared.plan.Homes.Homes, Homes.AreHomes, Homes.home_of}
use Rattle.plan_defs.specs.{Tables.UsesTable, Tables.UsesTables, code.UserRows.HasPlace}
use Rattle.plan_defs.proofs.{lemmas.AddLemmas.adds_both, lemmas.AddLemmas.adds_same, ListLemmas.listed_none, ListLemmas.listed_more, ListLemmas.listed_not}
use Rattle.node_defs.specs.declared.items.Item.TheVariants.{Input, BlockBit, Node, Latch}
use Rattle.node_defs.specs.{declared.items.Feeds.Feeds, declared.items.Item.Item, declared.items.NodeNet.NodeNet, WellFormed.IsWellFormed}
use Rattle.slot_plan.specs.{UsedTables.AreTableCounts, code.UsedTables.HasTable, code.UsedTables.CountsBelow, code.UsedTables.AreUsed}
use Rattle.slot_plan.proofs.BoardLemmas.{row_room}

abbrev pub UsesTableBelow : NodeNet → Homes → ℕ → ℕ → ℕ → Type 0
UsesTableBelow nodes homes n port table = (u : UsesTable nodes homes port table) × (u.node < n)

node_of : (item : Item) (t : ℕ) → HasTable item t → (feeds : Feeds) × (item ≡ Node t feeds)
node_of (Node table feeds) t has = (feeds, ap (λ k. Node k feeds) (sym has))
node_of (Input column) t has = absurd has
node_of (BlockBit block bit) t has = absurd has
node_of (Latch op) t has = absurd has

module _ (nodes : NodeNet) (homes : Homes) (n port : ℕ) (item : Item) (is : slice_get nodes.items n ≡ Some item) (home : home_of homes n ≡ port) where
  -- the table of a node is used at its home
  used_here : (t : ℕ) → HasTable item t → UsesTable nodes homes port t
  used_here t has = let node = node_of item t has in record { node = n; feeds = node.0; is = is ∙ ap Some node.1; home = home }

  pub table_more : (a b c : BitRows) → Adds a b (UsesTableBelow nodes homes n) → Adds b c (λ p t. (p ≡ port) × HasTable item t) → Adds a c (UsesTableBelow nodes homes (n + 1))
  table_more a b c before adds = adds_both a b c (UsesTableBelow nodes homes n) (λ p t. (p ≡ port) × HasTable item t) (UsesTableBelow nodes homes (n + 1)) before adds (λ p t. (there p t, back p t)) where
    there : (p t : ℕ) → UsesTableBelow nodes homes (n + 1) p t → UsesTableBelow nodes homes n p t ⊎ ((p ≡ port) × HasTable item t)
    there p t (u, low) = elim (last_or u.node n low) [
      | inl below ↦ inl (u, below)
      | inr same ↦
          let here : slice_get nodes.items n ≡ Some (Node t u.feeds) = subst (λ k. slice_get nodes.items k ≡ Some (Node t u.feeds)) same u.is in
          let one : Node t u.feeds ≡ item = cc in
          inr (sym u.home ∙ (ap (home_of homes) same ∙ home), subst (λ i. HasTable i t) one refl)
    ]

    back : (p t : ℕ) → UsesTableBelow nodes homes n p t ⊎ ((p ≡ port) × HasTable item t) → UsesTableBelow nodes homes (n + 1) p t
    back p t (inl (u, low)) = (u, omega arith)
    back p t (inr (at, has)) = (let node = node_of item t has in record { node = n; feeds = node.0; is = is ∙ ap Some node.1; home = home ∙ sym at }, omega arith)

  pub table_place : (a b : BitRows) (P : ℕ → ℕ → Type 0) → Adds a b P → ((p t : ℕ) → UsesTable nodes homes p t → HasPlace a p t) → (t : ℕ) → HasTable item t → HasPlace b port t
  table_place a b P adds places t has =
      let place = places port t (used_here t has) in
      record { within = rw adds.stride place.within; room = rw (adds.stride, adds.words) place.room }

pub table_all : (nodes : NodeNet) (homes : Homes) (a b : BitRows) (n : ℕ) → n ≡ length nodes.items → Adds a b (UsesTableBelow nodes homes n) → Adds a b (UsesTable nodes homes)
table_all nodes homes a b n whole adds = adds_same a b (UsesTableBelow nodes homes n) (UsesTable nodes homes) adds (λ p t. (there p t, λ u. u.0)) where
  there : (p t : ℕ) → UsesTable nodes homes p t → UsesTableBelow nodes homes n p t
  there p t u = (u, omega (arith, whole, slice_get_within nodes.items u.node (Node t u.feeds) u.is))

-- a used table is one of the tables
pub used_low : (nodes : NodeNet) (homes : Homes) (port t : ℕ) → IsWellFormed nodes → UsesTable nodes homes port t → t < length nodes.tables
used_low nodes homes port t formed u = formed.parts u.node (Node t u.feeds) u.is

-- and its port is a logic port
used_port : (nodes : NodeNet) (homes : Homes) (port t : ℕ) → AreHomes nodes homes → UsesTable nodes homes port t → port < homes.logic
used_port nodes homes port t are u = subst (λ p. p < homes.logic) u.home (are.housed u.node (Node t u.feeds) u.is)

pub used_place : (nodes : NodeNet) (homes : Homes) (rows : BitRows) (stride port t : ℕ) → IsWellFormed nodes → AreHomes nodes homes → IsShaped rows homes.logic stride → length nodes.tables < 64 * stride → UsesTable nodes homes port t → HasPlace rows port t
used_place nodes homes rows stride port t formed are shape room u = record {
  within = rw shape.stride_is (let low = used_low nodes homes port t formed u in omega (arith, low, room));
  room = row_room rows homes.logic stride port shape (used_port nodes homes port t are u);
}

pub used_are : (nodes : NodeNet) (homes : Homes) (a b : BitRows) (stride : ℕ) → IsShaped a homes.logic stride → ((row bit : ℕ) → HasBit a row bit → ⊥) → Adds a b (UsesTable nodes homes) → AreUsed nodes homes b
used_are nodes homes a b stride shape none adds = record {
  room = λ port low. rw (adds.stride, adds.words) (row_room a homes.logic stride port shape low);
  exact = λ port t. (λ has. there port t ((adds.bits port t).0 has), λ u. (adds.bits port t).1 (inr u));
} where
  there : (port t : ℕ) → HasBit a port t ⊎ UsesTable nodes homes port t → UsesTable nodes homes port t
  there port t (inl old) = absurd (none port t old)
  there port t (inr u) = u

-- ---- counts

pub counted_none : (P : ℕ → Type 0) → CountsBelow P 0 0
counted_none P = record { numbers = []; lists = listed_none P; are = refl }

pub counted_more : (P : ℕ → Type 0) (n count : ℕ) (is : Bool) → CountsBelow P n count → (IsTrue is ↔ P n) → CountsBelow P (n + 1) (if is then count + 1 else count)
counted_more P n count true before same = record {
  numbers = before.numbers ++ n ∷ [];
  lists = listed_more P n before.numbers before.lists (same.0 refl);
  are = let are = before.are in omega (arith, are, length-append before.numbers (n ∷ []));
}
counted_more P n count false before same = record {
  numbers = before.numbers;
  lists = listed_not P n before.numbers before.lists (λ is. let wrong = same.1 is in cc);
  are = before.are;
}

pub counted_few : (P : ℕ → Type 0) (end count : ℕ) → CountsBelow P end count → count ≤ end
counted_few P end count counts = let size = counts.lists.size in let are = counts.are in omega (arith, size, are)

-- the tables in a port's row are those that its nodes use
pub uses_are : (nodes : NodeNet) (homes : Homes) (rows : BitRows) (port count : ℕ) → IsWellFormed nodes → AreUsed nodes homes rows → CountsBelow (HasBit rows port) (length nodes.tables) count → UsesTables nodes homes port count
uses_are nodes homes rows port count formed used counts = record {
  numbers = counts.numbers;
  lists = record {
    rising = counts.lists.rising;
    exact = λ t. (
      λ among. (used.exact port t).0 (counts.lists.holds t among),
      λ u. counts.lists.whole t (used_low nodes homes port t formed u) ((used.exact port t).1 u),
    );
  };
  are = counts.are;
}

-- ---- the counts of one port after another

pub counts_none : (nodes : NodeNet) (homes : Homes) → AreTableCounts nodes homes 0 []
counts_none nodes homes = record { length_is = refl; uses = λ port low. absurd (omega (arith, low)); most = λ port low. absurd (omega (arith, low)) }

pub counts_more : (nodes : NodeNet) (homes : Homes) (n count : ℕ) (counts : List ℕ) → AreTableCounts nodes homes n counts → UsesTables nodes homes n count → count ≤ length nodes.tables → AreTableCounts nodes homes (n + 1) (counts ++ count ∷ [])
counts_more nodes homes n count counts before uses few = record {
  length_is = let long = length-append counts (count ∷ []) in let is = before.length_is in omega (arith, long, is);
  uses = λ port low. elim (last_or port n low) [
    | inl below ↦ rw (old port below) (before.uses port below)
    | inr same ↦ rw (new port same) (subst (λ p. UsesTables nodes homes p count) (sym same) uses)
  ];
  most = λ port low. elim (last_or port n low) [ inl below ↦ rw (old port below) (before.most port below) | inr same ↦ rw (new port same) few ];
} where
  old : (port : ℕ) → port < n → get_or (counts ++ count ∷ []) port 0 ≡ get_or counts port 0
  old port below = let is = before.length_is in get_or_append_left counts (count ∷ []) 0 port (omega (arith, below, is))

  new : (port : ℕ) → port ≡ n → get_or (counts ++ count ∷ []) port 0 ≡ count
  new port same = ap (λ k. get_or (counts ++ count ∷ []) k 0) (same ∙ sym before.length_is) ∙ get_or-append_seam counts count [] 0
