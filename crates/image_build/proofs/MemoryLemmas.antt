-- The memories of the ports, one after another.
use Rattle.std.proofs.Common.{◌≡◌, ◌≢◌, inl, inr, ℕ, ◌+◌, ◌<◌, List, [], ◌∷◌, ◌++◌, length, take, get_or, Some, slice_get, slice_set, replicate, sym, ap, ◌∙◌, subst, refl, arith}
use Rattle.std.proofs.lemmas.List.{take_more, length_push, length-set, length-replicate}
use Rattle.std.proofs.lemmas.{Bool.cases_eq, Bool.cases_lt, Option.slice_get_within, Option.get_or_from_slice_get}
use Rattle.list_laws.proofs.Places.{at_front, seam_at}
use Rattle.node_defs.specs.declared.items.{NodeBlock.NodeBlock, NodeNet.NodeNet}
use Rattle.image_defs.specs.{declared.image.BlockWork.BlockWork, Matches.claims_of}
use Rattle.plan_defs.specs.{declared.plan.Homes.Homes, Homes.block_home, Homes.ports_of, code.Lists.ListsBelow}
use Rattle.plan_defs.proofs.ListLemmas.{listed_none, listed_more, listed_not}
use Rattle.image_build.specs.{declared.memories.Memories.Memories, Built.ArePortMemories, code.Layouts.block_for, code.Layouts.AreBlocks}
use Rattle.image_build.specs.code.Plans.{AreMemories, AreFirstMemories}
use Rattle.image_build.proofs.{GrowLemmas.last_place, ItemLemmas.empty_at, ItemLemmas.grown_at, ItemLemmas.kept_at}

module _ (nodes : NodeNet) (homes : Homes) where
  pub memories_none : (memories : Memories) → memories.lists ≡ replicate (ports_of homes) [] → memories.places ≡ [] → AreFirstMemories nodes homes 0 memories
  memories_none memories lists places = record {
    ports = ap length lists ∙ length-replicate {A = List ℕ} (ports_of homes) [];
    lists = λ p. subst (ListsBelow (λ m. block_home homes m ≡ p) 0) (sym (empty_at (ports_of homes) p memories.lists lists)) (listed_none (λ m. block_home homes m ≡ p));
    places_are = ap length places;
    places = λ m k here. (let low = slice_get_within memories.places m k here in absurd (omega (arith, low, ap length places)));
  }

  -- one more memory at its home
  pub memories_more : (n : ℕ) (old new : Memories) → block_home homes n < length old.lists → AreFirstMemories nodes homes n old
      → new.lists ≡ slice_set old.lists (block_home homes n) (claims_of old.lists (block_home homes n) ++ n ∷ []) → new.places ≡ old.places ++ length (claims_of old.lists (block_home homes n)) ∷ []
      → AreFirstMemories nodes homes (n + 1) new
  memories_more n old new low so_far lists_are places_are = record {
    ports = ap length lists_are ∙ length-set old.lists (block_home homes n) _ ∙ so_far.ports;
    lists = λ p. elim (cases_eq p (block_home homes n)) [
      | inl same ↦ subst (ListsBelow (λ m. block_home homes m ≡ p) (n + 1)) (sym (here p same)) (listed_more (λ m. block_home homes m ≡ p) n (claims_of old.lists p) (so_far.lists p) (sym same))
      | inr other ↦ subst (ListsBelow (λ m. block_home homes m ≡ p) (n + 1)) (sym (there p other)) (listed_not (λ m. block_home homes m ≡ p) n (claims_of old.lists p) (so_far.lists p) (λ same. other (sym same)))
    ];
    places_are = ap length places_are ∙ length_push old.places _ ∙ ap (λ k. k + 1) so_far.places_are;
    places = places;
  } where
    here : (p : ℕ) → p ≡ block_home homes n → claims_of new.lists p ≡ claims_of old.lists p ++ n ∷ []
    here p same = ap (λ lists. claims_of lists p) lists_are ∙ grown_at old.lists (block_home homes n) n p low same

    there : (p : ℕ) → p ≢ block_home homes n → claims_of new.lists p ≡ claims_of old.lists p
    there p other = ap (λ lists. claims_of lists p) lists_are ∙ kept_at old.lists (block_home homes n) n p other

    -- what stands in a list stays there
    stays : (p k m : ℕ) → slice_get (claims_of old.lists p) k ≡ Some m → slice_get (claims_of new.lists p) k ≡ Some m
    stays p k m at = elim (cases_eq p (block_home homes n)) [
      | inl same ↦ ap (λ xs. slice_get xs k) (here p same) ∙ at_front (claims_of old.lists p) (n ∷ []) k (slice_get_within (claims_of old.lists p) k m at) ∙ at
      | inr other ↦ ap (λ xs. slice_get xs k) (there p other) ∙ at
    ]

    places : (m k : ℕ) → slice_get new.places m ≡ Some k → slice_get (claims_of new.lists (block_home homes m)) k ≡ Some m
    places m k at = elim (cases_lt m (length old.places)) [
      | inl inside ↦ stays (block_home homes m) k m (so_far.places m k (sym (at_front old.places _ m inside) ∙ sym (ap (λ xs. slice_get xs m) places_are) ∙ at))
      | inr past ↦
          let last = last_place old.places (length (claims_of old.lists (block_home homes n))) m k past (sym (ap (λ xs. slice_get xs m) places_are) ∙ at) in
          let is : m ≡ n = last.0 ∙ so_far.places_are in
          rw (is, last.1) (ap (λ xs. slice_get xs (length (claims_of old.lists (block_home homes n)))) (here (block_home homes n) refl) ∙ seam_at (claims_of old.lists (block_home homes n)) n [])
    ]

  pub memories_all : (n : ℕ) (memories : Memories) → n ≡ length nodes.blocks → AreFirstMemories nodes homes n memories → AreMemories nodes homes memories
  memories_all n memories all so_far = record {
    ports = so_far.ports;
    lists = λ p low. record {
      rising = (so_far.lists p).rising;
      exact = λ m. (
        (λ held. ((rw all at (so_far.lists p).below m held), (so_far.lists p).holds m held)),
        (λ at. (so_far.lists p).whole m (rw all at.0) at.1),
      );
    };
    places_are = so_far.places_are ∙ all;
    places = so_far.places;
  }

  -- ---- blocks

  pub blocks_more : (slots : List ℕ) (p k d : ℕ) (numbers : List ℕ) (blocks : List BlockWork) (memory : NodeBlock) → k < length numbers → AreBlocks nodes homes slots p (take k numbers) blocks
      → slice_get nodes.blocks (get_or numbers k d) ≡ Some memory → AreBlocks nodes homes slots p (take (k + 1) numbers) (blocks ++ block_for homes slots p memory ∷ [])
  blocks_more slots p k d numbers blocks memory low so_far there =
      subst (λ xs. AreBlocks nodes homes slots p xs (blocks ++ block_for homes slots p memory ∷ [])) (sym (take_more numbers k d low)) (record {
        as_many = omega (arith, so_far.as_many, length_push (take k numbers) (get_or numbers k d), length_push blocks (block_for homes slots p memory));
        each = each;
      }) where
        each : (i m : ℕ) (one : NodeBlock) → slice_get (take k numbers ++ get_or numbers k d ∷ []) i ≡ Some m → slice_get nodes.blocks m ≡ Some one → slice_get (blocks ++ block_for homes slots p memory ∷ []) i ≡ Some (block_for homes slots p one)
        each i m one here is = elim (cases_lt i (length (take k numbers))) [
          | inl inside ↦ at_front blocks _ i (omega (arith, inside, so_far.as_many)) ∙ so_far.each i m one (sym (at_front (take k numbers) (get_or numbers k d ∷ []) i inside) ∙ here) is
          | inr past ↦
              let last = last_place (take k numbers) (get_or numbers k d) i m past here in
              let same : one ≡ memory = cc (last.1, is, there) in
              let at : i ≡ length blocks = omega (arith, last.0, so_far.as_many) in
              rw (at, same) (seam_at blocks (block_for homes slots p memory) [])
        ]

  -- the numbers of a port's memories are memories
  pub numbers_low : (p : ℕ) (numbers : List ℕ) (k m : ℕ) → ArePortMemories nodes homes p numbers → slice_get numbers k ≡ Some m → m < length nodes.blocks
  numbers_low p numbers k m are here = ((are.exact m).0 (k, slice_get_within numbers k m here, get_or_from_slice_get numbers k m m here)).0
