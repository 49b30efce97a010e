-- The items of the ports, one after another in slot order.
use Rattle.std.proofs.Common.{◌≡◌, ◌≢◌, ◌⊎◌, inl, inr, ℕ, ◌+◌, ◌<◌, List, [], ◌∷◌, ◌++◌, length, take, get_or, Some, slice_get, slice_set, replicate, sym, ap, ◌∙◌, subst, refl, arith}
use Rattle.std.proofs.lemmas.List.{take_all, length-map, length-replicate, length-set, get_or-replicate, get_or_past, get_or-set_same, get_or-set_other}
use Rattle.std.proofs.lemmas.Bool.{cases_eq, cases_lt}
use Rattle.std.specs.List.{Contains}
use Rattle.node_defs.specs.declared.items.NodeNet.{NodeNet}
use Rattle.plan_defs.specs.{declared.plan.Homes.Homes, declared.plan.Plan.Plan, Homes.home_of, Homes.ports_of, Slots.slot_of}
use Rattle.plan_defs.proofs.lemmas.{PlanLemmas.one_at_home, PortLemmas.home_port}
use Rattle.switch_set.specs.{declared.order.Placed.Placed, Links.IsSlotList, Order.items_of, Order.IsSlotOrder}
use Rattle.switch_set.proofs.SwitchLemmas.{item_low, here_is, lower, kept, added, old_or}
use Rattle.switch_set.proofs.lemmas.ListLemmas.{listed_none, listed_same, listed_more}
use Rattle.image_defs.specs.Matches.{claims_of}
use Rattle.image_build.specs.{PortItems.IsAt, PortItems.ArePlanClaims, Plans.IsPlanned, code.Plans.AreItemsAmong}

-- empty lists
pub empty_at : (count p : ℕ) (lists : List (List ℕ)) → lists ≡ replicate count [] → claims_of lists p ≡ []
empty_at count p lists same = elim (cases_lt p count) [
  | inl low ↦ ap (λ xs. get_or xs p []) same ∙ get_or-replicate count p [] [] low
  | inr past ↦ ap (λ xs. get_or xs p []) same ∙ get_or_past (replicate count []) p [] (omega (arith, past, length-replicate {A = List ℕ} count []))
]

module _ (nodes : NodeNet) (homes : Homes) (plan : Plan) where
  pub items_none : (lists : List (List ℕ)) → lists ≡ replicate (ports_of homes) [] → AreItemsAmong nodes homes plan.slots [] lists
  items_none lists same = record {
    ports = ap length same ∙ length-replicate {A = List ℕ} (ports_of homes) [];
    items = λ p. subst (IsSlotList (slot_of plan.slots) (λ i x. x ≡ i) (λ i. IsAt nodes homes p i × Contains [] i)) (sym (empty_at (ports_of homes) p lists same))
        (listed_none (slot_of plan.slots) (λ i x. x ≡ i) (λ i. IsAt nodes homes p i × Contains [] i) (λ i h. absurd (omega (arith, (h.1).1))));
  }

-- one list grows, and the others stay
pub grown_at : (lists : List (List ℕ)) (place number p : ℕ) → place < length lists → p ≡ place → claims_of (slice_set lists place (claims_of lists place ++ number ∷ [])) p ≡ claims_of lists p ++ number ∷ []
grown_at lists place number p low same = rw same (get_or-set_same lists place (claims_of lists place ++ number ∷ []) [] low)

pub kept_at : (lists : List (List ℕ)) (place number p : ℕ) → p ≢ place → claims_of (slice_set lists place (claims_of lists place ++ number ∷ [])) p ≡ claims_of lists p
kept_at lists place number p other = get_or-set_other lists place p (claims_of lists place ++ number ∷ []) [] other

module _ (nodes : NodeNet) (homes : Homes) (plan : Plan) (planned : IsPlanned nodes homes plan) (order : List Placed) (is : IsSlotOrder plan.slots order) where
  -- one more item in slot order
  pub items_more : (k : ℕ) (placed : Placed) (old : List (List ℕ)) → slice_get order k ≡ Some placed → AreItemsAmong nodes homes plan.slots (take k (items_of order)) old
      → AreItemsAmong nodes homes plan.slots (take (k + 1) (items_of order)) (slice_set old (home_of homes placed.item) (claims_of old (home_of homes placed.item) ++ placed.item ∷ []))
  items_more k placed old at so_far = record {
    ports = length-set old (home_of homes placed.item) _ ∙ so_far.ports;
    items = λ p. elim (cases_eq p (home_of homes placed.item)) [
      | inl same ↦ here p same
      | inr other ↦ there p other
    ];
  } where
    low : placed.item < length nodes.items
    low = item_low nodes homes plan planned.formed planned.housed planned.first_fit order is k placed at

    stays : (j : ℕ) → Contains (take k (items_of order)) j → Contains (take (k + 1) (items_of order)) j
    stays = kept nodes homes plan planned.formed planned.housed planned.first_fit order is k placed at

    either : (j : ℕ) → Contains (take (k + 1) (items_of order)) j → Contains (take k (items_of order)) j ⊎ (j ≡ placed.item)
    either = old_or nodes homes plan planned.formed planned.housed planned.first_fit order is k placed at

    slot_is : placed.slot ≡ slot_of plan.slots placed.item
    slot_is = (here_is nodes homes plan planned.formed planned.housed planned.first_fit order is k placed at).1

    home_low : home_of homes placed.item < length old
    home_low = rw so_far.ports (home_port nodes homes placed.item planned.formed planned.housed low)

    here : (p : ℕ) → p ≡ home_of homes placed.item → IsSlotList (slot_of plan.slots) (λ i x. x ≡ i) (λ i. IsAt nodes homes p i × Contains (take (k + 1) (items_of order)) i) (claims_of (slice_set old (home_of homes placed.item) (claims_of old (home_of homes placed.item) ++ placed.item ∷ [])) p)
    here p same =
        subst (IsSlotList (slot_of plan.slots) (λ i x. x ≡ i) (λ i. IsAt nodes homes p i × Contains (take (k + 1) (items_of order)) i)) (sym (grown_at old (home_of homes placed.item) placed.item p home_low same))
        (listed_more (slot_of plan.slots) (λ i x. x ≡ i) (λ i. IsAt nodes homes p i × Contains (take k (items_of order)) i) (λ i. IsAt nodes homes p i × Contains (take (k + 1) (items_of order)) i)
        (claims_of old p) placed.item placed.item (so_far.items p)
        (λ j y h of. subst (λ s. slot_of plan.slots y < s) slot_is
        (lower nodes homes plan planned.formed planned.housed planned.first_fit order is k placed at j (slot_of plan.slots y) h.1 (ap (slot_of plan.slots) of)
        (one_at_home nodes homes plan.slots (length nodes.items) planned.first_fit.slots j placed.item (h.0).0 low ((h.0).1 ∙ same))))
        (λ j h. (h.0, stays j h.1))
        (λ j h. elim (either j h.1) [ inl past ↦ inl (h.0, past) | inr new ↦ inr new ])
        ((low, sym same), added nodes homes plan planned.formed planned.housed planned.first_fit order is k placed at)
        refl)

    there : (p : ℕ) → p ≢ home_of homes placed.item → IsSlotList (slot_of plan.slots) (λ i x. x ≡ i) (λ i. IsAt nodes homes p i × Contains (take (k + 1) (items_of order)) i) (claims_of (slice_set old (home_of homes placed.item) (claims_of old (home_of homes placed.item) ++ placed.item ∷ [])) p)
    there p other =
        subst (IsSlotList (slot_of plan.slots) (λ i x. x ≡ i) (λ i. IsAt nodes homes p i × Contains (take (k + 1) (items_of order)) i)) (sym (kept_at old (home_of homes placed.item) placed.item p other))
        (listed_same (slot_of plan.slots) (λ i x. x ≡ i) (λ i. IsAt nodes homes p i × Contains (take k (items_of order)) i) (λ i. IsAt nodes homes p i × Contains (take (k + 1) (items_of order)) i)
        (claims_of old p) (so_far.items p)
        (λ j h. (h.0, stays j h.1))
        (λ j h. elim (either j h.1) [ inl past ↦ (h.0, past) | inr new ↦ absurd (other (sym (h.0).1 ∙ ap (home_of homes) new)) ]))

  -- all items
  pub items_all : (k : ℕ) (lists : List (List ℕ)) → k ≡ length order → AreItemsAmong nodes homes plan.slots (take k (items_of order)) lists → ArePlanClaims nodes homes plan.slots lists
  items_all k lists all so_far = record {
    ports = so_far.ports;
    items = λ p low. listed_same (slot_of plan.slots) (λ i x. x ≡ i) (λ i. IsAt nodes homes p i × Contains (take k (items_of order)) i) (IsAt nodes homes p) (claims_of lists p) (so_far.items p)
        (λ j h. h.0)
        (λ j at. (at, subst (λ xs. Contains xs j) (sym (take_all k (items_of order) (omega (arith, all, length-map order (λ (q : Placed). q.item))))) (is.whole j (omega (arith, at.0, planned.first_fit.slots.items)))));
  }
