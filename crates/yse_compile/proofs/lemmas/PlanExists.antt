-- There is a first-fit plan, and each port's tables are counted.
use Rattle.std.proofs.Common.{◌≡◌, inl, inr, ℕ, zero, suc, ◌+◌, ◌<◌, List, [], ◌∷◌, ◌++◌, length, refl, sym, ap, subst, arith}
use Rattle.std.proofs.{Math.Numerals.add-one, lemmas.List.length-append}
use Rattle.list_laws.proofs.{Places.read_before, Places.read_last, Ranges.last_or}
use Rattle.node_defs.specs.{declared.items.Item.TheVariants.Node, declared.items.NodeNet.NodeNet, WellFormed.IsWellFormed}
use Rattle.plan_defs.specs.Slots.{slot_of, needed_of, IsBlocked, AreFirstFit, IsFirstFitPlan}
use Rattle.plan_defs.specs.{declared.plan.Homes.Homes, declared.plan.Plan.Plan, Homes.AreHomes, Lists.IsLeastFree, Tables.UsesTable, Tables.UsesTables}
use Rattle.plan_defs.proofs.{ListLemmas.listed_all, lemmas.PlanLemmas.blocked_agree, lemmas.PlanLemmas.least_same}
use Rattle.yse_compile.proofs.{KnownLemmas.least_or_all, KnownLemmas.listed_to, lemmas.KnownUses.blocked_known, lemmas.KnownUses.table_known}

-- the slots of the first n items are below some number
pub slots_end : (slots : List ℕ) (n : ℕ) → (end : ℕ) × ((k : ℕ) → k < n → slot_of slots k < end)
slots_end slots zero = (0, λ k low. absurd (omega (arith, low)))
slots_end slots (suc n) = next (slots_end slots n).0 (slots_end slots n).1 where
  next : (end : ℕ) → ((k : ℕ) → k < n → slot_of slots k < end) → (past : ℕ) × ((k : ℕ) → k < suc n → slot_of slots k < past)
  next end below = (
    end + slot_of slots n + 1,
    λ k low. elim (last_or k n (omega (arith, low))) [
      | inl under ↦ omega (arith, below k under)
      | inr same ↦ omega (arith, ap (slot_of slots) same)
    ],
  )

module _ (nodes : NodeNet) (homes : Homes) (formed : IsWellFormed nodes) where
  -- what rules a slot out is an item before
  blocked_low : (slots : List ℕ) (n end s : ℕ) → ((k : ℕ) → k < n → slot_of slots k < end) → IsBlocked nodes homes slots n s → s < end
  blocked_low slots n end s below (inl early) = omega (arith, early.late, below early.operand (formed.awaited n early.operand early.item early.is early.awaits))
  blocked_low slots n end s below (inr (inl held)) = omega (arith, held.slot, below held.holder held.before)
  blocked_low slots n end s below (inr (inr received_before)) = omega (arith, received_before.slot, below received_before.sent received_before.before)

  -- so there is a free slot, and a least one
  least_there : AreHomes nodes homes → (slots : List ℕ) (n : ℕ) → (s : ℕ) × IsLeastFree (IsBlocked nodes homes slots n) s
  least_there are slots n = told (slots_end slots n).0 (slots_end slots n).1 where
    told : (end : ℕ) → ((k : ℕ) → k < n → slot_of slots k < end) → (s : ℕ) × IsLeastFree (IsBlocked nodes homes slots n) s
    told end below = elim (least_or_all (IsBlocked nodes homes slots n) (λ s. blocked_known nodes homes formed are slots n s) (end + 1)) [
      | inl found ↦ (found.0, found.2)
      | inr all ↦ (let low : end < end = blocked_low slots n end end below (all end (omega arith)) in absurd (omega (arith, low)))
    ]

  -- one more item gets its slot
  fit_next : (slots : List ℕ) (n slot : ℕ) → AreFirstFit nodes homes slots n → IsLeastFree (IsBlocked nodes homes slots n) slot → AreFirstFit nodes homes (slots ++ slot ∷ []) (n + 1)
  fit_next slots n slot fit least = record {
    items = omega (arith, length-append slots (slot ∷ []), fit.items);
    least = λ i low. elim (last_or i n low) [
      | inl below ↦ subst (IsLeastFree (IsBlocked nodes homes (slots ++ slot ∷ []) i)) (sym (old i below)) (kept i (slot_of slots i) (λ k before. old k (omega (arith, before, below))) (fit.least i below))
      | inr same ↦ subst (λ k. IsLeastFree (IsBlocked nodes homes (slots ++ slot ∷ []) k) (slot_of (slots ++ slot ∷ []) k)) (sym same)
          (subst (IsLeastFree (IsBlocked nodes homes (slots ++ slot ∷ []) n)) (sym (read_last slots slot n (sym fit.items))) (kept n slot old least))
    ];
  } where
    old : (k : ℕ) → k < n → slot_of (slots ++ slot ∷ []) k ≡ slot_of slots k
    old k low = read_before slots slot k (omega (arith, low, fit.items))

    kept : (i s : ℕ) → ((k : ℕ) → k < i → slot_of (slots ++ slot ∷ []) k ≡ slot_of slots k) → IsLeastFree (IsBlocked nodes homes slots i) s → IsLeastFree (IsBlocked nodes homes (slots ++ slot ∷ []) i) s
    kept i s agree = least_same (IsBlocked nodes homes slots i) (IsBlocked nodes homes (slots ++ slot ∷ []) i) s
        (λ m. blocked_agree nodes homes slots (slots ++ slot ∷ []) i m formed (λ k low. sym (agree k low)))
        (λ m. blocked_agree nodes homes (slots ++ slot ∷ []) slots i m formed agree)

  fit_to : AreHomes nodes homes → (n : ℕ) → (slots : List ℕ) × AreFirstFit nodes homes slots n
  fit_to are zero = ([], record { items = refl; least = λ i low. absurd (omega (arith, low)) })
  fit_to are (suc n) = next (fit_to are n).0 (fit_to are n).1 where
    next : (slots : List ℕ) → AreFirstFit nodes homes slots n → (longer : List ℕ) × AreFirstFit nodes homes longer (suc n)
    next slots fit =
        let slot = least_there are slots n in
        (slots ++ slot.0 ∷ [], subst (AreFirstFit nodes homes (slots ++ slot.0 ∷ [])) (add-one n) (fit_next slots n slot.0 fit slot.1))

  pub plan_exists : AreHomes nodes homes → (plan : Plan) × IsFirstFitPlan nodes homes plan
  plan_exists are =
      let fit = fit_to are (length nodes.items) in
      (record { slots = fit.0; needed = needed_of fit.0 }, record { slots = fit.1; needed = refl })

  pub tables_counted : (port : ℕ) → (count : ℕ) × UsesTables nodes homes port count
  tables_counted port =
      let found = listed_to (UsesTable nodes homes port) (λ t. table_known nodes homes port t) (length nodes.tables) in (
        length found.0,
        record {
          numbers = found.0;
          lists = listed_all (UsesTable nodes homes port) (length nodes.tables) found.0 found.1 (λ t u. formed.parts u.node (Node t u.feeds) u.is);
          are = refl;
        },
      )
