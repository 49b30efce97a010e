-- Ports that send and receive more.
use Rattle.std.proofs.Common.{◌≡◌, ◌≢◌, ◌∙◌, ◌⊎◌, inl, inr, ℕ, ◌+◌, ◌<◌, List, [], ◌∷◌, ◌++◌, length, get_or, set, take, sym, ap, subst, arith}
use Rattle.std.proofs.lemmas.List.{get_or-set_same, get_or-set_other, length-set, take_more}
use Rattle.std.proofs.lemmas.{Bool.cases_eq, List.Kept.AllPairs-from_increasing}
use Rattle.std.proofs.lemmas.List.Elements.{Contains-append_left, Contains-push, Contains-push_cases}
use Rattle.std.specs.List.{Contains, Sorted.IsStrictlyIncreasing}
use Rattle.list_laws.proofs.Places.{place_below}
use Rattle.plan_defs.specs.declared.switch.{Receipt.Receipt, PortLinks.PortLinks}
use Rattle.switch_set.specs.code.Links.{links_at, with_receipt, with_sending, Receives, Links}

-- ---- one port that does more

pub set_same : (ports : List PortLinks) (port : ℕ) (links : PortLinks) → port < length ports → links_at (set ports port links) port ≡ links
set_same ports port links within = get_or-set_same ports port links (record { sends = []; receipts = [] }) within

pub set_other : (ports : List PortLinks) (port other : ℕ) (links : PortLinks) → other ≢ port → links_at (set ports port links) other ≡ links_at ports other
set_other ports port other links differ = get_or-set_other ports port other links (record { sends = []; receipts = [] }) differ

-- ---- receivers

module _ (old ports : List PortLinks) (readers : List ℕ) (receipt : Receipt) (k : ℕ) (low : k < length readers) (once : IsStrictlyIncreasing readers)
    (within : get_or readers k 0 < length ports) (before : Receives old ports (Contains (take k readers)) receipt) where
  -- it is none of the readers before
  fresh : Contains (take k readers) (get_or readers k 0) → ⊥
  fresh h =
      let found = place_below readers k (get_or readers k 0) (omega (arith, low)) h in
      let under : get_or readers found.0 0 < get_or readers k 0 = AllPairs-from_increasing readers once found.0 k 0 found.1 low in
      omega (arith, found.2, under)

  kept : (port : ℕ) → Contains (take k readers) port → Contains (take (k + 1) readers) port
  kept port h = subst (λ xs. Contains xs port) (sym (take_more readers k 0 low)) (Contains-append_left (take k readers) (get_or readers k 0 ∷ []) port h)

  here : Contains (take (k + 1) readers) (get_or readers k 0)
  here = subst (λ xs. Contains xs (get_or readers k 0)) (sym (take_more readers k 0 low)) (Contains-push (take k readers) (get_or readers k 0))

  now : List PortLinks
  now = set ports (get_or readers k 0) (with_receipt (links_at ports (get_or readers k 0)) receipt)

  now_here : links_at now (get_or readers k 0) ≡ with_receipt (links_at ports (get_or readers k 0)) receipt
  unfolding now
  now_here = set_same ports (get_or readers k 0) (with_receipt (links_at ports (get_or readers k 0)) receipt) within

  now_other : (port : ℕ) → port ≢ get_or readers k 0 → links_at now port ≡ links_at ports port
  unfolding now
  now_other port differ = set_other ports (get_or readers k 0) port (with_receipt (links_at ports (get_or readers k 0)) receipt) differ

  sends_now : (port : ℕ) → (links_at now port).sends ≡ (links_at old port).sends
  sends_now port = elim (cases_eq port (get_or readers k 0)) [
    | inl same ↦ subst (λ p. (links_at now p).sends ≡ (links_at old p).sends) (sym same)
        (ap (λ (links : PortLinks). links.sends) now_here ∙ before.sends (get_or readers k 0))
    | inr other ↦ ap (λ (links : PortLinks). links.sends) (now_other port other) ∙ before.sends port
  ]

  here_now : (links_at now (get_or readers k 0)).receipts ≡ (links_at old (get_or readers k 0)).receipts ++ receipt ∷ []
  here_now = ap (λ (links : PortLinks). links.receipts) now_here ∙ ap (λ receipts. receipts ++ receipt ∷ []) (before.same (get_or readers k 0) fresh)

  more_now : (port : ℕ) → Contains (take k readers) port ⊎ (get_or readers k 0 ≡ port) → (links_at now port).receipts ≡ (links_at old port).receipts ++ receipt ∷ []
  more_now port (inl old_one) =
      ap (λ (links : PortLinks). links.receipts) (now_other port (λ same. fresh (subst (Contains (take k readers)) same old_one))) ∙ before.more port old_one
  more_now port (inr same) = subst (λ p. (links_at now p).receipts ≡ (links_at old p).receipts ++ receipt ∷ []) same here_now

  -- one more reader receives
  pub receives_more : Receives old (set ports (get_or readers k 0) (with_receipt (links_at ports (get_or readers k 0)) receipt)) (Contains (take (k + 1) readers)) receipt
  unfolding now
  receives_more = record {
    ports = length-set ports (get_or readers k 0) (with_receipt (links_at ports (get_or readers k 0)) receipt) ∙ before.ports;
    sends = sends_now;
    more = λ port h. more_now port (Contains-push_cases (take k readers) (get_or readers k 0) port (subst (λ xs. Contains xs port) (take_more readers k 0 low) h));
    same = λ port none. ap (λ (links : PortLinks). links.receipts) (now_other port (λ is. none (subst (Contains (take (k + 1) readers)) (sym is) here))) ∙ before.same port (λ h. none (kept port h));
  }

-- ---- one item is sent and received

module _ (old mid new : List PortLinks) (slot home : ℕ) (readers : List ℕ) (low : home < length old)
    (sent : mid ≡ set old home (with_sending (links_at old home) (record { slot = slot; readers = readers })))
    (got : Receives mid new (Contains readers) (record { slot = slot; sender = home })) where
  at_home : links_at mid home ≡ with_sending (links_at old home) (record { slot = slot; readers = readers })
  at_home = ap (λ ports. links_at ports home) sent ∙ set_same old home _ low

  elsewhere : (port : ℕ) → (port ≡ home → ⊥) → links_at mid port ≡ links_at old port
  elsewhere port apart = ap (λ ports. links_at ports port) sent ∙ set_other old home port _ apart

  receipts_stay : (port : ℕ) → (links_at mid port).receipts ≡ (links_at old port).receipts
  receipts_stay port = elim (cases_eq port home) [
    | inl same ↦ subst (λ p. (links_at mid p).receipts ≡ (links_at old p).receipts) (sym same) (ap (λ (links : PortLinks). links.receipts) at_home)
    | inr apart ↦ ap (λ (links : PortLinks). links.receipts) (elsewhere port apart)
  ]

  pub linked : 0 < length readers → Links old new slot home readers
  linked some = record {
    ports = got.ports ∙ ap length sent ∙ length-set old home _;
    sender = λ _. got.sends home ∙ ap (λ (links : PortLinks). links.sends) at_home;
    silent = λ port empty. got.sends port ∙ elim (cases_eq port home) [
      | inl same ↦ absurd (let none = ap length (empty same) in omega (arith, none, some))
      | inr apart ↦ ap (λ (links : PortLinks). links.sends) (elsewhere port apart)
    ];
    receivers = λ port one. got.more port one ∙ ap (λ receipts. receipts ++ record { slot = slot; sender = home } ∷ []) (receipts_stay port);
    others = λ port none. got.same port none ∙ receipts_stay port;
  }
