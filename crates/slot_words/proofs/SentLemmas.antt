-- What each step makes of the words of sends, and what a reader finds in one.
use Rattle.std.proofs.Common.{ap, arith, false, inl, inr, length, refl, subst, sym, true, ℕ, ◌%◌, ◌+◌, ◌-◌, ◌∙◌, ◌≡◌, ◌≤◌, ◌⊎◌}
use Rattle.std.proofs.{Math.Nat.add-mod_right, lemmas.Bool.cases_eq, lemmas.Bool.cases_lt}
use Rattle.image_defs.specs.{WellFormed.IsWellFormed, declared.image.Image.Image, declared.image.LinkOut.LinkOut}
use Rattle.event_defs.proofs.lemmas.PaceLemmas.{latest_here, latest_missing, latest_there, one_send, same_send}
use Rattle.event_defs.proofs.lemmas.SlotLemmas.{each_updated, updated_here, updated_there}
use Rattle.event_defs.proofs.lemmas.{StampLemmas.written_here, StampLemmas.written_there, WordLemmas.other_bank}
use Rattle.event_defs.specs.Places.{IsSend, after_put, is_in, latest, start}
use Rattle.event_defs.specs.{Steps.updated, Steps.written, declared.place.Place.Place}
use Rattle.slot_words.specs.{Feeds.TellsTurns, Passes.WasSentBefore, Rule.AreBanked, Rule.AreSent, declared.feed.Feed.Ghosts}

module _ {F D : Type 0} (g : Ghosts F D) (image : Image) (feed : D) (banks : ℕ) where
  -- a put of the next turn
  put_banked : (p slot j : ℕ) (word : ℕ → ℕ) (x : ℕ) → g.sent image feed p slot (j + 1) x → AreBanked g image feed banks p slot j word → AreBanked g image feed banks p slot (j + 1) (updated word ((j + 1) % banks) x)
  put_banked p slot j word x put are = record {
    written = λ k first upto near. elim (cases_eq k (j + 1)) [
      | inl same ↦ subst (λ k. g.sent image feed p slot k (updated word ((j + 1) % banks) x (k % banks))) (sym same)
          (subst (g.sent image feed p slot (j + 1)) (sym (updated_here word ((j + 1) % banks) x)) put)
      | inr other ↦ subst (g.sent image feed p slot k) (sym (updated_there word ((j + 1) % banks) (k % banks) x (other_bank banks k (j + 1) (omega arith) (omega arith)))) (are.written k first (omega arith) (omega arith))
    ];
    fresh = λ k later few. updated_there word ((j + 1) % banks) (k % banks) x (λ e. other_bank banks (j + 1) k later (omega arith) (sym e)) ∙ are.fresh k (omega arith) few;
  }

  -- a port has another place, with the same latest turn of each of its slots
  pub sent_still : (place : ℕ → Place) (word : ℕ → ℕ → ℕ → ℕ) (p : ℕ) (x : Place) → AreSent g image feed banks place word
      → ((i : ℕ) (link : LinkOut) → IsSend image p i link → latest x link.slot ≡ latest (place p) link.slot) → AreSent g image feed banks (updated place p x) word
  sent_still place word p x sent same = record {
    each = λ q i link send. each_updated (λ q (a : Place). IsSend image q i link → AreBanked g image feed banks q link.slot (latest a link.slot) (word q i)) place p x
        (λ s. subst (λ j. AreBanked g image feed banks p link.slot j (word p i)) (sym (same i link s)) (sent.each p i link s))
        (λ q _ s. sent.each q i link s) q send;
  }

  -- a port puts in this turn's bank
  pub sent_put : IsWellFormed image → (place : ℕ → Place) (word : ℕ → ℕ → ℕ → ℕ) (p i x : ℕ) (link : LinkOut) → AreSent g image feed banks place word
      → IsSend image p i link → 1 ≤ (place p).turn → is_in link.slot (place p).puts ≡ false → g.sent image feed p link.slot (place p).turn x
      → AreSent g image feed banks (updated place p (after_put (place p) link.slot)) (written word p i ((place p).turn % banks) x)
  sent_put fits place word p i x link sent mine begun missing put = record {
    each = λ q j other send. elim (cases_eq q p) [
      | inl same ↦ subst (λ q. AreBanked g image feed banks q other.slot (latest (updated place p now q) other.slot) (written word p i bank x q j)) (sym same)
          (subst (λ (a : Place). AreBanked g image feed banks p other.slot (latest a other.slot) (written word p i bank x p j)) (sym (updated_here place p now)) (at_here j other (subst (λ q. IsSend image q j other) same send)))
      | inr away ↦ subst (λ (a : Place). AreBanked g image feed banks q other.slot (latest a other.slot) (written word p i bank x q j)) (sym (updated_there place p q now away))
          (subst (AreBanked g image feed banks q other.slot (latest (place q) other.slot)) (sym (written_there word p i bank x q j (λ e. away e.0))) (sent.each q j other send))
    ];
  } where
    now : Place
    now = after_put (place p) link.slot

    bank : ℕ
    bank = (place p).turn % banks

    before : (place p).turn - 1 + 1 ≡ (place p).turn
    before = omega arith

    was : AreBanked g image feed banks p link.slot ((place p).turn - 1) (word p i)
    was = subst (λ j. AreBanked g image feed banks p link.slot j (word p i)) (latest_missing (place p) link.slot missing) (sent.each p i link mine)

    words_now : AreBanked g image feed banks p link.slot (place p).turn (updated (word p i) ((place p).turn % banks) x)
    words_now = subst (λ k. AreBanked g image feed banks p link.slot k (updated (word p i) (k % banks) x)) before
        (put_banked p link.slot ((place p).turn - 1) (word p i) x (subst (λ k. g.sent image feed p link.slot k x) (sym before) put) was)

    at_here : (j : ℕ) (other : LinkOut) → IsSend image p j other → AreBanked g image feed banks p other.slot (latest (after_put (place p) link.slot) other.slot) (written word p i ((place p).turn % banks) x p j)
    at_here j other send = elim (cases_eq other.slot link.slot) [
      | inl same ↦
          let found = same_send image fits p j i other link send mine same in
          subst (λ s. AreBanked g image feed banks p s (latest (after_put (place p) link.slot) s) (written word p i ((place p).turn % banks) x p j)) (sym same)
          (subst (λ k. AreBanked g image feed banks p link.slot k (written word p i ((place p).turn % banks) x p j)) (sym (latest_here (place p) link.slot))
          (subst (λ k. AreBanked g image feed banks p link.slot (place p).turn (written word p i ((place p).turn % banks) x p k)) (sym found.0)
          (subst (AreBanked g image feed banks p link.slot (place p).turn) (sym (written_here word p i ((place p).turn % banks) x)) words_now)))
      | inr differs ↦
          subst (λ k. AreBanked g image feed banks p other.slot k (written word p i ((place p).turn % banks) x p j)) (sym (latest_there (place p) link.slot other.slot differs))
          (subst (AreBanked g image feed banks p other.slot (latest (place p) other.slot)) (sym (written_there word p i ((place p).turn % banks) x p j (λ e. differs (ap (λ (l : LinkOut). l.slot) (one_send image p j i other link send mine e.1))))) (sent.each p j other send))
    ]

  pub starts_sent : AreSent g image feed banks (λ p. start (length image.ports)) (λ p i b. 0)
  starts_sent = record { each = λ p i link send. record { written = λ k first upto near. absurd (omega arith); fresh = λ k later few. refl } }

  -- what a reader finds at a turn that the send may be put at next, or was put at within the last turns: the number
  -- of this turn, where it was put, and else one of a turn before
  pub found_sent : TellsTurns g.sent g.of_turn g.most_banks → banks ≤ g.most_banks → 1 ≤ banks → (p slot j k : ℕ) (word : ℕ → ℕ) → 1 ≤ k → k ≤ j + 1 → j + 1 ≤ k + banks → AreBanked g image feed banks p slot j word
      → ((k ≤ j) × (g.of_turn (word (k % banks)) k ≡ true) × g.sent image feed p slot k (word (k % banks)))
      ⊎ ((g.of_turn (word (k % banks)) k ≡ false) × WasSentBefore g image feed p slot k (word (k % banks)))
  found_sent tells few some p slot j k word first behind ahead are = elim (cases_lt j k) [
    | inr there ↦ let has = are.written k first there (omega arith) in inl (there, tells.own image feed p slot k (word (k % banks)) has, has)
    | inl less ↦ elim (cases_lt banks k) [
      | inr early ↦
          let none = are.fresh k less early in
          inr (
            subst (λ n. g.of_turn n k ≡ false) (sym none) (tells.fresh k first (omega arith)),
            record { before = 0; less = omega arith; sent = record { fresh = λ _. none; put = λ wrong. absurd (omega arith) } },
          )
      | inl many ↦
          let back : k - banks + banks ≡ k = omega arith in
          let bank : k % banks ≡ (k - banks) % banks = ap (λ n. n % banks) (sym back) ∙ add-mod_right (k - banks) banks in
          let has = subst (λ b. g.sent image feed p slot (k - banks) (word b)) (sym bank) (are.written (k - banks) (omega arith) (omega arith) (omega arith)) in
          inr (
            tells.apart image feed p slot (k - banks) k (word (k % banks)) (omega arith) (omega arith) has,
            record { before = k - banks; less = omega arith; sent = record { fresh = λ wrong. absurd (omega arith); put = λ _. has } },
          )
    ]
  ]
