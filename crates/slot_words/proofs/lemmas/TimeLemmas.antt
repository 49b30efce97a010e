-- The turns of places and words: each kind of step keeps them in pace. No value stands here.
use Rattle.std.proofs.Common.{List, Some, ap, arith, false, get_or-set_other, get_or-set_same, inl, inr, length, refl, set, slice_get, subst, sym, ℕ, ◌*◌, ◌+◌, ◌<◌, ◌∙◌, ◌≡◌, ◌≢◌, ◌≤◌}
use Rattle.std.proofs.lemmas.{Bool.cases_eq, List.drop-set-add, List.drop-set-lt, List.length-drop, Option.slice_get_within}
use Rattle.image_defs.specs.{Places.IsPort, Places.Stands, WellFormed.IsWellFormed, declared.image.Image.Image, declared.image.LinkIn.LinkIn}
use Rattle.image_defs.specs.declared.image.{LinkOut.LinkOut, PortImage.PortImage}
use Rattle.event_defs.proofs.lemmas.PaceLemmas.{CanStand, asks, puts, stands, takes, tells}
use Rattle.event_defs.proofs.lemmas.RowLemmas.{number_within, place_within, send_within, word_set}
use Rattle.event_defs.proofs.lemmas.SlotLemmas.{each_updated, updated_here, updated_there}
use Rattle.event_defs.specs.Places.{IsSend, after_ask, after_put, after_take, after_tell, is_in, known_of, latest, start}
use Rattle.event_defs.specs.Row.{send_count, send_number, word_in, word_place}
use Rattle.event_defs.specs.{Next.EndsNext, Steps.updated, Steps.written, declared.place.Place.Place}
use Rattle.slot_words.specs.Layout.{progress_in, send_word, sent_in, word_count}
use Rattle.slot_words.specs.{declared.rule.TheConstants.UNCLAIMED, Rule.AreInTurn}

module _ (image : Image) (banks : ℕ) (words : List ℕ) where
  -- a progress word written leaves the words of sends, and a word of a send the progress words
  pub progress_set : (p x : ℕ) → p < length image.ports → sent_in image banks (set words p x) ≡ sent_in image banks words
  progress_set p x inside = ap (word_in image banks) (drop-set-lt (length image.ports) words p x inside)

  pub progress_kept : (k x q : ℕ) → q < length image.ports → progress_in (set words (length image.ports + k) x) q ≡ progress_in words q
  progress_kept k x q inside = get_or-set_other words (length image.ports + k) q x 0 (λ e. absurd (omega arith))

  pub sent_set : (p i b x : ℕ) (link : LinkOut) → IsSend image p i link → b < banks → length words ≡ word_count image banks
      → sent_in image banks (set words (send_word image banks p i b) x) ≡ written (sent_in image banks words) p i b x
  sent_set p i b x link send within long =
      let rest = length-drop (length image.ports) words in
      let row : ℕ = send_count image * banks in
      let long' : length words ≡ length image.ports + row = long in
      ap (word_in image banks) (drop-set-add (length image.ports) words (word_place banks (send_number image p i) b) x)
      ∙ word_set image banks _ p i b x (slice_get_within image.ports p send.port send.is) (send_within image p i link send) within (rest ∙ omega arith)

module _ (image : Image) (banks : ℕ) where
  -- a word of a send stands among the words
  pub send_room : (p i b : ℕ) (link : LinkOut) → IsSend image p i link → b < banks → send_word image banks p i b < word_count image banks
  send_room p i b link send within =
      let e = place_within banks (send_number image p i) b (send_count image) (number_within image p i (slice_get_within image.ports p send.port send.is) (send_within image p i link send)) within in
      let at : ℕ = word_place banks (send_number image p i) b in
      let row : ℕ = send_count image * banks in
      let e' : at < row = e in
      omega arith

-- the progress words are some of the words
pub progress_within : (image : Image) (banks n p : ℕ) → n ≡ word_count image banks → p < length image.ports → p < n
progress_within image banks n p many inside =
    let row : ℕ = send_count image * banks in
    let e : n ≡ length image.ports + row = many in
    omega arith

-- ---- places and progress words alone

module _ (image : Image) (fits : IsWellFormed image) (banks until : ℕ) (words : List ℕ) (place : ℕ → Place) (turns : AreInTurn image banks until words place) where
  -- what a claimed progress word says, with the place of a port
  abbrev Counts : List ℕ → ℕ → Place → Type 0
  Counts now q a = q < length image.ports → progress_in now q ≢ UNCLAIMED → progress_in now q + 1 ≡ a.turn

  module _ (p : ℕ) (port : PortImage) (is : IsPort image p port) where
    -- a new place of the same turn, beside words that have the same progress
    still : (now : List ℕ) (x : Place) → ((q : ℕ) → q < length image.ports → progress_in now q ≡ progress_in words q) → x.turn ≡ (place p).turn
        → CanStand image fits banks until place turns.paced p port is x → AreInTurn image banks until now (updated place p x)
    still now x same turn_is can = record {
      progress = λ q within. subst (λ n. n ≢ UNCLAIMED → n + 1 ≡ (updated place p x q).turn) (sym (same q within))
          (each_updated (λ q (a : Place). Counts words q a) place p x (λ low claimed. turns.progress p low claimed ∙ sym turn_is) (λ q _. turns.progress q) q within);
      paced = stands image fits banks until place turns.paced p port is x can;
    }

    pub turns_ask : (r n : ℕ) → r < length image.ports → n + 1 ≤ (place r).turn → AreInTurn image banks until words (updated place p (after_ask (place p) r n))
    turns_ask r n r_in fresh = still words (after_ask (place p) r n) (λ q within. refl) refl (asks image fits banks until place turns.paced p port is r n r_in fresh)

    pub turns_take : (j : ℕ) (link : LinkIn) → slice_get port.ins j ≡ Some link → is_in link.slot (place p).takes ≡ false → (place p).turn ≤ until → (place p).turn ≤ latest (place link.sender) link.slot
        → AreInTurn image banks until words (updated place p (after_take (place p) link.slot))
    turns_take j link at missing early fresh = still words (after_take (place p) link.slot) (λ q within. refl) refl (takes image fits banks until place turns.paced p port is j link at missing early fresh)

    pub turns_put : (i k x : ℕ) (link : LinkOut) → slice_get port.outs i ≡ Some link → is_in link.slot (place p).puts ≡ false → (place p).turn ≤ until
        → ((r : ℕ) → Stands link.readers r → (place p).turn ≤ known_of (place p) r + banks)
        → AreInTurn image banks until (set words (length image.ports + k) x) (updated place p (after_put (place p) link.slot))
    turns_put i k x link at missing early ready = still (set words (length image.ports + k) x) (after_put (place p) link.slot) (progress_kept image banks words k x) refl
        (puts image fits banks until place turns.paced p port is i link at missing early ready)

    -- the progress word has the turn that is over
    pub turns_tell : p < length words → EndsNext port (place p).puts (place p).takes → (place p).turn ≤ until
        → AreInTurn image banks until (set words p (place p).turn) (updated place p (after_tell (place p)))
    turns_tell room next early = record {
      progress = λ q within. elim (cases_eq q p) [
        | inl same ↦ λ _. subst (λ q. progress_in (set words p (place p).turn) q + 1 ≡ (updated place p (after_tell (place p)) q).turn) (sym same)
            (ap (λ n. n + 1) (get_or-set_same words p (place p).turn 0 room) ∙ sym (ap (λ (a : Place). a.turn) (updated_here place p (after_tell (place p)))))
        | inr other ↦
            let kept : progress_in (set words p (place p).turn) q ≡ progress_in words q = get_or-set_other words p q (place p).turn 0 other in
            subst (λ n. n ≢ UNCLAIMED → n + 1 ≡ (updated place p (after_tell (place p)) q).turn) (sym kept)
            (subst (λ (a : Place). progress_in words q ≢ UNCLAIMED → progress_in words q + 1 ≡ a.turn) (sym (updated_there place p q (after_tell (place p)) other)) (turns.progress q within))
      ];
      paced = stands image fits banks until place turns.paced p port is (after_tell (place p)) (tells image fits banks until place turns.paced p port is next early);
    }

  -- a port is claimed
  pub turns_claim : (p : ℕ) → p < length words → place p ≡ start (length image.ports) → AreInTurn image banks until (set words p 0) place
  turns_claim p room fresh = record {
    progress = λ q within. elim (cases_eq q p) [
      | inl same ↦ λ _. subst (λ q. progress_in (set words p 0) q + 1 ≡ (place q).turn) (sym same)
          (ap (λ n. n + 1) (get_or-set_same words p 0 0 room) ∙ sym (ap (λ (a : Place). a.turn) fresh))
      | inr other ↦ subst (λ n. n ≢ UNCLAIMED → n + 1 ≡ (place q).turn) (sym (get_or-set_other words p q 0 0 other)) (turns.progress q within)
    ];
    paced = turns.paced;
  }
