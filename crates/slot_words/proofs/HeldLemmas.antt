-- A pass with its crossbar.
use Rattle.std.proofs.Common.{Bool, List, None, Option, Some, ap, ap₂, arith, false, get_or, if◌then◌else◌, length, mod-lt, refl, slice_get, subst, sym, true, ℕ, ◌%◌, ◌*◌, ◌+◌, ◌<◌, ◌∙◌, ◌≡◌}
use Rattle.image_defs.specs.{Places.IsPort, declared.image.LinkIn.LinkIn, declared.image.LinkOut.LinkOut, declared.image.PortImage.PortImage}
use Rattle.image_defs.specs.declared.image.Image.{Image}
use Rattle.event_defs.specs.{Places.IsSend, Places.after_take, Row.send_number, declared.place.Place.Place}
use mathlib.Core.Option.{none}
use Rattle.atomic_table.specs.{Table.step, Seated.TableId, declared.shared.Seat.Seat}
use Rattle.slot_words.proofs.{LinkLemmas.receipt_found, LinkLemmas.send_found, lemmas.TimeLemmas.progress_within, lemmas.TimeLemmas.send_room}
use Rattle.slot_words.specs.Held.{HasWords, IsHeld, pass_of, words_of}
use Rattle.slot_words.specs.Passes.{IsNumber, IsOf, PassView, WasSentBefore, WordsView, one_step}
use Rattle.slot_words.specs.code.Plays.{FindsIn, Reads, Seated, after_step}
use Rattle.slot_words.specs.declared.{feed.Feed.Ghosts, pass.Pass.TheInside.Inside, links.Link.Link, rule.View.View}
use Rattle.slot_words.specs.{Layout.send_word, Layout.word_count, Links.AreReceiptLinksOf, Links.AreSendLinksOf, Links.HasSlot, Rule.IsRunnable}
use Rattle.slot_words.specs.declared.words.Words.TheInside as bar

-- what is said of the values holds of the fields
pub own_fields : {D F : Type 0} (b : bar.Inside D F) (a : Inside D F) (bar_is : WordsView D) (pass_is : PassView D) → words_of b ≡ bar_is → pass_of a ≡ pass_is → IsOf bar_is pass_is → IsOf (words_of b) (pass_of a)
own_fields b a bar_is pass_is b_is a_is own = subst (λ x. IsOf x (pass_of a)) (sym b_is) (subst (IsOf bar_is) (sym a_is) own)

module _ {D F : Type 0} (g : Ghosts F D) (b : bar.Inside D F) (a : Inside D F) (has : HasWords g b) (own : IsOf (words_of b) (pass_of a)) where
  -- the words are as many as the pass's image wants
  pub words_are : b.table.shared.table_id.words ≡ word_count a.seat.me.0.image a.seat.me.0.banks
  words_are = subst (λ n. b.table.shared.table_id.words ≡ word_count a.seat.me.0.image n) (sym own.banks) (subst (λ i. b.table.shared.table_id.words ≡ word_count i b.table.shared.key.banks) (sym own.image) has.words)

  pub progress_room : (p : ℕ) → p < length a.seat.me.0.image.ports → p < b.table.shared.table_id.words
  progress_room p inside = progress_within a.seat.me.0.image a.seat.me.0.banks b.table.shared.table_id.words p words_are inside

-- a turn's bank stands behind bank 0
pub bank_word : (image : Image) (banks p i word turn b n : ℕ) → word ≡ send_word image banks p i 0 → n ≡ word + turn % b → (place : Place) → turn ≡ place.turn → b ≡ banks → n ≡ send_word image banks p i (place.turn % banks)
bank_word image banks p i word turn b n word_is n_is place turn_is b_is =
    let row : ℕ = send_number image p i * banks in
    let first : word ≡ length image.ports + (row + 0) = word_is in
    let bank : turn % b ≡ place.turn % banks = ap₂ (λ x y. x % y) turn_is b_is in
    omega arith

-- the pass with another seat and other hints
abbrev pub reseated : {D F : Type 0} → Inside D F → Seat (Unit {0}) (View D) → ℕ → ℕ → Inside D F
reseated a seat send receipt = record a { seat = seat; last_send = send; last_receipt = receipt }

module _ {D F : Type 0} (a : Inside D F) (seat : Seat (Unit {0}) (View D)) (stamp : ℕ) (x : Place) (word number send receipt : ℕ) (view_is : seat.me.0 ≡ after_step a.seat.me.0 stamp x word number) where
  -- one step, as contracts see it
  pub pass_stepped : seat.table_id ≡ a.seat.table_id → pass_of (reseated a seat send receipt) ≡ one_step (pass_of a) x word number
  pass_stepped table_is = ap₂ seen table_is view_is where
    seen : TableId → View D → PassView D
    seen t v = record { table = t; port = a.port; image = v.image; feed = v.feed; banks = v.banks; place = v.place; steps = v.steps; last = v.last }

  -- a step that keeps the turn and what is known keeps what holds of the fields
  pub held_stepped : (g : Ghosts F D) → IsHeld g a → x.turn ≡ a.seat.me.0.place.turn → x.known ≡ a.seat.me.0.place.known → IsHeld g (reseated a seat send receipt)
  held_stepped g held turn_is known_is = record {
    runs = subst (λ (v : View D). IsRunnable g v.image v.feed v.banks) (sym view_is) held.runs;
    inside = subst (λ (v : View D). a.port < length v.image.ports) (sym view_is) held.inside;
    port = ap (λ (v : View D). v.port) view_is ∙ held.port;
    banks = held.banks ∙ sym (ap (λ (v : View D). v.banks) view_is);
    turn = held.turn ∙ (sym turn_is ∙ sym (ap (λ (v : View D). v.place.turn) view_is));
    known = held.known ∙ (sym known_is ∙ sym (ap (λ (v : View D). v.place.known) view_is));
    wide = subst (λ (v : View D). length a.known ≡ length v.image.ports) (sym view_is) held.wide;
    sends = subst (λ (v : View D). AreSendLinksOf v.image v.banks a.port a.sends) (sym view_is) held.sends;
    receipts = subst (λ (v : View D). AreReceiptLinksOf v.image v.banks a.port a.receipts) (sym view_is) held.receipts;
  }

-- the word that a pass reckons, by the link that it found in one of its lists
module _ {D F : Type 0} (g : Ghosts F D) (a : Inside D F) (held : IsHeld g a) (searched read : List Link) (k slot n : ℕ) (has : HasSlot searched slot k) (n_is : n ≡ (get_or read k (record { slot = 0; word = 0 })).word + a.turn % a.banks) where
  pub put_word : searched ≡ a.sends → read ≡ a.sends → (i : ℕ) (link : LinkOut) → IsSend a.seat.me.0.image a.port i link → link.slot ≡ slot
      → n ≡ send_word a.seat.me.0.image a.seat.me.0.banks a.port i (a.seat.me.0.place.turn % a.seat.me.0.banks)
  put_word searched_is read_is i link send slot_is =
      let first = send_found a.seat.me.0.image held.runs.image_fits a.seat.me.0.banks a.port a.sends k slot (record { slot = 0; word = 0 }) (subst (λ l. HasSlot l slot k) searched_is has) held.sends i link send slot_is in
      let word : ℕ = (get_or read k (record { slot = 0; word = 0 })).word in
      let at_first : word ≡ send_word a.seat.me.0.image a.seat.me.0.banks a.port i 0 = ap (λ (l : List Link). (get_or {A = Link} l k (record { slot = 0; word = 0 })).word) read_is ∙ first in
      bank_word a.seat.me.0.image a.seat.me.0.banks a.port i word a.turn a.banks n at_first n_is a.seat.me.0.place held.turn held.banks

  pub take_word : searched ≡ a.receipts → read ≡ a.receipts → (port : PortImage) (j i : ℕ) (link : LinkIn) (sent : LinkOut) → IsPort a.seat.me.0.image a.port port → slice_get port.ins j ≡ Some link → link.slot ≡ slot
      → IsSend a.seat.me.0.image link.sender i sent → sent.slot ≡ slot
      → n ≡ send_word a.seat.me.0.image a.seat.me.0.banks link.sender i (a.seat.me.0.place.turn % a.seat.me.0.banks)
  take_word searched_is read_is port j i link sent is at slot_is send sent_slot =
      let first = receipt_found a.seat.me.0.image held.runs.image_fits a.seat.me.0.banks a.port a.receipts k slot (record { slot = 0; word = 0 }) (subst (λ l. HasSlot l slot k) searched_is has) held.receipts port j i link sent is at slot_is send sent_slot in
      let word : ℕ = (get_or read k (record { slot = 0; word = 0 })).word in
      let at_first : word ≡ send_word a.seat.me.0.image a.seat.me.0.banks link.sender i 0 = ap (λ (l : List Link). (get_or {A = Link} l k (record { slot = 0; word = 0 })).word) read_is ∙ first in
      bank_word a.seat.me.0.image a.seat.me.0.banks link.sender i word a.turn a.banks n at_first n_is a.seat.me.0.place held.turn held.banks

-- what a Take found, for whatever link in and send have the slot
pub take_finds : {D F : Type 0} (g : Ghosts F D) (a : Inside D F) (held : IsHeld g a) (searched read : List Link) (k slot n slots found : ℕ) (new : Seated D) (has : HasSlot searched slot k) (n_is : n ≡ (get_or read k (record { slot = 0; word = 0 })).word + a.turn % a.banks) → searched ≡ a.receipts → read ≡ a.receipts
    → Reads g (step slots n 0 0 none) a.seat.me found new → (port : PortImage) (j i : ℕ) (link : LinkIn) (sent : LinkOut) → IsPort a.seat.me.0.image a.port port → slice_get port.ins j ≡ Some link → link.slot ≡ slot
    → IsSend a.seat.me.0.image link.sender i sent → sent.slot ≡ slot
    → (n ≡ send_word a.seat.me.0.image a.seat.me.0.banks link.sender i (a.seat.me.0.place.turn % a.seat.me.0.banks)) × FindsIn g a.seat.me.0 link.sender slot n found new.0
take_finds g a held searched read k slot n slots found new has n_is searched_is read_is reads port j i link sent is at slot_is send sent_slot =
    let word = take_word g a held searched read k slot n has n_is searched_is read_is port j i link sent is at slot_is send sent_slot in
    (word, subst (λ s. FindsIn g a.seat.me.0 link.sender s n found new.0) sent_slot (reads.each link.sender i sent (record { send = send; is = word })))

-- a word of a send is one of the crossbar's
pub word_room : {D F : Type 0} (g : Ghosts F D) (b : bar.Inside D F) (a : Inside D F) → HasWords g b → IsOf (words_of b) (pass_of a) → IsHeld g a → (q i : ℕ) (link : LinkOut) → IsSend a.seat.me.0.image q i link
    → (word : ℕ) → word ≡ send_word a.seat.me.0.image a.seat.me.0.banks q i (a.seat.me.0.place.turn % a.seat.me.0.banks) → word < b.table.shared.table_id.words
word_room g b a has own held q i link send word word_is =
    let bank = mod-lt a.seat.me.0.place.turn held.runs.some in
    subst (λ n. n < b.table.shared.table_id.words) (sym word_is)
    (subst (λ n. send_word a.seat.me.0.image a.seat.me.0.banks q i (a.seat.me.0.place.turn % a.seat.me.0.banks) < n) (sym (words_are g b a has own)) (send_room a.seat.me.0.image a.seat.me.0.banks q i _ link send bank))

-- ---- what a Take found

module _ {D F : Type 0} (g : Ghosts F D) (a : Inside D F) (held : IsHeld g a) (seat : Seat (Unit {0}) (View D)) (sender slot word number send receipt : ℕ) (finds : FindsIn g a.seat.me.0 sender slot word number seat.me.0) where
  held_if : (now : Bool) → g.of_turn number a.seat.me.0.place.turn ≡ now → IsHeld g (reseated a seat send receipt)
  held_if true now = held_stepped a seat finds.at (after_take a.seat.me.0.place slot) word number send receipt (finds.takes now).0 g held refl refl
  held_if false older = held_stepped a seat finds.at a.seat.me.0.place word number send receipt (finds.waits older).0 g held refl refl

  pub held_found : IsHeld g (reseated a seat send receipt)
  held_found = held_if (g.of_turn number a.seat.me.0.place.turn) refl

  -- as contracts see it
  module _ (at : ℕ) (word_is : word ≡ at) (table_is : seat.table_id ≡ a.seat.table_id) where
    seen_as : (x : Place) → seat.me.0 ≡ after_step a.seat.me.0 finds.at x word number → (seat.me.0.last.number ≡ number) × (pass_of (reseated a seat send receipt) ≡ one_step (pass_of a) x at seat.me.0.last.number)
    seen_as x view_is =
        let last : seat.me.0.last.number ≡ number = ap (λ (v : View D). v.last.number) view_is in
        (last, pass_stepped a seat finds.at x word number send receipt view_is table_is ∙ ap₂ (λ w n. one_step (pass_of a) x w n) word_is (sym last))

    gives_if : (now : Bool) → g.of_turn number a.turn ≡ now → IsNumber g (pass_of a) sender slot at seat.me.0.last.number (if now then Some number else None) (pass_of (reseated a seat send receipt))
    gives_if true tells =
        let now : g.of_turn number a.seat.me.0.place.turn ≡ true = ap (g.of_turn number) (sym held.turn) ∙ tells in
        let took = finds.takes now in
        let seen = seen_as (after_take a.seat.me.0.place slot) took.0 in (
          sym seen.0,
          ap (λ n. g.of_turn n a.seat.me.0.place.turn) seen.0 ∙ now,
          subst (g.sent a.seat.me.0.image a.seat.me.0.feed sender slot a.seat.me.0.place.turn) (sym seen.0) took.1,
          seen.1,
        )
    gives_if false tells =
        let older : g.of_turn number a.seat.me.0.place.turn ≡ false = ap (g.of_turn number) (sym held.turn) ∙ tells in
        let waits = finds.waits older in
        let seen = seen_as a.seat.me.0.place waits.0 in (
          ap (λ n. g.of_turn n a.seat.me.0.place.turn) seen.0 ∙ older,
          subst (WasSentBefore g a.seat.me.0.image a.seat.me.0.feed sender slot a.seat.me.0.place.turn) (sym seen.0) waits.1,
          seen.1,
        )

    pub gives : (now : Bool) (taken : Option ℕ) → now ≡ g.of_turn number a.turn → taken ≡ (if now then Some number else None) → IsNumber g (pass_of a) sender slot at seat.me.0.last.number taken (pass_of (reseated a seat send receipt))
    gives now taken now_is taken_is = subst (λ t. IsNumber g (pass_of a) sender slot at seat.me.0.last.number t (pass_of (reseated a seat send receipt))) (sym taken_is) (gives_if now (sym now_is))
