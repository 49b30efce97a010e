-- Each of the six kinds of step keeps the rule.
use Rattle.std.proofs.Common.{List, None, Some, [], ap, arith, drop, false, get_or, get_or-set_other, get_or-set_same, inl, inr, length, length-set, mod-lt, refl, set, slice_get, subst, sym, true, ℕ, ◌%◌, ◌++◌, ◌+◌, ◌-◌, ◌<◌, ◌∙◌, ◌∷◌, ◌≡◌, ◌≢◌, ◌⊎◌, ◌≤◌}
use Rattle.std.proofs.lemmas.{Bool.cases_eq, List.get_or-drop}
use mathlib.Core.Option.{some}
use lib.ListN.{get_elem?}
use Rattle.atomic_table.proofs.Lists.{set_again}
use Rattle.list_laws.proofs.Members.{member_at}
use Rattle.image_defs.specs.{Places.IsPort, Places.Stands, WellFormed.IsWellFormed, declared.image.Image.Image, declared.image.LinkIn.LinkIn}
use Rattle.image_defs.specs.declared.image.{LinkOut.LinkOut, PortImage.PortImage}
use Rattle.event_defs.proofs.lemmas.PaceLemmas.{latest_put, one_send, same_send, send_at, source}
use Rattle.event_defs.proofs.lemmas.RowLemmas.{same_number, same_place, send_within, word_at}
use Rattle.event_defs.proofs.lemmas.SlotLemmas.{updated_same}
use Rattle.event_defs.specs.Places.{IsSend, after_ask, after_put, after_take, after_tell, is_in, known_of, latest}
use Rattle.event_defs.specs.{Next.EndsNext, Row.send_number, Row.word_place, Sound.ArePaced, Steps.updated, declared.place.Place.Place}
use Rattle.slot_words.proofs.LookLemmas.{looks_claimed, looks_split, looks_stepped, told_progress, told_sent}
use Rattle.slot_words.proofs.OwnLemmas.{SameClaims, owned_claimed, owned_split, owned_stepped}
use Rattle.slot_words.proofs.lemmas.TimeLemmas.{progress_kept, progress_set, send_room, sent_set, turns_ask, turns_claim, turns_put, turns_take, turns_tell}
use Rattle.slot_words.proofs.{SentLemmas.found_sent, SentLemmas.sent_put, SentLemmas.sent_still, lemmas.SoundLemmas.counts, lemmas.SoundLemmas.told_some}
use Rattle.slot_words.specs.Layout.{progress_in, send_word, sent_in, told_in, turns_told}
use Rattle.slot_words.specs.Rule.{AreInTurn, AreOwned, AreSent, IsKept, IsPassOf, steps_in}
use Rattle.slot_words.specs.{Feeds.AreFew, Feeds.TellsTurns, Passes.WasSentBefore, code.Plays.after_step, code.Plays.claimed_by, declared.feed.Feed.Ghosts}
use Rattle.slot_words.specs.declared.rule.{Key.Key, TheConstants.UNCLAIMED, View.View}

module _ (image : Image) (banks : ℕ) where
  pub sent_read : (words : List ℕ) (p i b : ℕ) (link : LinkOut) → IsSend image p i link → b < banks → get_or words (send_word image banks p i b) 0 ≡ sent_in image banks words p i b
  sent_read words p i b link send within = sym (word_at image banks (drop (length image.ports) words) p i b (send_within image p i link send) within ∙ get_or-drop (length image.ports) words (word_place banks (send_number image p i) b) 0)

  -- no two sends have one word, and no two banks of one send
  pub same_places : (p i q k b c : ℕ) (link other : LinkOut) → IsSend image p i link → IsSend image q k other → b < banks → c < banks → send_word image banks p i b ≡ send_word image banks q k c → (p ≡ q) × (i ≡ k) × (b ≡ c)
  same_places p i q k b c link other one two b_in c_in same =
      let places : word_place banks (send_number image p i) b ≡ word_place banks (send_number image q k) c = let m : ℕ = word_place banks (send_number image p i) b in let n : ℕ = word_place banks (send_number image q k) c in let e : length image.ports + m ≡ length image.ports + n = same in omega arith in
      let numbers = same_place banks (send_number image p i) b (send_number image q k) c b_in c_in places in
      let pair = same_number image p i q k (send_within image p i link one) (send_within image q k other two) numbers.0 in
      (pair.0, pair.1, numbers.1)

  pub same_word : (p i q k b c : ℕ) (link other : LinkOut) → IsSend image p i link → IsSend image q k other → b < banks → c < banks → send_word image banks p i b ≡ send_word image banks q k c → (p ≡ q) × (link ≡ other)
  same_word p i q k b c link other one two b_in c_in same =
      let pair = same_places p i q k b c link other one two b_in c_in same in
      (pair.0, one_send image p i k link other one (subst (λ x. IsSend image x k other) (sym pair.0) two) pair.1)

-- ---- what a pass knows and reads

-- what a pass knows of a reader is no more than the reader told
pub knows_told : {D : Type 0} (image : Image) (feed : D) (banks until : ℕ) (words : List ℕ) (views : List (View D)) (place : ℕ → Place) (owner : ℕ → ℕ) → AreOwned image feed banks words views place owner → AreInTurn image banks until words place
    → (id p : ℕ) (v : View D) → get_elem? views id ≡ some v → v.port ≡ Some p → (r : ℕ) → r < length image.ports → known_of v.place r ≤ turns_told (progress_in words r)
knows_told image feed banks until words views place owner owned turns id p v at port_is r r_in =
    let mine = owned.mine id p v at port_is in
    let sees = counts image feed banks until words views place owner owned turns r r_in in
    let knows : known_of v.place r + 1 ≤ (place r).turn = subst (λ (a : Place). known_of a r + 1 ≤ (place r).turn) (sym mine.place_is) (turns.paced.known p r mine.inside r_in) in
    omega arith

-- a port and the sender of what it receives are in pace
pub near_sender : (image : Image) → IsWellFormed image → (banks until : ℕ) (place : ℕ → Place) → ArePaced image banks until place → (p : ℕ) (port : PortImage) → IsPort image p port
    → (j : ℕ) (link : LinkIn) (i : ℕ) (sent : LinkOut) → slice_get port.ins j ≡ Some link → IsSend image link.sender i sent → sent.slot ≡ link.slot
    → ((place p).turn ≤ latest (place link.sender) sent.slot + 1) × (latest (place link.sender) sent.slot + 1 ≤ (place p).turn + banks)
near_sender image fits banks until place paced p port is j link i sent at_link send same_slot =
    let from = source image fits p port j link is at_link in
    let twin = same_send image fits link.sender i from.0 sent from.1 send from.2 (same_slot ∙ sym from.3) in
    let reads : Stands sent.readers p = subst (λ (l : LinkOut). Stands l.readers p) (sym twin.1) from.4 in
    let k = paced.pace link.sender i p sent send reads in
    (k.behind, k.ahead)

-- a progress word that gets the turn of its port is claimed as before
pub told_claims : (image : Image) (words : List ℕ) (p turn : ℕ) → p < length words → turn ≢ UNCLAIMED → progress_in words p ≢ UNCLAIMED → SameClaims image words (set words p turn)
told_claims image words p turn room few claimed q q_in = elim (cases_eq q p) [
  | inl same ↦ (
    (λ e. absurd (few (sym (get_or-set_same words p turn 0 room) ∙ subst (λ q. progress_in (set words p turn) q ≡ UNCLAIMED) same e))),
    (λ e. absurd (claimed (subst (λ q. progress_in words q ≡ UNCLAIMED) same e))),
  )
  | inr other ↦ let e = get_or-set_other words p q turn 0 other in ((λ free. sym e ∙ free), (λ free. e ∙ free))
]

-- ---- the rule by the image, feed and banks of a view

module _ {F D : Type 0} (g : Ghosts F D) (key : Key D) (words : List ℕ) (views : List (View D)) (id : ℕ) (v : View D) (kept : IsKept g key.image.value key.feed.value key.banks words views) (at : get_elem? views id ≡ some v) where
  same : (v.image ≡ key.image.value) × (v.feed ≡ key.feed.value) × (v.banks ≡ key.banks)
  same = kept.owned.same id v at

  pub kept_here : IsKept g v.image v.feed v.banks words views
  kept_here = subst (λ i. IsKept g i v.feed v.banks words views) (sym same.0) (subst (λ m. IsKept g key.image.value m v.banks words views) (sym same.1) (subst (λ b. IsKept g key.image.value key.feed.value b words views) (sym same.2) kept))

  pub kept_there : (now : List ℕ) (others : List (View D)) → IsKept g v.image v.feed v.banks now others → IsKept g key.image.value key.feed.value key.banks now others
  kept_there now others new = subst (λ b. IsKept g key.image.value key.feed.value b now others) same.2 (subst (λ m. IsKept g key.image.value m v.banks now others) same.1 (subst (λ i. IsKept g i v.feed v.banks now others) same.0 new))

-- ---- what a step makes of the rule

module _ {F D : Type 0} (g : Ghosts F D) (words : List ℕ) (views : List (View D)) (id p : ℕ) (v : View D) (kept : IsKept g v.image v.feed v.banks words views) (at : get_elem? views id ≡ some v) (port_is : v.port ≡ Some p) where
  abbrev image : Image
  image = v.image

  abbrev until : ℕ
  until = g.turns v.image v.feed

  abbrev turn : ℕ
  turn = v.place.turn

  mine : IsPassOf image words kept.place kept.owner id p v
  mine = kept.owned.mine id p v at port_is

  port_there : (port : PortImage) × IsPort image p port
  port_there = member_at image.ports p mine.inside

  begun : 1 ≤ turn
  begun = subst (λ (a : Place). 1 ≤ a.turn) (sym mine.place_is) (kept.timed.paced.places p port_there.0 port_there.1).begun

  -- the pass after one more step
  abbrev pub stepped_view : Place → ℕ → ℕ → View D
  stepped_view x word number = after_step v (steps_in views + 1) x word number

  -- a step of the port keeps the rule where it keeps turns, claims and words of sends
  step_kept : (now : List ℕ) (x : Place) (word number : ℕ) → length now ≡ length words → SameClaims image words now
      → AreInTurn image v.banks until now (updated kept.place p x) → AreSent g image v.feed v.banks (updated kept.place p x) (sent_in image v.banks now) → told_in image now word ≡ number
      → IsKept g image v.feed v.banks now (set views id (stepped_view x word number))
  step_kept now x word number long claims timed sent told = record {
    place = updated kept.place p x;
    owner = kept.owner;
    runs = kept.runs;
    long = long ∙ kept.long;
    owned = owned_stepped image v.feed v.banks words views kept.place kept.owner kept.owned now id p v (steps_in views + 1) x word number at port_is claims;
    timed = timed;
    sent = sent;
    looks = looks_stepped image words now views id v x word number kept.looks at p port_is told;
  }

  -- the same words
  same_words : (x : Place) (word number : ℕ) → told_in image words word ≡ number → AreInTurn image v.banks until words (updated kept.place p x)
      → ((i : ℕ) (link : LinkOut) → IsSend image p i link → latest x link.slot ≡ latest (kept.place p) link.slot) → IsKept g image v.feed v.banks words (set views id (stepped_view x word number))
  same_words x word number told timed same_latest = step_kept words x word number refl (λ q _. ((λ e. e), (λ e. e))) timed
      (sent_still g image v.feed v.banks kept.place (sent_in image v.banks words) p x kept.sent same_latest) told

  -- Ask
  pub told_more : (r : ℕ) → r < length image.ports → known_of v.place r ≤ turns_told (progress_in words r)
  told_more = knows_told image v.feed v.banks until words views kept.place kept.owner kept.owned kept.timed id p v at port_is

  pub ask_kept : (r : ℕ) → r < length image.ports
      → IsKept g image v.feed v.banks words (set views id (stepped_view (after_ask v.place r (turns_told (progress_in words r))) r (turns_told (progress_in words r))))
  ask_kept r r_in =
      let x : ℕ = turns_told (progress_in words r) in
      let sees = counts image v.feed v.banks until words views kept.place kept.owner kept.owned kept.timed r r_in in
      same_words (after_ask v.place r x) r x (told_progress image words r r_in)
      (subst (λ (a : Place). AreInTurn image v.banks until words (updated kept.place p (after_ask a r x))) (sym mine.place_is)
      (turns_ask image kept.runs.image_fits v.banks until words kept.place kept.timed p port_there.0 port_there.1 r x r_in (omega arith)))
      (λ i link send. ap (λ (a : Place). latest a link.slot) mine.place_is)

  -- Put
  pub put_kept : (i x : ℕ) (link : LinkOut) → IsSend image p i link → is_in link.slot v.place.puts ≡ false → turn ≤ until
      → ((r : ℕ) → Stands link.readers r → turn ≤ known_of v.place r + v.banks) → g.sent image v.feed p link.slot turn x
      → IsKept g image v.feed v.banks (set words (send_word image v.banks p i (turn % v.banks)) x) (set views id (stepped_view (after_put v.place link.slot) (send_word image v.banks p i (turn % v.banks)) x))
  put_kept i x link send missing early ready put =
      step_kept (set words (send_word image v.banks p i (turn % v.banks)) x) (after_put v.place link.slot) (send_word image v.banks p i (turn % v.banks)) x
      (length-set words (send_word image v.banks p i (turn % v.banks)) x) claims timed sent
      (told_sent image v.banks (set words (send_word image v.banks p i (turn % v.banks)) x) p i (turn % v.banks) ∙ get_or-set_same words (send_word image v.banks p i (turn % v.banks)) x 0 room) where
        bank_in : turn % v.banks < v.banks
        bank_in = mod-lt turn kept.runs.some

        claims : SameClaims image words (set words (send_word image v.banks p i (turn % v.banks)) x)
        claims q q_in = let e = progress_kept image v.banks words (word_place v.banks (send_number image p i) (turn % v.banks)) x q q_in in ((λ free. sym e ∙ free), (λ free. e ∙ free))

        room : send_word image v.banks p i (turn % v.banks) < length words
        room = subst (λ n. send_word image v.banks p i (turn % v.banks) < n) (sym kept.long) (send_room image v.banks p i (turn % v.banks) link send bank_in)

        Stays : Place → Type 0
        Stays a = is_in link.slot a.puts ≡ false → a.turn ≤ until → ((r : ℕ) → Stands link.readers r → a.turn ≤ known_of a r + v.banks)
            → AreInTurn image v.banks until (set words (send_word image v.banks p i (turn % v.banks)) x) (updated kept.place p (after_put a link.slot))

        timed : AreInTurn image v.banks until (set words (send_word image v.banks p i (turn % v.banks)) x) (updated kept.place p (after_put v.place link.slot))
        timed = subst Stays (sym mine.place_is)
            (turns_put image kept.runs.image_fits v.banks until words kept.place kept.timed p port_there.0 port_there.1 i (word_place v.banks (send_number image p i) (turn % v.banks)) x link (send_at image p i link port_there.0 send port_there.1))
            missing early ready

        Sends : Place → Type 0
        Sends a = 1 ≤ a.turn → is_in link.slot a.puts ≡ false → g.sent image v.feed p link.slot a.turn x
            → AreSent g image v.feed v.banks (updated kept.place p (after_put a link.slot)) (sent_in image v.banks (set words (send_word image v.banks p i (a.turn % v.banks)) x))

        put_at : (a : Place) → a ≡ kept.place p → Sends a
        put_at a is = subst Sends (sym is) (λ first missing own. subst (AreSent g image v.feed v.banks (updated kept.place p (after_put (kept.place p) link.slot)))
            (sym (sent_set image v.banks words p i ((kept.place p).turn % v.banks) x link send (mod-lt (kept.place p).turn kept.runs.some) kept.long))
            (sent_put g image v.feed v.banks kept.runs.image_fits kept.place (sent_in image v.banks words) p i x link kept.sent send first missing own))

        sent : AreSent g image v.feed v.banks (updated kept.place p (after_put v.place link.slot)) (sent_in image v.banks (set words (send_word image v.banks p i (turn % v.banks)) x))
        sent = put_at v.place mine.place_is begun missing put

  -- Take
  module _ (port : PortImage) (is : IsPort image p port) (j : ℕ) (link : LinkIn) (i : ℕ) (sent : LinkOut) (at_link : slice_get port.ins j ≡ Some link) (send : IsSend image link.sender i sent) (same_slot : sent.slot ≡ link.slot) where
    abbrev bank_word : ℕ
    bank_word = send_word image v.banks link.sender i (turn % v.banks)

    abbrev found : ℕ
    found = get_or words bank_word 0

    abbrev put_in : ℕ → ℕ
    put_in slot = latest (kept.place link.sender) slot

    -- the sender is in pace
    near : (turn ≤ put_in sent.slot + 1) × (put_in sent.slot + 1 ≤ turn + v.banks)
    near = subst (λ (a : Place). (a.turn ≤ put_in sent.slot + 1) × (put_in sent.slot + 1 ≤ a.turn + v.banks)) (sym mine.place_is)
        (near_sender image kept.runs.image_fits v.banks until kept.place kept.timed.paced p port is j link i sent at_link send same_slot)

    -- the word is of this turn, which the sender has put, or of one before
    abbrev Finds : ℕ → ℕ → Type 0
    Finds slot n = ((turn ≤ put_in slot) × (g.of_turn n turn ≡ true) × g.sent image v.feed link.sender slot turn n)
        ⊎ ((g.of_turn n turn ≡ false) × WasSentBefore g image v.feed link.sender slot turn n)

    pub take_finds : TellsTurns g.sent g.of_turn g.most_banks → Finds link.slot found
    take_finds tells = subst (λ s. Finds s found) same_slot (subst (Finds sent.slot) (sym (sent_read image v.banks words link.sender i (turn % v.banks) sent send (mod-lt turn kept.runs.some)))
        (found_sent g image v.feed v.banks tells kept.runs.few kept.runs.some link.sender sent.slot (put_in sent.slot) turn (sent_in image v.banks words link.sender i) begun near.0 near.1 (kept.sent.each link.sender i sent send)))

    pub take_kept : is_in link.slot v.place.takes ≡ false → turn ≤ until → turn ≤ put_in link.slot
        → IsKept g image v.feed v.banks words (set views id (stepped_view (after_take v.place link.slot) bank_word found))
    take_kept missing early put = same_words (after_take v.place link.slot) bank_word found (told_sent image v.banks words link.sender i (turn % v.banks))
        (subst Stays (sym mine.place_is) (turns_take image kept.runs.image_fits v.banks until words kept.place kept.timed p port is j link at_link) missing early put)
        (λ k other s. ap (λ (a : Place). latest a other.slot) mine.place_is) where
          Stays : Place → Type 0
          Stays a = is_in link.slot a.takes ≡ false → a.turn ≤ until → a.turn ≤ put_in link.slot → AreInTurn image v.banks until words (updated kept.place p (after_take a link.slot))

    pub wait_kept : IsKept g image v.feed v.banks words (set views id (stepped_view v.place bank_word found))
    wait_kept = same_words v.place bank_word found (told_sent image v.banks words link.sender i (turn % v.banks))
        (subst (λ (a : Place). AreInTurn image v.banks until words (updated kept.place p a)) (sym mine.place_is) (subst (AreInTurn image v.banks until words) (sym (updated_same kept.place p)) kept.timed))
        (λ k other s. ap (λ (a : Place). latest a other.slot) mine.place_is)

  -- Tell
  pub tell_kept : AreFew g.runs g.turns g.most_banks → ((port : PortImage) → IsPort image p port → EndsNext port v.place.puts v.place.takes) → turn ≤ until
      → IsKept g image v.feed v.banks (set words p turn) (set views id (stepped_view (after_tell v.place) p turn))
  tell_kept few next early =
      step_kept (set words p turn) (after_tell v.place) p turn (length-set words p turn) (told_claims image words p turn room small mine.claimed)
      (subst Stays (sym mine.place_is) (turns_tell image kept.runs.image_fits v.banks until words kept.place kept.timed p port_there.0 port_there.1 room) (next port_there.0 port_there.1) early)
      (subst (AreSent g image v.feed v.banks (updated kept.place p (after_tell v.place))) (sym (progress_set image v.banks words p turn mine.inside))
      (sent_still g image v.feed v.banks kept.place (sent_in image v.banks words) p (after_tell v.place) kept.sent same_latest))
      (told_progress image (set words p turn) p mine.inside ∙ (ap turns_told (get_or-set_same words p turn 0 room) ∙ told_some turn small)) where
        Stays : Place → Type 0
        Stays a = EndsNext port_there.0 a.puts a.takes → a.turn ≤ until → AreInTurn image v.banks until (set words p a.turn) (updated kept.place p (after_tell a))

        room : p < length words
        room = let long = kept.long in let inside = mine.inside in omega arith

        small : turn ≢ UNCLAIMED
        small e = let short = few.short image v.feed kept.runs.image_fits kept.runs.feed_fits in absurd (omega arith)

        same_latest : (i : ℕ) (link : LinkOut) → IsSend image p i link → latest (after_tell v.place) link.slot ≡ latest (kept.place p) link.slot
        same_latest i link send =
            let all_put : is_in link.slot v.place.puts ≡ true = (next port_there.0 port_there.1).all_put i link (send_at image p i link port_there.0 send port_there.1) in
            let minus : turn + 1 - 1 ≡ turn = omega arith in
            minus ∙ (sym (latest_put v.place link.slot all_put) ∙ ap (λ (a : Place). latest a link.slot) mine.place_is)

module _ {F D : Type 0} (g : Ghosts F D) (words : List ℕ) (views : List (View D)) (id : ℕ) (v : View D) (kept : IsKept g v.image v.feed v.banks words views) (at : get_elem? views id ≡ some v) (port_is : v.port ≡ None) where
  -- Name
  pub claim_kept : (p : ℕ) → p < length v.image.ports → progress_in words p ≡ UNCLAIMED → IsKept g v.image v.feed v.banks (set words p 0) (set views id (claimed_by v p))
  claim_kept p inside free = record {
    place = kept.place;
    owner = updated kept.owner p id;
    runs = kept.runs;
    long = length-set words p 0 ∙ kept.long;
    owned = owned_claimed v.image v.feed v.banks words views kept.place kept.owner kept.owned id p v at port_is inside room free;
    timed = turns_claim v.image kept.runs.image_fits v.banks (g.turns v.image v.feed) words kept.place kept.timed p room (kept.owned.fresh p inside free);
    sent = subst (AreSent g v.image v.feed v.banks kept.place) (sym (progress_set v.image v.banks words p 0 inside)) kept.sent;
    looks = looks_claimed v.image words views id p v kept.looks at inside room free;
  } where
    room : p < length words
    room = let long = kept.long in omega arith

  -- Split
  pub split_kept : IsKept g v.image v.feed v.banks words (set views id v ++ v ∷ [])
  split_kept = subst (λ vs. IsKept g v.image v.feed v.banks words (vs ++ v ∷ [])) (sym (set_again views id v at)) (record {
    place = kept.place;
    owner = kept.owner;
    runs = kept.runs;
    long = kept.long;
    owned = owned_split v.image v.feed v.banks words views kept.place kept.owner kept.owned id v at port_is;
    timed = kept.timed;
    sent = kept.sent;
    looks = looks_split v.image words views id v kept.looks at port_is;
  })
