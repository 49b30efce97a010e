-- Links by their slots.
use Rattle.std.proofs.Common.{List, Some, ap, arith, get_or, inl, inr, length, slice_get, subst, sym, ℕ, ◌+◌, ◌<◌, ◌∙◌, ◌≡◌}
use Rattle.std.proofs.lemmas.{Bool.cases_eq, Option.get_or_from_slice_get, Option.slice_get-get_or, Option.slice_get_within}
use Rattle.list_laws.proofs.Members.{member_at}
use Rattle.image_defs.specs.{Places.IsPort, WellFormed.IsWellFormed, declared.image.Image.Image, declared.image.LinkIn.LinkIn, declared.image.LinkOut.LinkOut}
use Rattle.image_defs.specs.declared.image.PortImage.{PortImage}
use Rattle.event_defs.proofs.lemmas.PaceLemmas.{same_receipt, same_send}
use Rattle.event_defs.specs.Places.{IsSend}
use Rattle.slot_words.specs.Links.{AreReceiptLinksOf, AreSendLinksOf, HasSlot, IsSourceWord}
use Rattle.slot_words.specs.{declared.links.Link.Link, Layout.send_word}

pub slot_here : (links : List Link) (slot k : ℕ) (d : Link) → k < length links → (get_or links k d).slot ≡ slot → HasSlot links slot k
slot_here links slot k d inside e = record { link = get_or links k d; is = slice_get-get_or links k d inside; slot_is = e }

pub slot_read : (links : List Link) (slot k : ℕ) (d : Link) → HasSlot links slot k → (get_or links k d).slot ≡ slot
slot_read links slot k d has = ap (λ (l : Link). l.slot) (get_or_from_slice_get links k has.link d has.is) ∙ has.slot_is

-- none of the first n has the slot
abbrev pub HasNot : List Link → ℕ → ℕ → Type 0
HasNot links slot n = (k : ℕ) → k < n → HasSlot links slot k → ⊥

pub not_next : (links : List Link) (slot n : ℕ) (d : Link) → HasNot links slot n → ((get_or links n d).slot ≡ slot → ⊥) → HasNot links slot (n + 1)
not_next links slot n d before other k less has = elim (cases_eq k n) [
  | inl same ↦ other (subst (λ k. (get_or links k d).slot ≡ slot) same (slot_read links slot k d has))
  | inr away ↦ before k (omega arith) has
]

-- ---- the words that links lead to

module _ (image : Image) (fits : IsWellFormed image) (banks p : ℕ) (links : List Link) (k slot : ℕ) (d : Link) (has : HasSlot links slot k) where
  same_link : (one : Link) → slice_get links k ≡ Some one → (get_or links k d ≡ one) × (one.slot ≡ slot)
  same_link one is =
      let both : Some has.link ≡ Some one = sym has.is ∙ is in
      let e : has.link ≡ one = cc in
      (get_or_from_slice_get links k one d is, ap (λ (l : Link). l.slot) (sym e) ∙ has.slot_is)

  -- the word that is found for what the port sends in a slot
  pub send_found : AreSendLinksOf image banks p links → (i : ℕ) (link : LinkOut) → IsSend image p i link → link.slot ≡ slot → (get_or links k d).word ≡ send_word image banks p i 0
  send_found are i link send slot_is =
      let sends = are send.port send.is in
      let low = slice_get_within links k has.link has.is in
      let long = sends.long in
      let out = member_at send.port.outs k (omega arith) in
      let same = same_link (record { slot = out.0.slot; word = send_word image banks p k 0 }) (sends.each k out.0 (omega arith) out.1) in
      let here : IsSend image p k out.0 = record { port = send.port; is = send.is; link_is = out.1 } in
      let index = (same_send image fits p k i out.0 link here send (same.1 ∙ sym slot_is)).0 in
      ap (λ (l : Link). l.word) same.0 ∙ ap (λ n. send_word image banks p n 0) index

  -- the word that is found for what it receives in a slot
  pub receipt_found : AreReceiptLinksOf image banks p links → (port : PortImage) (j i : ℕ) (link : LinkIn) (sent : LinkOut) → IsPort image p port → slice_get port.ins j ≡ Some link → link.slot ≡ slot
      → IsSend image link.sender i sent → sent.slot ≡ slot → (get_or links k d).word ≡ send_word image banks link.sender i 0
  receipt_found are port j i link sent is at slot_is send sent_slot =
      let receipts = are port is in
      let low = slice_get_within links k has.link has.is in
      let long = receipts.long in
      let other = member_at port.ins k (omega arith) in
      let found = receipts.each k other.0 (omega arith) other.1 in
      let same = same_link (record { slot = other.0.slot; word = found.0 }) found.1 in
      let link_is : other.0 ≡ link = (same_receipt image fits p port k j other.0 link is other.1 at (same.1 ∙ sym slot_is)).1 in
      let source : IsSourceWord image banks link found.0 = subst (λ (l : LinkIn). IsSourceWord image banks l found.0) link_is found.2 in
      let index = (same_send image fits link.sender source.i i source.sent sent source.send send (source.same_slot ∙ (slot_is ∙ sym sent_slot))).0 in
      ap (λ (l : Link). l.word) same.0 ∙ (source.is ∙ ap (λ n. send_word image banks link.sender n 0) index)
