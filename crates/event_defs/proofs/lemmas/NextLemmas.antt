-- The next event is one.
use Rattle.std.proofs.Common.{List, ap, ap₂, arith, inl, inr, refl, subst, sym, ℕ, ◌∙◌, ◌≡◌}
use Rattle.std.proofs.lemmas.Bool.{cases_order, false≢true}
use Rattle.logic_four.specs.declared.V4.{V4}
use Rattle.image_defs.specs.{Places.IsPort, Places.Stands, WellFormed.IsWellFormed, declared.image.Image.Image, declared.image.LinkIn.LinkIn}
use Rattle.image_defs.specs.declared.image.{LinkOut.LinkOut, PortImage.PortImage}
use Rattle.event_defs.proofs.lemmas.PaceLemmas.{same_receipt, same_send}
use Rattle.event_defs.specs.Next.{AsksNext, EndsNext, IsNext, PutsNext, ReceivesNext, SendsNext, TakesNext}
use Rattle.event_defs.specs.declared.place.Action.TheVariants.{Ask, Put, Take, Tell, Done}
use Rattle.event_defs.specs.declared.place.{Action.Action, Place.Place}

module _ (image : Image) (fits : IsWellFormed image) (p : ℕ) (port : PortImage) (is : IsPort image p port) where
  module _ (puts takes : List ℕ) where
    -- one Put at most is next
    pub sends_one : (i j : ℕ) (one other : LinkOut) → SendsNext port puts takes i one → SendsNext port puts takes j other → (i ≡ j) × (one ≡ other)
    sends_one i j one other a b = elim (cases_order one.slot other.slot) [
      | inl same ↦ same_send image fits p i j one other (record { port = port; is = is; link_is = a.is }) (record { port = port; is = is; link_is = b.is }) same
      | inr h ↦ elim h [
        | inl less ↦ absurd (false≢true (sym a.missing ∙ b.below.all_put i one a.is less))
        | inr more ↦ absurd (false≢true (sym b.missing ∙ a.below.all_put j other b.is more))
      ]
    ]

    -- one Take at most is next
    pub receives_one : (i j : ℕ) (one other : LinkIn) → ReceivesNext port puts takes i one → ReceivesNext port puts takes j other → (i ≡ j) × (one ≡ other)
    receives_one i j one other a b = elim (cases_order one.slot other.slot) [
      | inl same ↦ same_receipt image fits p port i j one other is a.is b.is same
      | inr h ↦ elim h [
        | inl less ↦ absurd (false≢true (sym a.missing ∙ b.below.all_taken i one a.is less))
        | inr more ↦ absurd (false≢true (sym b.missing ∙ a.below.all_taken j other b.is more))
      ]
    ]

    -- and never both
    pub sends_not_receives : (i j : ℕ) (out : LinkOut) (link : LinkIn) → SendsNext port puts takes i out → ReceivesNext port puts takes j link → ⊥
    sends_not_receives i j out link a b = elim (cases_order out.slot link.slot) [
      | inl same ↦ false≢true (sym a.missing ∙ b.put_there i out a.is same)
      | inr h ↦ elim h [
        | inl less ↦ false≢true (sym a.missing ∙ b.below.all_put i out a.is less)
        | inr more ↦ false≢true (sym b.missing ∙ a.below.all_taken j link b.is more)
      ]
    ]

    pub sends_not_ends : (i : ℕ) (out : LinkOut) → SendsNext port puts takes i out → EndsNext port puts takes → ⊥
    sends_not_ends i out a b = false≢true (sym a.missing ∙ b.all_put i out a.is)

    pub receives_not_ends : (j : ℕ) (link : LinkIn) → ReceivesNext port puts takes j link → EndsNext port puts takes → ⊥
    receives_not_ends j link a b = false≢true (sym a.missing ∙ b.all_taken j link a.is)

  module _ (place : Place) (banks : ℕ) where
    -- one reader at most is asked next
    pub asks_one : (r s : ℕ) → AsksNext port place banks r → AsksNext port place banks s → r ≡ s
    asks_one r s a b =
        let same = (sends_one place.puts place.takes a.i b.i a.link b.link a.sends b.sends).1 in
        elim (cases_order r s) [
          | inl equal ↦ equal
          | inr h ↦ elim h [
            | inl less ↦ let near = b.least r (subst (λ (l : LinkOut). Stands l.readers r) same a.reads) less in let lags = a.lags in absurd (omega arith)
            | inr more ↦ let near = a.least s (subst (λ (l : LinkOut). Stands l.readers s) (sym same) b.reads) more in let lags = b.lags in absurd (omega arith)
          ]
        ]

    -- a Put waits for no reader
    pub asks_not_puts : (r slot : ℕ) → AsksNext port place banks r → PutsNext port place banks slot → ⊥
    asks_not_puts r slot a b =
        let same = (sends_one place.puts place.takes a.i b.i a.link b.link a.sends b.sends).1 in
        let near = b.ready r (subst (λ (l : LinkOut). Stands l.readers r) same a.reads) in
        let lags = a.lags in
        omega arith

    pub puts_one : (s t : ℕ) (a : PutsNext port place banks s) (b : PutsNext port place banks t) → (a.i ≡ b.i) × (s ≡ t)
    puts_one s t a b =
        let same = sends_one place.puts place.takes a.i b.i a.link b.link a.sends b.sends in
        (same.0, sym a.slot_is ∙ (ap (λ (l : LinkOut). l.slot) same.1 ∙ b.slot_is))

    pub takes_one : (s t : ℕ) → TakesNext port place s → TakesNext port place t → s ≡ t
    takes_one s t a b = sym a.slot_is ∙ (ap (λ (l : LinkIn). l.slot) (receives_one place.puts place.takes a.j b.j a.link b.link a.receives b.receives).1 ∙ b.slot_is)

    module _ (until : ℕ) (value : ℕ → V4) where
      pub one_next : (a b : Action) → IsNext port place banks until value a → IsNext port place banks until value b → a ≡ b
      one_next (Ask r) (Ask s) x y = ap (λ n. Ask n) (asks_one r s x.1 y.1)
      one_next (Ask r) (Put t v) x y = absurd (asks_not_puts r t x.1 y.1)
      one_next (Ask r) (Take t) x y = absurd (sends_not_receives place.puts place.takes x.1.i y.1.j x.1.link y.1.link x.1.sends y.1.receives)
      one_next (Ask r) Tell x y = absurd (sends_not_ends place.puts place.takes x.1.i x.1.link x.1.sends y.1)
      one_next (Ask r) Done x y = let early = x.0 in absurd (omega arith)
      one_next (Put t v) (Ask r) x y = absurd (asks_not_puts r t y.1 x.1)
      one_next (Put t v) (Put u w) x y = let slots = (puts_one t u x.1 y.1).1 in ap₂ (λ s z. Put s z) slots (x.2 ∙ (ap value slots ∙ sym y.2))
      one_next (Put t v) (Take u) x y = absurd (sends_not_receives place.puts place.takes x.1.i y.1.j x.1.link y.1.link x.1.sends y.1.receives)
      one_next (Put t v) Tell x y = absurd (sends_not_ends place.puts place.takes x.1.i x.1.link x.1.sends y.1)
      one_next (Put t v) Done x y = let early = x.0 in absurd (omega arith)
      one_next (Take t) (Ask r) x y = absurd (sends_not_receives place.puts place.takes y.1.i x.1.j y.1.link x.1.link y.1.sends x.1.receives)
      one_next (Take t) (Put u w) x y = absurd (sends_not_receives place.puts place.takes y.1.i x.1.j y.1.link x.1.link y.1.sends x.1.receives)
      one_next (Take t) (Take u) x y = ap (λ s. Take s) (takes_one t u x.1 y.1)
      one_next (Take t) Tell x y = absurd (receives_not_ends place.puts place.takes x.1.j x.1.link x.1.receives y.1)
      one_next (Take t) Done x y = let early = x.0 in absurd (omega arith)
      one_next Tell (Ask r) x y = absurd (sends_not_ends place.puts place.takes y.1.i y.1.link y.1.sends x.1)
      one_next Tell (Put u w) x y = absurd (sends_not_ends place.puts place.takes y.1.i y.1.link y.1.sends x.1)
      one_next Tell (Take u) x y = absurd (receives_not_ends place.puts place.takes y.1.j y.1.link y.1.receives x.1)
      one_next Tell Tell x y = refl
      one_next Tell Done x y = let early = x.0 in absurd (omega arith)
      one_next Done (Ask r) x y = let early = y.0 in absurd (omega arith)
      one_next Done (Put u w) x y = let early = y.0 in absurd (omega arith)
      one_next Done (Take u) x y = let early = y.0 in absurd (omega arith)
      one_next Done Tell x y = let early = y.0 in absurd (omega arith)
      one_next Done Done x y = refl
