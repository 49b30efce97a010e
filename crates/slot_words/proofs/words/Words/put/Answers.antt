use Rattle.std.proofs.Common.{ap, arith, false, length, refl, subst, sym, ℕ, ◌%◌, ◌+◌, ◌<◌, ◌∙◌, ◌≡◌}
use Rattle.std.proofs.lemmas.Option.{slice_get_within}
use Rattle.image_defs.specs.declared.image.LinkOut.{LinkOut}
use Rattle.event_defs.specs.Places.{IsSend, after_put, is_in}
use Rattle.slot_words.proofs.HeldLemmas.{held_stepped, own_fields, pass_stepped, put_word, reseated, word_room}
use Rattle.slot_words.proofs.AllowLemmas.{put_allowed}
use Rattle.slot_words.specs.Passes.{CanPutIn, HasPut, IsRunning, PassView, one_step}
use Rattle.slot_words.specs.{Held.pass_of, Layout.send_word, code.Plays.after_step}
use Rattle.slot_words.proofs.words.Words.put.Given as given
use Rattle.slot_words.proofs.words.Words.put.Goals as goal

-- what the caller may do, by the fields
can_put : (g : given.Over) (c : goal.After-put-arg-1 g) → CanPutIn (pass_of c.pass.inside) c.args.slot
can_put g c = subst (λ (o : PassView g.row.D.Denot). CanPutIn o c.args.slot) (sym c.pass.view_is) c.requires.can

-- the word is that of whatever send has the slot
word_is : (g : given.Over) (c : goal.After-put-arg-1 g) (i : ℕ) (link : LinkOut) → IsSend c.pass.inside.seat.me.0.image c.pass.inside.port i link → link.slot ≡ c.args.slot
    → c.word_in_turn-word.result ≡ send_word c.pass.inside.seat.me.0.image c.pass.inside.seat.me.0.banks c.pass.inside.port i (c.pass.inside.seat.me.0.place.turn % c.pass.inside.seat.me.0.banks)
word_is g c = put_word g.F.Feed c.pass.inside c.pass.invariant c.as_slice.result.now c.as_slice-2.result.now c.find-k.result c.args.slot c.word_in_turn-word.result c.find-k.ensures c.word_in_turn-word.ensures c.as_slice.ensures c.as_slice-2.ensures

pub put-requires-clause-own : goal.put-requires-clause-own
put-requires-clause-own g c = (own_fields c.self.inside c.pass.inside c.args.self.now c.args.pass.now c.self.view_is c.pass.view_is c.requires.own).table

pub put-requires-clause-inside : goal.put-requires-clause-inside
put-requires-clause-inside g c =
    let b = c.self.inside in
    let a = c.pass.inside in
    let own = own_fields b a c.args.self.now c.args.pass.now c.self.view_is c.pass.view_is c.requires.own in
    let can = can_put g c in
    word_room g.F.Feed b a c.self.invariant own c.pass.invariant a.port can.i can.link can.send _ (word_is g c can.i can.link can.send can.slot_is)

pub put-requires-clause-may : goal.put-requires-clause-may
put-requires-clause-may g c =
    let b = c.self.inside in
    let a = c.pass.inside in
    let v = a.seat.me.0 in
    let can = can_put g c in
    let running = subst (IsRunning g.F.Feed) (sym c.pass.view_is) c.requires.running in
    let sent = subst (λ (o : PassView g.row.D.Denot). g.F.Feed.sent o.image o.feed o.port c.args.slot o.place.turn c.args.number) (sym c.pass.view_is) c.requires.sent in
    let missing : is_in can.link.slot v.place.puts ≡ false = ap (λ s. is_in s v.place.puts) can.slot_is ∙ can.missing in
    put_allowed g.F.Feed b.table.shared.key b.table.shared.table_id.slots a.seat.id a.seat.me a.port can.i c.args.number can.link c.pass.invariant.port can.send missing running can.ready
    (subst (λ s. g.F.Feed.sent v.image v.feed a.port s v.place.turn c.args.number) (sym can.slot_is) sent) c.word_in_turn-word.result (word_is g c can.i can.link can.send can.slot_is)

-- the view after the step, for whatever send has the slot
view_is : (g : given.Over) (c : goal.After-put g) (i : ℕ) (link : LinkOut) → IsSend c.pass.inside.seat.me.0.image c.pass.inside.port i link → link.slot ≡ c.args.slot
    → c.put.new.seat.me.0 ≡ after_step c.pass.inside.seat.me.0 c.put.ensures.writes.at (after_put c.pass.inside.seat.me.0.place c.args.slot) c.word_in_turn-word.result c.args.number
view_is g c i link send slot_is =
    let a = c.pass.inside in
    let v = a.seat.me.0 in
    let word = put_word g.F.Feed a c.pass.invariant c.as_slice.result.now c.as_slice-2.result.now c.find-k.result c.args.slot c.word_in_turn-word.result c.find-k.ensures c.word_in_turn-word.ensures c.as_slice.ensures c.as_slice-2.ensures i link send slot_is in
    c.put.ensures.writes.each a.port i link c.pass.invariant.port (record { send = send; is = word })
    ∙ ap (λ s. after_step v c.put.ensures.writes.at (after_put v.place s) c.word_in_turn-word.result c.args.number) slot_is

pub invariant_of-pass : goal.invariant_of-pass
invariant_of-pass g c =
    let a = c.pass.inside in
    let can : CanPutIn (pass_of a) c.args.slot = subst (λ (o : PassView g.row.D.Denot). CanPutIn o c.args.slot) (sym c.pass.view_is) c.requires.can in
    held_stepped a c.put.new.seat c.put.ensures.writes.at (after_put a.seat.me.0.place c.args.slot) _ _ (c.find-k.result + 1) a.last_receipt (view_is g c can.i can.link can.send can.slot_is) g.F.Feed c.pass.invariant refl refl

pub returns : goal.returns
returns g c =
    let a = c.pass.inside in
    let v = a.seat.me.0 in
    subst (λ (o : PassView g.row.D.Denot). HasPut o c.args.slot c.args.number (pass_of (reseated a c.put.new.seat (c.find-k.result + 1) a.last_receipt))) c.pass.view_is (record {
      each = λ i link send slot_is.
          pass_stepped a c.put.new.seat c.put.ensures.writes.at (after_put v.place c.args.slot) _ _ (c.find-k.result + 1) a.last_receipt (view_is g c i link send slot_is) c.put.ensures.table
          ∙ ap (λ w. one_step (pass_of a) (after_put v.place c.args.slot) w c.args.number)
          (put_word g.F.Feed a c.pass.invariant c.as_slice.result.now c.as_slice-2.result.now c.find-k.result c.args.slot c.word_in_turn-word.result c.find-k.ensures c.word_in_turn-word.ensures c.as_slice.ensures c.as_slice-2.ensures i link send slot_is);
    })

pub find-k-requires : goal.find-k-requires
find-k-requires g c =
    let a = c.pass.inside in
    let can : CanPutIn (pass_of a) c.args.slot = subst (λ (o : PassView g.row.D.Denot). CanPutIn o c.args.slot) (sym c.pass.view_is) c.requires.can in
    let within = slice_get_within can.send.port.outs can.i can.link can.send.link_is in
    let at = (c.pass.invariant.sends can.send.port can.send.is).each can.i can.link within can.send.link_is in
    (can.i, record { link = record { slot = can.link.slot; word = send_word a.seat.me.0.image a.seat.me.0.banks a.port can.i 0 }; is = rw c.as_slice.ensures at; slot_is = can.slot_is })

pub bounds-as_slice-k : goal.bounds-as_slice-k
bounds-as_slice-k g c =
    let k = c.find-k.result in
    subst (λ xs. k < length xs) (c.as_slice.ensures ∙ sym c.as_slice-2.ensures) (slice_get_within c.as_slice.result.now k c.find-k.ensures.link c.find-k.ensures.is)

pub word_in_turn-word-requires : goal.word_in_turn-word-requires
word_in_turn-word-requires g c = record { some = rw c.pass.invariant.banks c.pass.invariant.runs.some }

pub overflow_add-pass : goal.overflow_add-pass
overflow_add-pass g c =
    let links = c.as_slice.result.now in
    let within = slice_get_within links c.find-k.result c.find-k.ensures.link c.find-k.ensures.is in
    omega (arith, c.as_slice.type_inv.0)

pub offset_bounds-as_slice-k : goal.offset_bounds-as_slice-k
offset_bounds-as_slice-k g c =
    let links = c.as_slice.result.now in
    let within = slice_get_within links c.find-k.result c.find-k.ensures.link c.find-k.ensures.is in
    omega (arith, c.as_slice.type_inv.1)
