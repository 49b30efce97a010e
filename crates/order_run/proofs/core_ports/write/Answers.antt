use Rattle.std.proofs.Common.{◌<◌, ◌≡◌, ◌∙◌, ◌+◌, ◌*◌, length, set, ap, ap₂, sym, subst, arith}
use Rattle.logic_four.specs.Values.{code_of}
use Rattle.event_defs.specs.Row.{word_place}
use Rattle.event_defs.proofs.SourceLemmas.{entry_there}
use Rattle.port_walk.specs.Placed.{IsNextSend}
use Rattle.order_run.specs.declared.core_ports.CorePort.{CorePort}
use Rattle.order_run.proofs.CorePortLemmas.{core_port_read, below_product, write_room}
use Rattle.order_run.proofs.core_ports.write.Goals as goal

pub overflow_add-send : goal.overflow_add-send
overflow_add-send c =
    let low = below_product (c.index-core_ports-p.result.first + c.next_send.result) c.args.banks c.index-core_ports-p.result.bank (length c.args.words.now) c.requires.some (write_room c.args.core_ports.now c.args.p c.index-core_ports-p.result c.requires.there c.index-core_ports-p.is c.args.banks (length c.args.words.now) c.next_send.result c.requires.can c.requires.room c.next_send.ensures) in
    let fits = c.len-room.type_inv in
    let long = c.len-room.ensures in
    omega arith

pub place_of-place-requires : goal.place_of-place-requires
place_of-place-requires c =
    let low = write_room c.args.core_ports.now c.args.p c.index-core_ports-p.result c.requires.there c.index-core_ports-p.is c.args.banks (length c.args.words.now) c.next_send.result c.requires.can c.requires.room c.next_send.ensures in
    let fits = c.len-room.type_inv in
    let long = c.len-room.ensures in
    omega arith

pub word_of-requires : goal.word_of-requires
word_of-requires c =
    let early = c.requires.early c.index-core_ports-p.result (entry_there c.args.core_ports.now c.args.p c.index-core_ports-p.result c.requires.there c.index-core_ports-p.is) in
    let turn = c.turn.ensures in
    omega arith

pub set-requires : goal.set-requires
set-requires c = subst (λ n. n < length c.args.words.now) (sym c.place_of-place.ensures) (write_room c.args.core_ports.now c.args.p c.index-core_ports-p.result c.requires.there c.index-core_ports-p.is c.args.banks (length c.args.words.now) c.next_send.result c.requires.can c.requires.room c.next_send.ensures)

pub returns : goal.returns
returns c core_port at = record {
  each = λ i link sending.
      let same : c.index-core_ports-p.result ≡ core_port = core_port_read c.args.core_ports.now c.args.p c.index-core_ports-p.result core_port c.index-core_ports-p.is at in
      let number : i ≡ c.next_send.result = (subst (λ (s : CorePort). IsNextSend s.port c.next_send.result) same c.next_send.ensures).each i link sending in
      c.set.ensures ∙ ap₂ (λ n x. set c.args.words.now n x)
      (c.place_of-place.ensures ∙ (ap (λ n. word_place c.args.banks (c.index-core_ports-p.result.first + n) c.index-core_ports-p.result.bank) (sym number) ∙ ap (λ (s : CorePort). word_place c.args.banks (s.first + i) s.bank) same))
      (c.word_of.ensures ∙ ap (λ t. 4 * t + code_of c.args.value) (c.turn.ensures ∙ ap (λ (s : CorePort). s.port.turn) same));
}
