use Rattle.std.proofs.Common.{◌≡◌, ◌∙◌, ◌<◌, length, get_or, ap, ap₂, sym, subst, arith}
use Rattle.std.proofs.lemmas.Option.{get_or_from_slice_get}
use Rattle.event_defs.specs.Row.{word_place}
use Rattle.port_walk.specs.Placed.{IsNextReceipt}
use Rattle.order_run.specs.declared.core_ports.CorePort.{CorePort}
use Rattle.order_run.proofs.CorePortLemmas.{core_port_read, read_low, read_room}
use Rattle.order_run.proofs.core_ports.read.Goals as goal

pub offset_bounds-as_slice-next_receipt : goal.offset_bounds-as_slice-next_receipt
offset_bounds-as_slice-next_receipt c =
    let within = subst (λ sources. c.next_receipt.result < length sources) (sym c.as_slice.ensures) (read_low c.args.core_ports.now c.args.p c.index-core_ports-p.result c.requires.there c.index-core_ports-p.is c.args.banks (length c.args.words.now) c.next_receipt.result c.requires.can c.requires.room c.next_receipt.ensures) in
    let fits = c.as_slice.type_inv in
    omega arith

pub bounds-as_slice-next_receipt : goal.bounds-as_slice-next_receipt
bounds-as_slice-next_receipt c = subst (λ sources. c.next_receipt.result < length sources) (sym c.as_slice.ensures) (read_low c.args.core_ports.now c.args.p c.index-core_ports-p.result c.requires.there c.index-core_ports-p.is c.args.banks (length c.args.words.now) c.next_receipt.result c.requires.can c.requires.room c.next_receipt.ensures)

pub place_of-requires : goal.place_of-requires
place_of-requires c =
    let low : word_place c.args.banks (get_or c.as_slice.result.now c.next_receipt.result 0) c.index-core_ports-p.result.bank < length c.args.words.now = subst (λ sources. word_place c.args.banks (get_or sources c.next_receipt.result 0) c.index-core_ports-p.result.bank < length c.args.words.now) (sym c.as_slice.ensures) (read_room c.args.core_ports.now c.args.p c.index-core_ports-p.result c.requires.there c.index-core_ports-p.is c.args.banks (length c.args.words.now) c.next_receipt.result c.requires.can c.requires.room c.next_receipt.ensures) in
    let same = ap length c.as_slice-2.ensures in
    let fits = c.as_slice-2.type_inv in
    omega arith

pub offset_bounds-as_slice-place_of : goal.offset_bounds-as_slice-place_of
offset_bounds-as_slice-place_of c =
    let low : word_place c.args.banks (get_or c.as_slice.result.now c.next_receipt.result 0) c.index-core_ports-p.result.bank < length c.args.words.now = subst (λ sources. word_place c.args.banks (get_or sources c.next_receipt.result 0) c.index-core_ports-p.result.bank < length c.args.words.now) (sym c.as_slice.ensures) (read_room c.args.core_ports.now c.args.p c.index-core_ports-p.result c.requires.there c.index-core_ports-p.is c.args.banks (length c.args.words.now) c.next_receipt.result c.requires.can c.requires.room c.next_receipt.ensures) in
    let place = c.place_of.ensures in
    let same = ap length c.as_slice-2.ensures in
    let fits = c.as_slice-2.type_inv in
    omega arith

pub bounds-as_slice-place_of : goal.bounds-as_slice-place_of
bounds-as_slice-place_of c =
    let low : word_place c.args.banks (get_or c.as_slice.result.now c.next_receipt.result 0) c.index-core_ports-p.result.bank < length c.args.words.now = subst (λ sources. word_place c.args.banks (get_or sources c.next_receipt.result 0) c.index-core_ports-p.result.bank < length c.args.words.now) (sym c.as_slice.ensures) (read_room c.args.core_ports.now c.args.p c.index-core_ports-p.result c.requires.there c.index-core_ports-p.is c.args.banks (length c.args.words.now) c.next_receipt.result c.requires.can c.requires.room c.next_receipt.ensures) in
    let place = c.place_of.ensures in
    let same = ap length c.as_slice-2.ensures in
    omega arith

pub returns : goal.returns
returns c core_port at = record {
  each = λ j n link receiving is.
      let same : c.index-core_ports-p.result ≡ core_port = core_port_read c.args.core_ports.now c.args.p c.index-core_ports-p.result core_port c.index-core_ports-p.is at in
      let number : j ≡ c.next_receipt.result = (subst (λ (s : CorePort). IsNextReceipt s.port c.next_receipt.result) same c.next_receipt.ensures).each j link receiving in
      let sources : c.as_slice.result.now ≡ core_port.sources = c.as_slice.ensures ∙ ap (λ (s : CorePort). s.sources) same in
      let read : get_or c.as_slice.result.now c.next_receipt.result 0 ≡ n = ap (λ xs. get_or xs c.next_receipt.result 0) sources ∙ (ap (λ k. get_or core_port.sources k 0) (sym number) ∙ get_or_from_slice_get core_port.sources j n 0 is) in
      ap₂ (λ words place. get_or words place 0) c.as_slice-2.ensures
      (c.place_of.ensures ∙ (ap (λ s. word_place c.args.banks s c.index-core_ports-p.result.bank) read ∙ ap (λ (s : CorePort). word_place c.args.banks n s.bank) same));
}
