use Rattle.std.proofs.Common.{◌∙◌, inl, inr, get_or, map, set, sym, ap, arith}
use Rattle.std.proofs.lemmas.List.{ext_get_or, length-map, length-set, get_or-map, get_or-set_same, get_or-set_other}
use Rattle.list_laws.proofs.Ranges.{last_or}
use Rattle.logic_four.specs.declared.V4.TheVariants.{Undef}
use Rattle.port_array.specs.code.Acts.{past_of}
use Rattle.image_defs.specs.Ports.{lane_port}
use Rattle.port_array.proofs.memory.fill.Goals as goal

pub sources-preserved : goal.sources-preserved
sources-preserved g c =
    let f = past_of (lane_port g.W.Word.stimulus c.args.k c.args.bank.now) in
    let xs = c.args.sources.now in
    let room = c.sources.room in
    let i = c.sources.i in
    let v = c.take_past.result in
    rw c.set.ensures (record {
      long = length-set room i v ∙ c.sources.invariant.long;
      filled = λ j low. elim (last_or j i low) [
        | inl before ↦ get_or-set_other room i j v Undef (λ same. omega (arith, same, before)) ∙ c.sources.invariant.filled j before
        | inr same ↦
            ap (λ n. get_or (set room i v) n Undef) same ∙ get_or-set_same room i v Undef (omega arith)
            ∙ c.take_past.ensures ∙ sym (get_or-map f xs i _ Undef c.sources-test.true) ∙ ap (λ n. get_or (map f xs) n Undef) (sym same)
      ];
    })

pub returns : goal.returns
returns g c =
    let f = past_of (lane_port g.W.Word.stimulus c.args.k c.args.bank.now) in
    let xs = c.args.sources.now in
    ext_get_or Undef c.sources.room (map f xs) (c.sources.invariant.long ∙ sym (length-map xs f)) (λ i low. c.sources.invariant.filled i (omega arith))
