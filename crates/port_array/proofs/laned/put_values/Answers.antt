use Rattle.std.proofs.Common.{◌≡◌, ◌∙◌, inl, inr, get_or, length, set, sym, ap, arith}
use Rattle.std.proofs.lemmas.List.{ext_get_or, length-map, get_or_default, get_or-set_same, get_or-set_other}
use Rattle.list_laws.proofs.Ranges.{last_or}
use Rattle.logic_four.specs.declared.V4.TheVariants.{Zero, Undef}
use Rattle.lane_planes.specs.Lanes.{lane_of}
use Rattle.port_array.specs.code.Rows.{lane_row}
use Rattle.port_array.proofs.laned.put_values.Goals as goal

pub places-preserved : goal.places-preserved
places-preserved c =
    let now = lane_row c.args.k c.places.planes in
    let i = c.places.i in
    let long : length now ≡ length c.places.planes = length-map c.places.planes (λ p. lane_of p c.args.k) in
    record {
      long = c.put_value.ensures.long ∙ c.places.invariant.long;
      filled = λ j low. ap (λ list. get_or list j Undef) c.put_value.ensures.here ∙ elim (last_or j i low) [
        | inl before ↦ get_or-set_other now i j _ Undef (λ same. omega (arith, same, before)) ∙ c.places.invariant.filled j before
        | inr same ↦
            ap (λ n. get_or (set now i (get_or c.args.values.now i Zero)) n Undef) same
            ∙ get_or-set_same now i _ Undef (omega (arith, long, c.places.invariant.long, c.requires.long, c.places-test.true))
            ∙ get_or_default c.args.values.now i Zero Undef c.places-test.true
            ∙ ap (λ n. get_or c.args.values.now n Undef) (sym same)
      ];
      others = λ m low other. c.put_value.ensures.others m low other ∙ c.places.invariant.others m low other;
    }

pub returns-clause-here : goal.returns-clause-here
returns-clause-here c =
    ext_get_or Undef (lane_row c.args.k c.places.planes) c.args.values.now
    (length-map c.places.planes (λ p. lane_of p c.args.k) ∙ c.places.invariant.long ∙ c.requires.long) (λ i low.
    c.places.invariant.filled i (omega (arith, low, length-map c.places.planes (λ p. lane_of p c.args.k), c.places.invariant.long, c.requires.long)))
