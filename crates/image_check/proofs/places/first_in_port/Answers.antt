use Rattle.std.proofs.Common.{◌∙◌, length, ap, sym}
use Rattle.image_check.proofs.{ClaimLemmas.claims_there, FirstLemmas.port_read}
use Rattle.image_check.proofs.places.first_in_port.Goals as goal

pub first_slot-requires : goal.first_slot-requires
first_slot-requires c =
    let read = port_read c.args.file.now c.args.shapes.now c.args.p c.as_slice.result.now c.index-as_slice-p.result c.as_slice-2.result.now c.index-as_slice-p-2.result c.index-shapes-p.result
    c.requires.laid c.requires.claims c.requires.within c.as_slice.ensures c.index-as_slice-p.is c.as_slice-2.ensures c.index-as_slice-p-2.is c.index-shapes-p.is in
    record {
      one = record { laid = c.requires.laid; is = read.0 };
      claims = c.as_slice-3.ensures ∙ sym (claims_there c.args.file.now.claims c.args.p c.index-as_slice-p-2.result (sym read.1));
      slots = c.as_slice-4.ensures ∙ read.2.items;
      as_many = ap length c.as_slice-3.ensures ∙ (c.requires.claims.items c.args.p c.index-as_slice-p.result c.index-as_slice-p-2.result read.0 read.1 ∙ sym (ap length (c.as_slice-4.ensures ∙ read.2.items)));
    }
