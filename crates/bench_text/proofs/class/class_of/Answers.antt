use Rattle.std.proofs.Common.{◌≡◌, map, get_or, refl, ap, ◌∙◌, arith}
use Rattle.std.proofs.lemmas.List.FromFn.{get_or-map-range_with_len}
use Rattle.std.specs.List.{range_with_len}
use Rattle.text_lines.specs.{Bytes.is_visible, Bytes.is_blank, Names.is_mark, Names.is_name_byte}
use Rattle.bench_text.specs.{declared.class.Class.TheVariants.Name, declared.class.TheConstants.CLASSES, Bytes.sign_of, Bytes.class_of}
use Rattle.bench_text.proofs.class.class_of.Goals as goal

-- the table has the class of each byte
table_is : CLASSES ≡ map class_of (range_with_len 0 256)
unfolding class_of sign_of is_name_byte is_visible is_blank is_mark
table_is = refl

pub returns : goal.returns
returns c =
    rw c.from.ensures (ap (λ classes. get_or classes c.args.byte Name) table_is ∙ get_or-map-range_with_len class_of 0 256 c.args.byte c.args.byte Name (omega arith) (omega arith))
