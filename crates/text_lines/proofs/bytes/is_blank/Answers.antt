use Rattle.std.proofs.{Common.refl, lemmas.Bool.ne_eqb}
use Rattle.text_lines.specs.Bytes.{is_blank}
use Rattle.text_lines.proofs.bytes.is_blank.Goals as goal

pub returns-else-byte-eq32 : goal.returns-else-byte-eq32
unfolding is_blank
returns-else-byte-eq32 c = rw (ne_eqb c.args.byte 32 c.if-byte-eq32.false) refl
