use Rattle.text_lines.specs.Bytes.{is_visible}
use Rattle.text_lines.proofs.bytes.is_visible.Goals as goal

pub returns : goal.returns
unfolding is_visible
returns c = c.is_ascii_graphic.ensures.value
