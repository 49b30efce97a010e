use Rattle.std.specs.List.{flat_map}
use Rattle.image_defs.specs.declared.{image.PortImage.PortImage, file.PortClaims.PortClaims}
use Rattle.image_lines.specs.Words.{line_text}
use Rattle.image_file.specs.Files.{port_lines}
use Rattle.image_file.proofs.WritingLemmas.{pair_more, pairs_end}
use Rattle.image_file.proofs.writing.push_ports.Goals as goal

pub loop-port-preserved : goal.loop-port-preserved
loop-port-preserved c =
    rw (c.in_ok-push_whole_port.ensures, c.as_slice.ensures)
    (pair_more (λ (x : PortImage × PortClaims). flat_map line_text (port_lines x.0 x.1.items)) c.loop-port.text c.loop-port.port-iterator c.next.new.self c.next.result c.next.ensures.steps _ c.loop-port.invariant (c.in-Some.port, c.in-Some.own) c.in-Some.is)

pub returns : goal.returns
returns c = pairs_end (λ (x : PortImage × PortClaims). flat_map line_text (port_lines x.0 x.1.items)) c.loop-port.text c.loop-port.port-iterator c.next.new.self c.next.result c.next.ensures.steps _ c.loop-port.invariant c.in-None.is
