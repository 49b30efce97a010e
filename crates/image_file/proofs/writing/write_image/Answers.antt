use Rattle.image_file.proofs.WritingLemmas.{file_text}
use Rattle.image_file.proofs.writing.write_image.Goals as goal

pub returns : goal.returns
returns c =
    rw (
      c.in_ok-push_end.ensures,
      c.in_ok-push_ports.ensures,
      c.in_ok-push_head.ensures,
      c.in_ok-push_version.ensures,
      c.new-text.ensures,
      c.as_slice.ensures,
      c.as_slice-2.ensures,
      c.len.ensures,
    ) (file_text c.args.file.now)
