use Rattle.std.proofs.Common.{◌∙◌, refl, sym, arith}
use Rattle.std.proofs.lemmas.List.{take_rest, drop-drop}
use Rattle.edge_io.proofs.mem_files.MemFilesFiles.read.Goals as goal

pub returns-then-call-clause-after : goal.returns-then-call-clause-after
returns-then-call-clause-after c = rw (sym c.self.view_is, c.call.ensures.after, c.failed_read.ensures) refl

pub returns-clause-answer : goal.returns-clause-answer
returns-clause-answer c = rw (sym c.self.view_is) (sym c.if-call.false ∙ c.call.ensures.answer)

pub returns-clause-count : goal.returns-clause-count
returns-clause-count c =
    rw (sym c.self.view_is, c.min-n.ensures, c.up_to.ensures.number, c.bytes_of.ensures, c.as_slice.ensures, take_rest _ c.self.inside.offset) refl

pub returns-clause-progress : goal.returns-clause-progress
returns-clause-progress c = λ room more.
    let some =
    c.up_to.ensures.progress
    (rw (c.bytes_of.ensures, c.as_slice.ensures, take_rest _ c.self.inside.offset) (rw (sym c.self.view_is) at more)) in
    omega (arith, room, some, c.min-n.ensures)

pub returns-clause-buffer : goal.returns-clause-buffer
returns-clause-buffer c =
    rw (sym c.self.view_is, c.copy_front.ensures, c.bytes_of.ensures, c.as_slice.ensures, take_rest _ c.self.inside.offset) refl

pub returns-clause-after : goal.returns-clause-after
returns-clause-after c = rw (sym c.self.view_is, c.call.ensures.after, c.read.ensures, drop-drop c.min-n.result c.self.inside.offset _) refl
