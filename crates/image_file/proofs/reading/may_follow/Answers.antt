use Rattle.std.proofs.{Common.refl, Common.sym, Common.◌∙◌, lemmas.Bool.and_right}
use Rattle.image_file.specs.Drafts.{has_room}
use Rattle.image_file.proofs.reading.may_follow.Goals as goal
use Rattle.image_file.proofs.reading.may_follow.Goals.{then-not-within-via-then-not-within, then-not-within-via-else-not-within+then-not-has_room}

pub returns-then-not-within-clause-answers : goal.returns-then-not-within-clause-answers
returns-then-not-within-clause-answers c = elim c.then-not-within.branch [
  | then-not-within-via-then-not-within w ↦ rw (← c.if-not-may_stand.ensures, w.if-not-within.true) refl
  | then-not-within-via-else-not-within+then-not-has_room w ↦
      rw (← c.if-not-may_stand.ensures, and_right c.args.within (has_room c.args.draft.now c.args.line.now) (sym w.has_room.ensures ∙ w.if-not-has_room.true)) refl
]
