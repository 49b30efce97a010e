-- What a line adds where no port's lines are being read.
use Rattle.image_lines.specs.declared.line.Line.{Line}
use Rattle.image_file.specs.{declared.draft.Draft.Draft, declared.draft.Draft.TheVariants.Within, Drafts.draft_with}

abbrev pub around : Draft → Line → Draft
around (Within body) said = Within body
around other said = draft_with other said
