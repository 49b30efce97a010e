-- What a text reads as, line by line, or its first fault.
use Rattle.std.specs.Prelude.{ℕ, suc, ◌&&◌, Bool, List, [], ◌∷◌, Option, Result, Ok, Err, if◌then◌else◌}
use Rattle.std.specs.{List.slice_split, Result.result_err}
use Rattle.text_lines.specs.Bytes.{is_line_feed}
use Rattle.image_defs.specs.declared.file.ImageFile.{ImageFile}
use Rattle.image_lines.specs.{declared.line.Line.Line, declared.line.LineNo.LineNo, Forms.line_read}
use Rattle.image_file.specs.declared.{refusal.ImageNo.ImageNo, refusal.ImageNo.TheVariants.Syntax, refusal.ImageNo.TheVariants.Range, draft.Draft.Draft}
use Rattle.image_file.specs.declared.draft.Draft.TheVariants.{Blank, Ended}
use Rattle.image_file.specs.Drafts.{may_stand, has_room, draft_with}

-- what stands between the LFs of a text: its lines, and what follows the last LF
abbrev pub pieces_of : List ℕ → List (List ℕ)
pieces_of text = slice_split is_line_feed text

-- what the line of this number adds to the text so far. One that may not stand there is a fault of
-- syntax; one that may, and has a number out of its range or for which a limit leaves no room, is out
-- of range
abbrev pub followed : ℕ → Draft → Line → Bool → Result Draft ImageNo
followed n draft said within =
    if may_stand draft said
    then (if within && has_room draft said then Ok (draft_with draft said) else Err (Range n))
    else Err (Syntax n)

abbrev pub after_line : ℕ → Draft → Result (Line × Bool) LineNo → Result Draft ImageNo
after_line n draft (Ok read) = followed n draft read.0 read.1
after_line n draft (Err why) = Err (Syntax n)

-- the text ends behind its line `end`, with the LF of that line
abbrev pub at_end : ℕ → Draft → List ℕ → Result ImageFile ImageNo
at_end n (Ended file) [] = Ok file
at_end n draft rest = Err (Syntax n)

abbrev pub and_then : Result Draft ImageNo → (Draft → Result ImageFile ImageNo) → Result ImageFile ImageNo
and_then (Ok draft) next = next draft
and_then (Err why) next = Err why

-- what the pieces from the line of this number on make of the text so far
unfoldable pub read_from : ℕ → Draft → List (List ℕ) → Result ImageFile ImageNo
read_from n draft [] = Err (Syntax n)
read_from n draft (last ∷ []) = at_end n draft last
read_from n draft (bytes ∷ next ∷ rest) =
    and_then (after_line n draft (line_read bytes)) (λ after. read_from (suc n) after (next ∷ rest))

-- the file that a text reads as, or its first fault
unfoldable pub file_read : List ℕ → Result ImageFile ImageNo
file_read text = read_from 1 Blank (pieces_of text)

-- the first line that has a fault, and which: a line that has none of the forms, or may not stand where
-- it stands, or has no LF, the first line behind the end, or the one that would follow where a text
-- stops before its end; or a line that is out of range
abbrev pub first_fault : List ℕ → Option ImageNo
first_fault text = result_err (file_read text)
