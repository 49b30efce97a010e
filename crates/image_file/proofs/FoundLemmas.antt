-- What is read is what the text is the text of.
use Rattle.std.proofs.Common.{◌≡◌, ℕ, suc, ◌&&◌, Bool, true, List, [], ◌∷◌, ◌++◌, Result, Ok, Err, refl, sym, ap, ◌∙◌, subst, All, append-nil, append_assoc, if◌then◌else◌}
use Rattle.std.proofs.lemmas.{Grind.flat_map-append, List.Elements.All-nil, List.Elements.All-cons, List.Elements.All-append}
use Rattle.std.proofs.lemmas.List.Splits.{join_with_byte-slice_split}
use Rattle.std.specs.List.{flat_map, join_with_byte}
use Rattle.image_defs.specs.declared.file.ImageFile.{ImageFile}
use Rattle.image_lines.specs.{declared.line.Line.Line, declared.line.LineNo.LineNo, Forms.line_read, Ranges.IsInRange, Words.line_text, Words.line_bytes}
use Rattle.image_lines.proofs.lemmas.LawLemmas.{read_only}
use Rattle.image_file.specs.Reading.{pieces_of, followed, after_line, at_end, and_then, read_from, file_read}
use Rattle.image_file.specs.declared.{refusal.ImageNo.ImageNo, refusal.ImageNo.TheVariants.Syntax, refusal.ImageNo.TheVariants.Range, draft.Draft.Draft}
use Rattle.image_file.specs.declared.draft.Draft.TheVariants.{Blank, Ended}
use Rattle.image_file.specs.{Drafts.may_stand, Drafts.has_room, Drafts.draft_with, Files.image_text, Ranges.IsInRanges, Ranges.Reads}
use Rattle.image_file.proofs.{DraftLemmas.IsGood, DraftLemmas.draft_lines, DraftLemmas.draft_step, RangeLemmas.in_ranges}

at_end_ok : (n : ℕ) (draft : Draft) (last : List ℕ) (file : ImageFile) → at_end n draft last ≡ Ok file → (draft ≡ Ended file) × (last ≡ [])
at_end_ok n (Ended other) [] file e = (cc, refl)
at_end_ok n (Ended other) (byte ∷ last) file e = cc
at_end_ok n draft last file e = cc

then_ok : (r : Result Draft ImageNo) (next : Draft → Result ImageFile ImageNo) (file : ImageFile) → and_then r next ≡ Ok file
    → (after : Draft) × ((r ≡ Ok after) × (next after ≡ Ok file))
then_ok (Ok after) next file e = (after, (refl, e))
then_ok (Err why) next file e = cc

-- a line that has been followed
record Follows (draft after : Draft) (said : Line) : Type 0 where
  may : may_stand draft said ≡ true
  room : has_room draft said ≡ true
  is : after ≡ draft_with draft said

followed_ok : (n : ℕ) (draft after : Draft) (said : Line) (within : Bool) → followed n draft said within ≡ Ok after → (within ≡ true) × Follows draft after said
followed_ok n draft after said within e = of (may_stand draft said) within (has_room draft said) refl refl e
  where
    of : (may within room : Bool) → may_stand draft said ≡ may → has_room draft said ≡ room
        → (if may then (if within && room then Ok (draft_with draft said) else Err (Range n)) else Err (Syntax n)) ≡ Ok after → (within ≡ true) × Follows draft after said
    of true true true may_is room_is e = (refl, record { may = may_is; room = room_is; is = cc })
    of may within room may_is room_is e = cc

line_ok : (n : ℕ) (draft after : Draft) (r : Result (Line × Bool) LineNo) → after_line n draft r ≡ Ok after → (said : Line) × ((r ≡ Ok (said, true)) × Follows draft after said)
line_ok n draft after (Err why) e = cc
line_ok n draft after (Ok (said, within)) e =
    let ok = followed_ok n draft after said within e in
    (said, (ap (λ (b : Bool). Ok (said, b)) ok.0, ok.1))

line_more : (lines : List Line) (said : Line) (rest : List ℕ)
    → flat_map line_text (lines ++ said ∷ []) ++ rest ≡ flat_map line_text lines ++ (line_bytes said ++ 10 ∷ rest)
line_more lines said rest =
    ap (λ (text : List ℕ). text ++ rest) (flat_map-append line_text lines (said ∷ []) ∙ ap (λ (text : List ℕ). flat_map line_text lines ++ text) (append-nil (line_text said)))
    ∙ append_assoc (flat_map line_text lines) (line_text said) rest
    ∙ ap (λ (text : List ℕ). flat_map line_text lines ++ text) (append_assoc (line_bytes said) (10 ∷ []) rest)

-- what is left of a text, behind what has been read of it
found_from : (n : ℕ) (draft : Draft) (pieces : List (List ℕ)) (file : ImageFile) → IsGood draft → All IsInRange (draft_lines draft) → read_from n draft pieces ≡ Ok file
    → (flat_map line_text (draft_lines draft) ++ join_with_byte 10 pieces ≡ image_text file) × IsInRanges file
unfolding read_from image_text
found_from n draft [] file good lines e = cc
found_from n draft (last ∷ []) file good lines e =
    let ok = at_end_ok n draft last file e in
    let closed = subst IsGood ok.0 good in (
      rw (ok.0, ok.1) (append-nil (image_text file)),
      in_ranges file closed.0 closed.1 (subst (λ d. All IsInRange (draft_lines d)) ok.0 lines),
    )
found_from n draft (bytes ∷ next ∷ rest) file good lines e =
    let gone = then_ok (after_line n draft (line_read bytes)) (λ after. read_from (suc n) after (next ∷ rest)) file e in
    let line = line_ok n draft gone.0 (line_read bytes) gone.1.0 in
    let said = line.0 in
    let read = read_only bytes said line.1.0 in
    let step = draft_step draft said good read.1.within line.1.1.may line.1.1.room in
    let more = found_from (suc n) (draft_with draft said) (next ∷ rest) file step.good
    (subst (All IsInRange) (sym step.lines) (All-append IsInRange (draft_lines draft) (said ∷ []) lines (All-cons IsInRange said [] read.1 (All-nil IsInRange))))
    (subst (λ d. read_from (suc n) d (next ∷ rest) ≡ Ok file) line.1.1.is gone.1.1) in (
      ap (λ (b : List ℕ). flat_map line_text (draft_lines draft) ++ (b ++ 10 ∷ join_with_byte 10 (next ∷ rest))) read.0
          ∙ sym (line_more (draft_lines draft) said (join_with_byte 10 (next ∷ rest)))
          ∙ ap (λ (ls : List Line). flat_map line_text ls ++ join_with_byte 10 (next ∷ rest)) (sym step.lines)
          ∙ more.0,
      more.1,
    )

pub reads_from_read : (text : List ℕ) (file : ImageFile) → file_read text ≡ Ok file → Reads text file
unfolding file_read
reads_from_read text file e =
    let found = found_from 1 Blank (pieces_of text) file tt (All-nil IsInRange) e in
    record { is = sym (join_with_byte-slice_split 10 text) ∙ found.0; ranges = found.1 }
