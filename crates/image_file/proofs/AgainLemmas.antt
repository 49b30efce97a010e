-- The text of a file in range reads as it, and so has one file and no fault.
use Rattle.std.proofs.Common.{◌≡◌, ◌⊎◌, ℕ, ◌+◌, ◌≤◌, ◌<◌, true, List, [], ◌∷◌, ◌++◌, length, map, Some, None, Result, Ok, Err, MatchResult, refl, sym, ap, ap₂, ◌∙◌, subst, inl, inr, arith, cond, append-nil, append_assoc, length-append}
use Rattle.std.proofs.lemmas.List.{Elements.All-head, Elements.All-tail, Sums.sum_by-append}
use Rattle.std.specs.Result.{result_err}
use Rattle.limits.specs.declared.TheConstants.{MAX_ARRAY}
use Rattle.text_lines.specs.Answers.{Answers, AnswersAs}
use Rattle.image_defs.specs.declared.image.{Work.Work, Work.TheVariants.Logic, Work.TheVariants.Array, Work.TheVariants.Host, PortImage.PortImage}
use Rattle.image_defs.specs.declared.file.{PortClaims.PortClaims, ImageFile.ImageFile}
use Rattle.image_lines.specs.{declared.line.Line.Line, Forms.is_within, Ranges.IsInRange}
use Rattle.image_lines.specs.declared.line.Line.TheVariants as line
use Rattle.image_file.specs.declared.draft.Draft.TheVariants.{Blank, Titled, Sized, Ended}
use Rattle.image_file.specs.Files.{all_port_lines, kind_of, sizes_of, file_lines, image_text, work_lines}
use Rattle.image_file.specs.Ranges.{bits_of, is_array, IsInRanges, Reads}
use Rattle.image_file.specs.Reading.{pieces_of, read_from, file_read, first_fault}
use Rattle.image_file.specs.{declared.refusal.ImageNo.ImageNo, declared.draft.Draft.Draft, Drafts.body_holds, Drafts.opened}
use Rattle.image_file.proofs.LeadLemmas.{Step, Leads, leads_on, leads_read, inside, port_leads}
use Rattle.image_file.proofs.{DraftLemmas.AreClosed, DraftLemmas.arrays_in, FoundLemmas.reads_from_read, RangeLemmas.closed_from}

-- a port with all its lines, behind others
abbrev full : ImageFile → List PortImage → List PortClaims → PortImage → PortClaims → Draft
full file ports claims port own =
    inside (sizes_of file.image) ports claims (record { port = port; items = own.items; bits = bits_of port.work })

middle : {X : Type 0} (xs : List X) (x : X) (ys whole : List X) → xs ++ x ∷ ys ≡ whole → length whole ≡ length xs + (1 + length ys)
middle xs x ys whole is = omega (arith, ap length is, length-append xs (x ∷ ys))

-- the head of the next port
next_leads : (file : ImageFile) (ports : List PortImage) (claims : List PortClaims) (port next : PortImage) (own : PortClaims) (others : List PortImage)
    → ports ++ port ∷ next ∷ others ≡ file.image.ports → arrays_in file.image.ports ≤ MAX_ARRAY
    → Step (full file ports claims port own) (line.Port (kind_of next.work)) (inside (sizes_of file.image) (ports ++ port ∷ []) (claims ++ own ∷ []) (opened (kind_of next.work)))
next_leads file ports claims port next own others is few = record {
  stands = grind (arith, middle ports port (next ∷ others) file.image.ports is);
  room = room next refl;
  gives = refl;
}
  where
    most : arrays_in (ports ++ port ∷ []) + arrays_in (next ∷ []) ≤ MAX_ARRAY
    most =
        let whole : arrays_in file.image.ports ≡ arrays_in (ports ++ port ∷ []) + arrays_in (next ∷ others) =
        ap arrays_in (sym is ∙ sym (append_assoc ports (port ∷ []) (next ∷ others))) ∙ sum_by-append (λ (p : PortImage). cond (is_array p.work) 1 0) (ports ++ port ∷ []) (next ∷ others) in
        let rest : arrays_in (next ∷ others) ≡ arrays_in (next ∷ []) + arrays_in others = sum_by-append (λ (p : PortImage). cond (is_array p.work) 1 0) (next ∷ []) others in
        omega (arith, few, whole, rest)

    room : (other : PortImage) → other ≡ next
        → body_holds (record { sizes = sizes_of file.image; ports = ports; claims = claims; current = record { port = port; items = own.items; bits = bits_of port.work } }) (line.Port (kind_of other.work)) ≡ true
    room other same = of other.work refl
      where
        of : (work : Work) → other.work ≡ work
            → body_holds (record { sizes = sizes_of file.image; ports = ports; claims = claims; current = record { port = port; items = own.items; bits = bits_of port.work } }) (line.Port (kind_of work)) ≡ true
        of (Logic tables tasks) is_work = refl
        of (Array blocks outs) is_work =
            let array : is_array next.work ≡ true = ap (λ (p : PortImage). is_array p.work) (sym same) ∙ ap is_array is_work in
            let one : arrays_in (next ∷ []) ≡ 1 = rw array refl in
            let less : arrays_in (ports ++ port ∷ []) < MAX_ARRAY = omega (arith, most, one) in
            grind (arith, less)
        of (Host inputs printed) is_work = refl

-- the ports behind one, and the end
rest_leads : (file : ImageFile) (ports : List PortImage) (claims : List PortClaims) (port : PortImage) (own : PortClaims) (others : List PortImage) (more : List PortClaims)
    → ports ++ port ∷ others ≡ file.image.ports → claims ++ own ∷ more ≡ file.claims.ports → AreClosed others more → arrays_in file.image.ports ≤ MAX_ARRAY
    → Leads (full file ports claims port own) (all_port_lines others more ++ line.End ∷ []) (Ended file)
rest_leads file ports claims port own [] [] is claimed closed few =
    let after : Draft = Ended (record { image = record file.image { ports = ports ++ port ∷ [] }; claims = record { ports = claims ++ own ∷ [] } }) in (
      after,
      (
        record { stands = grind (arith, middle ports port [] file.image.ports is); room = refl; gives = refl },
        ap₂ (λ (ps : List PortImage) (cs : List PortClaims). Ended (record { image = record file.image { ports = ps }; claims = record { ports = cs } })) is claimed,
      ),
    )
rest_leads file ports claims port own [] (claim ∷ more) is claimed closed few = absurd closed
rest_leads file ports claims port own (next ∷ others) [] is claimed closed few = absurd closed
rest_leads file ports claims port own (next ∷ others) (claim ∷ more) is claimed closed few =
    let begun = inside (sizes_of file.image) (ports ++ port ∷ []) (claims ++ own ∷ []) (opened (kind_of next.work)) in
    let lines = work_lines next.work claim.items ++ map line.Send next.outs ++ map line.Take next.ins in
    let later = rest_leads file (ports ++ port ∷ []) (claims ++ own ∷ []) next claim others more
    (append_assoc ports (port ∷ []) (next ∷ others) ∙ is) (append_assoc claims (own ∷ []) (claim ∷ more) ∙ claimed) closed.1 few in
    let behind = leads_on begun (full file (ports ++ port ∷ []) (claims ++ own ∷ []) next claim) (Ended file) lines (all_port_lines others more ++ line.End ∷ [])
    (port_leads (sizes_of file.image) (ports ++ port ∷ []) (claims ++ own ∷ []) next claim closed.0) later in (
      begun,
      (
        next_leads file ports claims port next own others is few,
        subst (λ (ls : List Line). Leads begun ls (Ended file)) (sym (append_assoc lines (all_port_lines others more) (line.End ∷ []))) behind,
      ),
    )

-- all ports, and the end
ports_lead : (file : ImageFile) (ports : List PortImage) (claims : List PortClaims) → ports ≡ file.image.ports → claims ≡ file.claims.ports
    → AreClosed ports claims → 1 ≤ length ports → arrays_in file.image.ports ≤ MAX_ARRAY
    → Leads (Sized (sizes_of file.image)) (all_port_lines ports claims ++ line.End ∷ []) (Ended file)
ports_lead file [] claims is claimed closed some few = absurd (omega (arith, some))
ports_lead file (port ∷ ports) [] is claimed closed some few = absurd closed
ports_lead file (port ∷ ports) (own ∷ claims) is claimed closed some few =
    let begun = inside (sizes_of file.image) [] [] (opened (kind_of port.work)) in
    let lines = work_lines port.work own.items ++ map line.Send port.outs ++ map line.Take port.ins in
    let behind = leads_on begun (full file [] [] port own) (Ended file) lines (all_port_lines ports claims ++ line.End ∷ [])
    (port_leads (sizes_of file.image) [] [] port own closed.0) (rest_leads file [] [] port own ports claims is claimed closed.1 few) in (
      begun,
      (
        record { stands = refl; room = refl; gives = refl },
        subst (λ (ls : List Line). Leads begun ls (Ended file)) (sym (append_assoc lines (all_port_lines ports claims) (line.End ∷ []))) behind,
      ),
    )

file_leads : (file : ImageFile) → IsInRanges file → Leads Blank (file_lines file) (Ended file)
file_leads file is =
    let tail = all_port_lines file.image.ports file.claims.ports ++ line.End ∷ [] in
    let head = All-head IsInRange (line.Head (sizes_of file.image)) tail (All-tail IsInRange line.Version (line.Head (sizes_of file.image) ∷ tail) is.lines) in
    let some = some_ports file head.within in (
      Titled,
      (
        record { stands = refl; room = refl; gives = refl },
        (
          Sized (sizes_of file.image),
          (
            record { stands = refl; room = refl; gives = refl },
            ports_lead file file.image.ports file.claims.ports refl refl (closed_from file is) some is.arrays,
          ),
        ),
      ),
    )
  where
    some_ports : (file : ImageFile) → is_within (line.Head (sizes_of file.image)) ≡ true → 1 ≤ length file.image.ports
    some_ports file within = grind (arith, within)

pub read_from_reads : (text : List ℕ) (file : ImageFile) → Reads text file → file_read text ≡ Ok file
unfolding file_read read_from image_text
read_from_reads text file reads =
    let read = leads_read 1 Blank (Ended file) (file_lines file) [] (file_leads file reads.ranges) reads.ranges.lines in
    ap (λ (t : List ℕ). read_from 1 Blank (pieces_of t)) (reads.is ∙ sym (append-nil (image_text file))) ∙ read.1

-- ---- the laws of a reader

same_ok : (file other : ImageFile) → ◌≡◌ {A = Result ImageFile ImageNo} (Ok file) (Ok other) → file ≡ other
same_ok file other e = cc

no_fault_ok : (file : ImageFile) (why : ImageNo) → ◌≡◌ {A = Result ImageFile ImageNo} (Err why) (Ok file) → ⊥
no_fault_ok file why e = cc

pub one_file : (text : List ℕ) (file other : ImageFile) → Reads text file → Reads text other → file ≡ other
one_file text file other reads too = same_ok file other (sym (read_from_reads text file reads) ∙ read_from_reads text other too)

pub none_from_reads : (text : List ℕ) (file : ImageFile) → Reads text file → first_fault text ≡ None
none_from_reads text file reads = ap result_err (read_from_reads text file reads)

pub reads_or_fault : (text : List ℕ) → ((file : ImageFile) × Reads text file) ⊎ ((why : ImageNo) × (first_fault text ≡ Some why))
reads_or_fault text = of (file_read text) refl
  where
    of : (r : Result ImageFile ImageNo) → file_read text ≡ r → ((file : ImageFile) × Reads text file) ⊎ ((why : ImageNo) × (first_fault text ≡ Some why))
    of (Ok file) is = inl (file, reads_from_read text file is)
    of (Err why) is = inr (why, ap result_err is)

-- a text that reads as a file has it alone, and what has a fault reads as none
pub answers_from : (lack : ImageNo) (text : List ℕ) (result : Result ImageFile ImageNo) → AnswersAs lack result (file_read text)
    → Answers lack result (first_fault text) (Reads text)
answers_from lack text (Ok file) is = (ap result_err is, reads_from_read text file is)
answers_from lack text (Err why) (inl none) = inl none
answers_from lack text (Err why) (inr is) = inr (ap result_err is)

pub only_from : (lack : ImageNo) (text : List ℕ) (result : Result ImageFile ImageNo) (file : ImageFile) → AnswersAs lack result (file_read text) → Reads text file
    → (first_fault text ≡ None) × MatchResult result (λ read. read ≡ file) (λ e. e ≡ lack)
only_from lack text result file answers reads = (none_from_reads text file reads, of result answers)
  where
    of : (r : Result ImageFile ImageNo) → AnswersAs lack r (file_read text) → MatchResult r (λ read. read ≡ file) (λ e. e ≡ lack)
    of (Ok read) is = one_file text read file (reads_from_read text read is) reads
    of (Err why) (inl none) = none
    of (Err why) (inr is) = absurd (no_fault_ok file why (sym is ∙ read_from_reads text file reads))
