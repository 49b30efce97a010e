-- How lines lead from a text so far to another.
use Rattle.std.proofs.Common.{◌≡◌, ℕ, suc, ◌+◌, ◌≤◌, ◌<◌, true, List, [], ◌∷◌, ◌++◌, length, map, Ok, refl, sym, ap, ap₂, ◌∙◌, subst, All, arith, append-nil, append_assoc, length-append}
use Rattle.std.proofs.lemmas.List.{map-append, Elements.All-head, Elements.All-tail, Splits.slice_split_at}
use Rattle.std.proofs.lemmas.{List.Sums.sum_by-append, List.Sums.sum_by-cons, List.Sums.sum_by_push, Slice.Zip.firsts-zip, Slice.Zip.seconds-zip}
use Rattle.std.specs.List.{flat_map, zip, sum_by}
use Rattle.limits.specs.declared.TheConstants.{MAX_FUNCTIONS, MAX_ARRAY_BITS}
use Rattle.func_table.specs.declared.Table.{Table}
use Rattle.text_lines.specs.Bytes.{is_line_feed}
use Rattle.image_defs.specs.declared.image.{Source.Source, Task.Task, BlockWork.BlockWork, OutBit.OutBit, InColumn.InColumn, LinkOut.LinkOut, LinkIn.LinkIn}
use Rattle.image_defs.specs.declared.image.{Work.Work, Work.TheVariants.Logic, Work.TheVariants.Array, Work.TheVariants.Host, PortImage.PortImage}
use Rattle.image_defs.specs.declared.file.PortClaims.{PortClaims}
use Rattle.image_lines.specs.{declared.line.Sizes.Sizes, declared.line.Line.Line, Forms.line_read, Ranges.IsInRange, Words.line_text, Words.line_bytes}
use Rattle.image_lines.specs.declared.line.Line.TheVariants as line
use Rattle.image_lines.proofs.lemmas.LawLemmas.{read_again, line_lacks}
use Rattle.image_file.specs.Drafts.{may_stand, has_room, draft_with, opened}
use Rattle.image_file.specs.declared.draft.{OpenPort.OpenPort, Draft.Draft, Draft.TheVariants.Within}
use Rattle.image_file.specs.{Files.claimed, Files.work_lines, Files.kind_of, Ranges.bits_of, Ranges.block_bits}
use Rattle.image_file.specs.Reading.{pieces_of, after_line, read_from}
use Rattle.image_file.proofs.{DraftLemmas.IsClosed, ReadingLemmas.passes, WorkLemmas.claims_of_map}

pub record Step (draft : Draft) (said : Line) (after : Draft) : Type 0 where
  pub stands : may_stand draft said ≡ true
  pub room : has_room draft said ≡ true
  pub gives : draft_with draft said ≡ after

-- one line after the other
abbrev pub Leads : Draft → List Line → Draft → Type 0
Leads draft [] last = draft ≡ last
Leads draft (said ∷ lines) last = (after : Draft) × (Step draft said after × Leads after lines last)

pub leads_on : (draft middle last : Draft) (lines others : List Line) → Leads draft lines middle → Leads middle others last → Leads draft (lines ++ others) last
leads_on draft middle last [] others first second = subst (λ d. Leads d others last) (sym first) second
leads_on draft middle last (said ∷ lines) others first second = (first.0, (first.1.0, leads_on first.0 middle last lines others first.1.1 second))

-- lines that lead on are followed
pub leads_read : (n : ℕ) (draft last : Draft) (lines : List Line) (text : List ℕ) → Leads draft lines last → All IsInRange lines
    → (k : ℕ) × (read_from n draft (pieces_of (flat_map line_text lines ++ text)) ≡ read_from k last (pieces_of text))
leads_read n draft last [] text leads all = (n, ap (λ d. read_from n d (pieces_of text)) leads)
leads_read n draft last (said ∷ lines) text leads all =
    let after = leads.0 in
    let step = leads.1.0 in
    let is = All-head IsInRange said lines all in
    let more = leads_read (suc n) after last lines text leads.1.1 (All-tail IsInRange said lines all) in
    let behind = flat_map line_text lines ++ text in
    let whole : flat_map line_text (said ∷ lines) ++ text ≡ line_bytes said ++ 10 ∷ behind =
    append_assoc (line_text said) (flat_map line_text lines) text ∙ append_assoc (line_bytes said) (10 ∷ []) behind in
    let pieces : pieces_of (flat_map line_text (said ∷ lines) ++ text) ≡ line_bytes said ∷ pieces_of behind =
    ap pieces_of whole ∙ slice_split_at is_line_feed (line_bytes said) 10 behind (line_lacks said is) refl in
    (more.0, sym (passes n draft after (flat_map line_text (said ∷ lines) ++ text) (line_bytes said) behind pieces (followed_so n draft after said is step)) ∙ more.1)
  where
    followed_so : (n : ℕ) (draft after : Draft) (said : Line) → IsInRange said → Step draft said after → after_line n draft (line_read (line_bytes said)) ≡ Ok after
    followed_so n draft after said is step = rw (read_again said is, step.stands, step.room) (ap (λ (d : Draft). Ok d) step.gives)

-- ---- lines of one kind

lines_lead : {X : Type 0} (make : X → Line) (so_far : List X → Draft) (whole : List X)
    → ((front : List X) (x : X) (rest : List X) → front ++ x ∷ rest ≡ whole → Step (so_far front) (make x) (so_far (front ++ x ∷ [])))
    → (front xs : List X) → front ++ xs ≡ whole → Leads (so_far front) (map make xs) (so_far whole)
lines_lead make so_far whole step front [] is = ap so_far (sym (append-nil front) ∙ is)
lines_lead make so_far whole step front (x ∷ xs) is =
    (so_far (front ++ x ∷ []), (step front x xs is, lines_lead make so_far whole step (front ++ x ∷ []) xs (append_assoc front (x ∷ []) xs ∙ is)))

-- with their claims
claims_lead : {X : Type 0} (make : X → ℕ → Line) (so_far : List X → List ℕ → Draft)
    → ((front : List X) (items : List ℕ) (x : X) (item : ℕ) → Step (so_far front items) (make x item) (so_far (front ++ x ∷ []) (items ++ item ∷ [])))
    → (xs : List X) (items : List ℕ) → length items ≡ length xs → Leads (so_far [] []) (claimed make xs items) (so_far xs items)
claims_lead {X} make so_far step xs items same =
    subst (λ d. Leads (so_far [] []) (claimed make xs items) d) (ap₂ so_far (firsts-zip xs items same) (seconds-zip xs items same))
    (lines_lead (λ (p : X × ℕ). make p.0 p.1) (λ ps. so_far (firsts ps) (seconds ps)) (zip xs items) one [] (zip xs items) refl)
  where
    firsts : List (X × ℕ) → List X
    firsts ps = map (λ p. p.0) ps

    seconds : List (X × ℕ) → List ℕ
    seconds ps = map (λ p. p.1) ps

    one : (front : List (X × ℕ)) (p : X × ℕ) (rest : List (X × ℕ)) → front ++ p ∷ rest ≡ zip xs items
        → Step (so_far (firsts front) (seconds front)) (make p.0 p.1) (so_far (firsts (front ++ p ∷ [])) (seconds (front ++ p ∷ [])))
    one front p rest is =
        subst (λ d. Step (so_far (firsts front) (seconds front)) (make p.0 p.1) d)
        (ap₂ so_far (sym (map-append (λ (q : X × ℕ). q.0) front (p ∷ []))) (sym (map-append (λ (q : X × ℕ). q.1) front (p ∷ []))))
        (step (firsts front) (seconds front) p.0 p.1)

-- ---- a port

-- a port that is being read, behind others
abbrev pub inside : Sizes → List PortImage → List PortClaims → OpenPort → Draft
inside sizes ports claims current = Within (record { sizes = sizes; ports = ports; claims = claims; current = current })

abbrev pub worked : Work → List ℕ → ℕ → OpenPort
worked work items bits = record { port = record { work = work; outs = []; ins = [] }; items = items; bits = bits }

abbrev pub linked : Work → List ℕ → ℕ → List LinkOut → List LinkIn → OpenPort
linked work items bits outs ins = record { port = record { work = work; outs = outs; ins = ins }; items = items; bits = bits }

front_short : {X : Type 0} (front : List X) (x : X) (rest whole : List X) (most : ℕ) → front ++ x ∷ rest ≡ whole → length whole ≤ most → length front < most
front_short front x rest whole most is few = omega (arith, ap length is, length-append front (x ∷ rest), few)

work_leads : (sizes : Sizes) (ports : List PortImage) (claims : List PortClaims) (work : Work) (items : List ℕ) (outs : List LinkOut) (ins : List LinkIn)
    → IsClosed (record { work = work; outs = outs; ins = ins }) (record { items = items })
    → Leads (inside sizes ports claims (opened (kind_of work))) (work_lines work items) (inside sizes ports claims (worked work items (bits_of work)))
work_leads sizes ports claims (Logic tables tasks) items outs ins closed =
    leads_on _ (inside sizes ports claims (worked (Logic tables []) [] 0)) _ (map line.Table tables) (claimed line.Work tasks items)
    (lines_lead line.Table (λ (ts : List Table). inside sizes ports claims (worked (Logic ts []) [] 0)) tables one [] tables refl)
    (claims_lead line.Work (λ (ts : List Task) (is : List ℕ). inside sizes ports claims (worked (Logic tables ts) is 0))
    (λ front is x item. record { stands = refl; room = refl; gives = refl }) tasks items (claims_of_map _ items tasks closed.items))
  where
    one : (front : List Table) (x : Table) (rest : List Table) → front ++ x ∷ rest ≡ tables
        → Step (inside sizes ports claims (worked (Logic front []) [] 0)) (line.Table x) (inside sizes ports claims (worked (Logic (front ++ x ∷ []) []) [] 0))
    one front x rest is = record { stands = refl; room = grind (arith, front_short front x rest tables MAX_FUNCTIONS is closed.tables); gives = refl }
work_leads sizes ports claims (Array blocks outs) items sends ins closed =
    leads_on _ (inside sizes ports claims (worked (Array blocks []) [] (sum_by block_bits blocks))) _ (map line.Block blocks) (claimed line.Bit outs items)
    (lines_lead line.Block (λ (bs : List BlockWork). inside sizes ports claims (worked (Array bs []) [] (sum_by block_bits bs))) blocks one [] blocks refl)
    (claims_lead line.Bit (λ (bs : List OutBit) (is : List ℕ). inside sizes ports claims (worked (Array blocks bs) is (sum_by block_bits blocks)))
    (λ front is x item. record { stands = refl; room = refl; gives = refl }) outs items (claims_of_map _ items outs closed.items))
  where
    one : (front : List BlockWork) (x : BlockWork) (rest : List BlockWork) → front ++ x ∷ rest ≡ blocks
        → Step (inside sizes ports claims (worked (Array front []) [] (sum_by block_bits front))) (line.Block x) (inside sizes ports claims (worked (Array (front ++ x ∷ []) []) [] (sum_by block_bits (front ++ x ∷ []))))
    one front x rest is =
        let few : sum_by block_bits front + block_bits x ≤ MAX_ARRAY_BITS =
        omega (arith, closed.bits, ap (sum_by block_bits) is, sum_by-append block_bits front (x ∷ rest), sum_by-cons block_bits x rest) in
        record {
          stands = refl;
          room = grind (arith, few);
          gives = ap (λ (n : ℕ). inside sizes ports claims (worked (Array (front ++ x ∷ []) []) [] n)) (sym (sum_by_push block_bits front x));
        }
work_leads sizes ports claims (Host inputs printed) items outs ins closed =
    leads_on _ (inside sizes ports claims (worked (Host inputs []) items 0)) _ (claimed line.Input inputs items) (map line.Print printed)
    (claims_lead line.Input (λ (xs : List InColumn) (is : List ℕ). inside sizes ports claims (worked (Host xs []) is 0))
    (λ front is x item. record { stands = refl; room = refl; gives = refl }) inputs items (claims_of_map _ items inputs closed.items))
    (lines_lead line.Print (λ (xs : List Source). inside sizes ports claims (worked (Host inputs xs) items 0)) printed
    (λ front x rest is. record { stands = refl; room = refl; gives = refl }) [] printed refl)

pub port_leads : (sizes : Sizes) (ports : List PortImage) (claims : List PortClaims) (port : PortImage) (own : PortClaims) → IsClosed port own
    → Leads (inside sizes ports claims (opened (kind_of port.work))) (work_lines port.work own.items ++ map line.Send port.outs ++ map line.Take port.ins)
    (inside sizes ports claims (record { port = port; items = own.items; bits = bits_of port.work }))
port_leads sizes ports claims port own closed =
    leads_on _ (inside sizes ports claims (linked port.work own.items (bits_of port.work) port.outs [])) _ (work_lines port.work own.items ++ map line.Send port.outs) (map line.Take port.ins)
    (leads_on _ (inside sizes ports claims (worked port.work own.items (bits_of port.work))) _ (work_lines port.work own.items) (map line.Send port.outs)
    (work_leads sizes ports claims port.work own.items port.outs port.ins closed)
    (lines_lead line.Send (λ (ls : List LinkOut). inside sizes ports claims (linked port.work own.items (bits_of port.work) ls [])) port.outs
    (λ front x rest is. record { stands = refl; room = refl; gives = refl }) [] port.outs refl))
    (lines_lead line.Take (λ (ls : List LinkIn). inside sizes ports claims (linked port.work own.items (bits_of port.work) port.outs ls)) port.ins
    (λ front x rest is. record { stands = refl; room = refl; gives = refl }) [] port.ins refl)
