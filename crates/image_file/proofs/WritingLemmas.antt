-- Lines written one after the other.
use Rattle.std.proofs.Common.{◌≡◌, ℕ, List, [], ◌∷◌, ◌++◌, map, refl, sym, ap, ap₂, ◌∙◌, ⊎_elim, append-nil, append_assoc}
use Rattle.std.proofs.{iter.Yields.fronts, lemmas.Iterator.zips, lemmas.Slice.Zip.Zip-more, lemmas.Slice.Zip.either_empty_from_Zip}
use Rattle.std.proofs.lemmas.{Grind.flat_map-append, List.Folds.flat_map-map}
use Rattle.std.specs.{Borrow.Bor, Iterator.Adapters.zip_first, Iterator.Adapters.zip_second, List.flat_map, List.zip}
use Rattle.std.specs.{Prelude.Option, Prelude.Some, Prelude.None, Slice.Iter.iter_rest, declared.iter.Zip.Zip, declared.slice.Iter.Iter}
use Rattle.func_table.specs.declared.Table.{Table}
use Rattle.image_defs.specs.declared.image.{Source.Source, Task.Task, BlockWork.BlockWork, OutBit.OutBit, InColumn.InColumn}
use Rattle.image_defs.specs.declared.image.{Work.TheVariants.Logic, Work.TheVariants.Array, Work.TheVariants.Host, PortImage.PortImage}
use Rattle.image_defs.specs.declared.file.{PortClaims.PortClaims, ImageFile.ImageFile}
use Rattle.image_lines.specs.{declared.line.Line.Line, Words.line_text}
use Rattle.image_lines.specs.declared.line.Line.TheVariants as line
use Rattle.image_file.specs.Files.{work_lines, port_lines, all_port_lines, kind_of, sizes_of, image_text}

no_pairs : {X Y : Type 0} (xs : List X) (none : List Y) → none ≡ [] → zip xs none ≡ []
no_pairs [] none is = refl
no_pairs (x ∷ xs) [] is = refl
no_pairs (x ∷ xs) (y ∷ ys) is = cc

-- what is written, before what f says of the pairs that are left, is what it says of all, behind the text before
abbrev pub WritesOn : {X Y : Type 0} → (X × Y → List ℕ) → List ℕ → List X → List Y → Zip (Iter X) (Iter Y) → List ℕ → Type 0
WritesOn f old xs ys left text = text ++ flat_map f (zip (iter_rest (zip_first left)) (iter_rest (zip_second left))) ≡ old ++ flat_map f (zip xs ys)

module _ {X Y : Type 0} (f : X × Y → List ℕ) (text : List ℕ) (left later : Zip (Iter X) (Iter Y)) (next : Option (Bor X × Bor Y)) (steps : zips fronts fronts left next later) (whole : List ℕ) (so : text ++ flat_map f (zip (iter_rest (zip_first left)) (iter_rest (zip_second left))) ≡ whole) where
  pub pair_more : (p : Bor X × Bor Y) → next ≡ Some p → (text ++ f (p.0.now, p.1.now)) ++ flat_map f (zip (iter_rest (zip_first later)) (iter_rest (zip_second later))) ≡ whole
  pair_more p is =
      let more = Zip-more left later next p is steps in
      append_assoc text (f (p.0.now, p.1.now)) (flat_map f (zip (iter_rest (zip_first later)) (iter_rest (zip_second later)))) ∙ (rw (more.0, more.1) at so)

  pub pairs_end : next ≡ None → text ≡ whole
  pairs_end is =
      let firsts = iter_rest (zip_first left) in
      let seconds = iter_rest (zip_second left) in
      let none = ⊎_elim (λ e. ap (λ zs. zip zs seconds) e) (λ e. no_pairs firsts seconds e) (either_empty_from_Zip left later next is steps) in
      sym (append-nil text) ∙ ap (λ ps. text ++ flat_map f ps) (sym none) ∙ so

-- lines of two kinds
both_texts : {A B : Type 0} (f : A → Line) (g : B → Line) (old : List ℕ) (xs : List A) (ys : List B)
    → old ++ flat_map (λ x. line_text (f x)) xs ++ flat_map (λ y. line_text (g y)) ys ≡ old ++ flat_map line_text (map f xs ++ map g ys)
both_texts f g old xs ys =
    append_assoc old (flat_map (λ x. line_text (f x)) xs) (flat_map (λ y. line_text (g y)) ys)
    ∙ ap (λ text. old ++ text)
    (ap₂ (λ text rest. text ++ rest) (sym (flat_map-map line_text f xs)) (sym (flat_map-map line_text g ys)) ∙ sym (flat_map-append line_text (map f xs) (map g ys)))

pub logic_text : (old : List ℕ) (tables : List Table) (tasks : List Task) (items : List ℕ)
    → old ++ flat_map (λ table. line_text (line.Table table)) tables ++ flat_map (λ x. line_text (line.Work x.0 x.1)) (zip tasks items) ≡ old ++ flat_map line_text (work_lines (Logic tables tasks) items)
logic_text old tables tasks items = both_texts line.Table (λ (x : Task × ℕ). line.Work x.0 x.1) old tables (zip tasks items)

pub array_text : (old : List ℕ) (blocks : List BlockWork) (outs : List OutBit) (items : List ℕ)
    → old ++ flat_map (λ block. line_text (line.Block block)) blocks ++ flat_map (λ x. line_text (line.Bit x.0 x.1)) (zip outs items) ≡ old ++ flat_map line_text (work_lines (Array blocks outs) items)
array_text old blocks outs items = both_texts line.Block (λ (x : OutBit × ℕ). line.Bit x.0 x.1) old blocks (zip outs items)

pub host_text : (old : List ℕ) (inputs : List InColumn) (printed : List Source) (items : List ℕ)
    → old ++ flat_map (λ x. line_text (line.Input x.0 x.1)) (zip inputs items) ++ flat_map (λ source. line_text (line.Print source)) printed ≡ old ++ flat_map line_text (work_lines (Host inputs printed) items)
host_text old inputs printed items = both_texts (λ (x : InColumn × ℕ). line.Input x.0 x.1) line.Print old (zip inputs items) printed

pub port_text : (old : List ℕ) (port : PortImage) (items : List ℕ)
    → old ++ line_text (line.Port (kind_of port.work)) ++ flat_map line_text (work_lines port.work items) ++ flat_map (λ link. line_text (line.Send link)) port.outs ++ flat_map (λ link. line_text (line.Take link)) port.ins
    ≡ old ++ flat_map line_text (port_lines port items)
port_text old port items =
    let head = line_text (line.Port (kind_of port.work)) in
    let work = work_lines port.work items in
    both_texts line.Send line.Take (old ++ head ++ flat_map line_text work) port.outs port.ins
    ∙ append_assoc (old ++ head) (flat_map line_text work) (flat_map line_text (map line.Send port.outs ++ map line.Take port.ins))
    ∙ ap (λ text. old ++ head ++ text) (sym (flat_map-append line_text work (map line.Send port.outs ++ map line.Take port.ins)) ∙ ap (flat_map line_text) (sym (append_assoc work (map line.Send port.outs) (map line.Take port.ins))))
    ∙ append_assoc old head (flat_map line_text (work ++ map line.Send port.outs ++ map line.Take port.ins))

each_text : {X : Type 0} (lines : X → List Line) (xs : List X) → flat_map line_text (flat_map lines xs) ≡ flat_map (λ x. flat_map line_text (lines x)) xs
each_text lines [] = refl
each_text lines (x ∷ xs) = flat_map-append line_text (lines x) (flat_map lines xs) ∙ ap (λ text. flat_map line_text (lines x) ++ text) (each_text lines xs)

pub file_text : (file : ImageFile)
    → [] ++ line_text line.Version ++ line_text (line.Head (sizes_of file.image)) ++ flat_map (λ x. flat_map line_text (port_lines x.0 x.1.items)) (zip file.image.ports file.claims.ports) ++ line_text line.End ≡ image_text file
unfolding image_text
file_text file =
    let ports = zip file.image.ports file.claims.ports in
    let first = line_text line.Version in
    let second = line_text (line.Head (sizes_of file.image)) in
    let all = all_port_lines file.image.ports file.claims.ports in
    let body : flat_map (λ x. flat_map line_text (port_lines x.0 x.1.items)) ports ++ line_text line.End ≡ flat_map line_text (all ++ line.End ∷ []) =
    ap₂ (λ text last. text ++ last) (sym (each_text (λ (x : PortImage × PortClaims). port_lines x.0 x.1.items) ports)) (sym (append-nil (line_text line.End)))
    ∙ sym (flat_map-append line_text all (line.End ∷ [])) in
    append_assoc (first ++ second) (flat_map (λ x. flat_map line_text (port_lines x.0 x.1.items)) ports) (line_text line.End)
    ∙ ap (λ text. first ++ second ++ text) body
    ∙ append_assoc first second (flat_map line_text (all ++ line.End ∷ []))
