-- The canonical text of a netlist is the text of its lines.
use Rattle.std.proofs.Common.{◌≡◌, ℕ, zero, suc, List, [], ◌∷◌, ◌++◌, slice_get, Option, Some, None, sym, ◌∙◌, refl, append-nil, append_assoc, arith}
use Rattle.std.proofs.lemmas.List.Folds.{flat_map-map}
use Rattle.bench_read.proofs.Common.{ne_eqb, codes, flat_map, flat_map-append, Netlist, Block, Driver, Piece, commas, listed, spelled, Line}
use Rattle.net_defs.specs.declared.netlist.Driver.TheVariants.{Input, Gate, Dff, BlockBit}
use Rattle.net_defs.specs.Canonical.{name_of, names_of, input_line, output_line, gate_line, memory_line, memory_line_at, driver_line, canonical_text}
use Rattle.bench_read.specs.Lines as lines
use Rattle.bench_read.specs.Written.{written_piece, written, text_of_lines, lines_of, some_of, form_by, names_at, input_line as input_lines, memory_line as memory_lines, driver_line as driver_lines}

-- pieces as they are written, with the line end
abbrev line_text : List Piece → List ℕ
line_text pieces = flat_map written_piece pieces ++ codes "\n"

abbrev text_of : Line → List ℕ
text_of line = line_text (spelled (form_by line))

-- names with a comma before each, before the rest of a line
commas_onto : (net : Netlist) (signals : List ℕ) (rest : List Piece) → line_text (commas (names_at net signals) ++ rest) ≡ flat_map (λ t. codes ", " ++ name_of net t) signals ++ line_text rest
commas_onto net [] rest = refl
commas_onto net (t ∷ signals) rest = simp (commas_onto net signals rest, append_assoc) refl

-- names before the rest of a line
names_onto : (net : Netlist) (signals : List ℕ) (rest : List Piece) → line_text (listed (some_of (names_at net signals)) ++ rest) ≡ names_of net signals ++ line_text rest
names_onto net [] rest = refl
names_onto net (s ∷ signals) rest = simp (commas_onto net signals rest, append_assoc) refl

-- ---- lines

-- the line of an input
input_text : (name : List ℕ) (driver : Driver) → flat_map text_of (input_lines (record { name = name; driver = driver })) ≡ input_line (record { name = name; driver = driver })
unfolding input_line
input_text name Input = simp (append_assoc, append-nil) refl
input_text name driver = refl

-- the line of a memory given by its number
memory_text : (net : Netlist) (m : ℕ) (o : Option Block) → slice_get net.blocks m ≡ o → flat_map text_of (memory_lines net (slice_get net.blocks m)) ≡ memory_line_at net m
unfolding memory_line
memory_text net m None is = rw is refl
memory_text net m (Some memory) is = rw is (simp (names_onto, append_assoc, append-nil) refl)

-- the line that drives a signal
driver_text : (net : Netlist) (name : List ℕ) (driver : Driver) → flat_map text_of (driver_lines net (record { name = name; driver = driver })) ≡ driver_line net (record { name = name; driver = driver })
unfolding driver_line gate_line
driver_text net name Input = refl
driver_text net name (Gate kind ops) = simp (names_onto, append_assoc, append-nil) refl
driver_text net name (Dff op) = simp (append_assoc, append-nil) refl
driver_text net name (BlockBit m zero) = memory_text net m (slice_get net.blocks m) refl
driver_text net name (BlockBit m (suc bit)) = rw (ne_eqb (suc bit) 0 (λ e. omega (arith, e))) refl

-- ---- all lines

-- the lines that each member has, one member after another
flat_lines : {X : Type 0} (each : X → List Line) (text : X → List ℕ) → ((x : X) → flat_map text_of (each x) ≡ text x) → (xs : List X) → flat_map text_of (flat_map each xs) ≡ flat_map text xs
flat_lines each text same [] = refl
flat_lines each text same (x ∷ xs) = flat_map-append text_of (each x) (flat_map each xs) ∙ (λ k. same x k ++ flat_lines each text same xs k)

-- the canonical text is the text of its lines
pub canonical_is_written : (net : Netlist) → canonical_text net ≡ text_of_lines (lines_of net)
unfolding lines_of text_of_lines written output_line
canonical_is_written net =
    let inputs = flat_lines input_lines input_line (λ signal. input_text signal.name signal.driver) net.signals in
    let output : (s : ℕ) → text_of (lines.Output (name_of net s)) ≡ output_line net s = λ s. simp append_assoc refl in
    let outputs = flat_map-map text_of (λ s. lines.Output (name_of net s)) net.printed ∙ (λ k. flat_map (λ s. output s k) net.printed) in
    let drivers = flat_lines (driver_lines net) (driver_line net) (λ signal. driver_text net signal.name signal.driver) net.signals in
    sym (simp (flat_map-append, inputs, outputs, drivers) refl)
