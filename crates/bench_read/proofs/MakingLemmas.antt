-- The netlist of lines, made one line after another.
use Rattle.std.proofs.Common.{◌≡◌, ℕ, ◌+◌, ◌≤◌, List, [], ◌∷◌, ◌++◌, append_assoc, append-nil, length, take, drop, take_at, sym, ap, ◌∙◌, subst, refl, arith, length-append}
use Rattle.std.proofs.Math.Seq.{take-append_seam, drop-append_seam}
use Rattle.bench_read.proofs.Common.{flat_map, range_with_len, map-append, length-map, drop_at, Netlist, AreOnce}
use Rattle.bench_read.proofs.MadeLemmas.{names_from, others_names, signal_names, made_operands, memories-le}
use Rattle.bench_read.proofs.NumberLemmas.{names_once, numbers_range}
use Rattle.bench_read.specs.Lines.{Line, Memory, used, all_driven, all_used, operand_count}
use Rattle.bench_read.specs.Netlists.{other_names, names_of, number, numbers, memory_count, other_signals, printed_names, memories_by, netlist_of}
use Rattle.bench_read.specs.code.Making.{with_line}

-- the netlist with all that lines make beside inputs
abbrev pub with_lines : List (List ℕ) → Netlist → List Line → Netlist
with_lines names net lines = record {
  signals = net.signals ++ other_signals names (length net.blocks) lines;
  printed = net.printed ++ numbers names (flat_map printed_names lines);
  blocks = net.blocks ++ flat_map (memories_by names) lines;
}

-- with one line
line_made : (names : List (List ℕ)) (net : Netlist) (line : Line) → numbers names (other_names line) ≡ range_with_len (length net.signals) (length (other_names line))
    → with_line net line (numbers names (used line)) ≡ with_lines names net (line ∷ [])
unfolding other_signals
line_made names net (Memory o enable address words) outs =
    let same = length-map address (number names) in
    simp (map-append, take_at (numbers names address) (numbers names words) (length address) same, drop_at (numbers names address) (numbers names words) (length address) same, sym outs, append-nil) refl
line_made names net line outs = simp append-nil refl

pub counted : (names : List (List ℕ)) (net : Netlist) (line : Line) → length (with_lines names net (line ∷ [])).blocks ≡ length net.blocks + memory_count line
counted names net (Memory outs enable address words) = length-append net.blocks _
counted names net line = length-append net.blocks []

-- the numbers of the uses of a line, before those of the lines after it
pub uses_split : (names : List (List ℕ)) (line : Line) (left : List Line) (uses : List ℕ) (n : ℕ) → n ≡ length (used line) → uses ≡ numbers names (all_used (line ∷ left))
    → (take n uses ≡ numbers names (used line)) × (drop n uses ≡ numbers names (all_used left)) × (n ≤ length uses)
unfolding all_used
uses_split names line left uses n is are =
    let count : n ≡ length (numbers names (used line)) = is ∙ sym (length-map (used line) (number names)) in
    rw (are, count) (simp (map-append, take-append_seam, drop-append_seam, length-append) (refl, refl, omega arith))

-- with what the lines that are left make, the netlist is that of all lines
pub record IsMaking (lines left : List Line) (net : Netlist) : Type 0 where
  pub whole : with_lines (names_of lines) net left ≡ netlist_of lines

pub few_memories : {lines left : List Line} {net : Netlist} → IsMaking lines left net → length net.blocks ≤ operand_count lines
few_memories {lines} {left} {net} made =
    omega (arith, simp length-append at (ap (λ (n : Netlist). length n.blocks) made.whole), memories-le (netlist_of lines).blocks, made_operands lines)

module _ {lines left : List Line} {line : Line} {net : Netlist} (made : IsMaking lines (line ∷ left) net) where
  abbrev names : List (List ℕ)
  names = names_of lines

  pub named : names_from net.signals ++ (other_names line ++ flat_map other_names left) ≡ names
  named = simp (map-append, others_names) at (ap (λ (n : Netlist). names_from n.signals) made.whole ∙ signal_names lines)

  -- the names that it drives beside inputs are numbered side by side
  pub neighbours : AreOnce (all_driven lines) → numbers names (other_names line) ≡ range_with_len (length net.signals) (length (other_names line))
  neighbours once = simp length-map at (numbers_range names (names_from net.signals) (other_names line) (flat_map other_names left) (names_once lines once) (sym named))

  pub making_next : IsMaking lines left (with_lines names net (line ∷ []))
  unfolding other_signals
  making_next = record { whole = simp (append_assoc, map-append, counted) (simp map-append at made.whole) }

  pub making_more : (uses : List ℕ) → AreOnce (all_driven lines) → uses ≡ numbers names (used line) → IsMaking lines left (with_line net line uses)
  making_more uses once are = subst (IsMaking lines left) (sym (ap (with_line net line) are ∙ line_made names net line (neighbours once))) making_next
