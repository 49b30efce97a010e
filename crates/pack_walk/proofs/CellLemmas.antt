-- The cells that are printed, in each lane.
use Rattle.std.proofs.Common.{◌≡◌, ◌∙◌, ℕ, ◌+◌, ◌<◌, ◌≤◌, List, length, get_or, set, sym, subst, refl, arith}
use Rattle.std.proofs.lemmas.List.{length-map, length-set, map-set, get_or-map}
use Rattle.limits.specs.declared.TheConstants.{LANES}
use Rattle.logic_four.specs.{declared.V4.V4, declared.V4.TheVariants.Undef, Values.value_at}
use Rattle.lane_planes.specs.{declared.planes.Planes.Planes, Lanes.lane_of}
use Rattle.image_defs.specs.declared.image.Source.{Source}
use Rattle.port_bank.specs.{Reads.IsTaken, Packed.PackPortView, Packed.lane_port}
use Rattle.port_host.specs.code.Rows.{HasPrinted}
use Rattle.port_host.proofs.RowLemmas.{printed_more}
use Rattle.pack_walk.specs.{Cells.in_lane, code.Cells.HasPrintedAll}

-- no cell is printed
pub none_printed : (view : PackPortView) (sources : List Source) (start : ℕ) (cells : List Planes) → HasPrintedAll view sources 0 start cells cells
none_printed view sources start cells = record {
  long = refl;
  lanes = λ l low. record { long = refl; printed = λ j source none there. absurd (omega (arith, none)); before = λ k less. refl };
}

-- one source more
pub printed_all : (view : PackPortView) (sources : List Source) (j start : ℕ) (d : Source) (p : Planes) (old cells : List Planes) → j < length sources → start + length sources ≤ length old
    → HasPrintedAll view sources j start old cells → ((l : ℕ) → l < LANES → IsTaken (lane_port l view) (get_or sources j d) (lane_of p l)) → HasPrintedAll view sources (j + 1) start old (set cells (start + j) p)
printed_all view sources j start d p old cells low room has taken = record {
  long = length-set cells (start + j) p ∙ has.long;
  lanes = λ l few.
      subst (HasPrinted (lane_port l view) sources (j + 1) start (in_lane l old)) (sym (map-set (λ (q : Planes). lane_of q l) cells (start + j) p))
      (printed_more (lane_port l view) sources j start d (lane_of p l) (in_lane l old) (in_lane l cells) low (omega (arith, room, length-map old (λ (q : Planes). lane_of q l))) (has.lanes l few) (taken l few));
}

-- a cell
pub cell_is : (cells : List Planes) (place l : ℕ) (d : Planes) (v : V4) → place < length cells → v ≡ lane_of (get_or cells place d) l → v ≡ value_at (in_lane l cells) place
cell_is cells place l d v within is = is ∙ sym (get_or-map (λ (q : Planes). lane_of q l) cells place d Undef within)
