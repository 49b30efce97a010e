use Rattle.std.proofs.Common.{◌≡◌, ◌<◌, ℕ, get_or, map, length}
use Rattle.logic_four.specs.declared.V4.TheVariants.{Undef}
use Rattle.port_array.specs.code.Acts.{past_of}
use Rattle.image_defs.specs.Ports.{lane_port}
use Rattle.port_array.proofs.memory.fill.Given as goal

abbrev pub invariant-sources : goal.invariant-sources
invariant-sources g l = record {
  long : length l.room ≡ length l.sources;
  filled : (j : ℕ) → j < l.i → get_or l.room j Undef ≡ get_or (map (past_of (lane_port g.W.Word.stimulus l.k l.bank)) l.sources) j Undef;
}
