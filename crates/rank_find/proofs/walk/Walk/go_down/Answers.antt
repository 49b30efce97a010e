use Rattle.rank_find.proofs.RunLemmas.{root_entered, root_reached}
use Rattle.rank_find.proofs.walk.Walk.go_down.Goals as goal

pub loop-gate-init : goal.loop-gate-init
loop-gate-init c = record {
  walking = root_entered _ _ _ _ c.requires.idle c.requires.fresh _ c.in_ok-enter.ensures;
  reaches = root_reached _ _ _ _ c.requires.idle c.requires.fresh _ c.in_ok-enter.ensures;
}
