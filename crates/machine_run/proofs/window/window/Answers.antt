use Rattle.std.proofs.Common.{ap, ap₂, ◌+◌, ◌∙◌}
use Rattle.machine_run.specs.Blocks.{block_cycles}
use Rattle.machine_run.proofs.WindowLemmas.{block_capped}
use Rattle.machine_run.proofs.window.window.Goals as goal

pub returns : goal.returns
returns c = c.block_cycles.ensures ∙ (ap block_cycles c.saturating_add.ensures ∙ (block_capped (c.from.result + c.args.printed) ∙ ap block_cycles (ap₂ (λ a b. a + b) c.from.ensures c.requires)))
