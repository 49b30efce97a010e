use Rattle.std.proofs.Common.{rules}
use Rattle.call_steps.proofs.sizes.few_signals.Goals as goal

pub returns-then-signals-gt-MAX_FAULT_SIGNALS : goal.returns-then-signals-gt-MAX_FAULT_SIGNALS
returns-then-signals-gt-MAX_FAULT_SIGNALS c = search rules
