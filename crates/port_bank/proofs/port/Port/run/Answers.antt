use Rattle.std.proofs.Common.{◌≡◌, ◌∙◌, get_or, ap, refl, arith}
use Rattle.image_defs.specs.Ports.{CanExecute, after_execute, lane_port, value_in}
use Rattle.port_bank.proofs.{lemmas.LaneLemmas.in_each, lemmas.LaneLemmas.in_lane, ItemLemmas.can_execute, ItemLemmas.last_executed}
use Rattle.port_bank.specs.Runs.{CanRun, IsLastValue}
use Rattle.port_bank.proofs.port.Port.run.Goals as goal

pub items-init : goal.items-init
items-init g c =
    let can = in_lane g.W.Word.lanes (λ l. CanRun (lane_port g.W.Word.stimulus l (g.Self.Port.seen c.args.self.now)) c.args.slots.now c.args.from c.args.to) c.requires.can 0 g.met.W.Word.some in
    record {
      run = ap (λ n. record (g.Self.Port.seen c.args.self.now) { executed = n }) can.from_is;
      last = c.requires.last;
      rows = refl;
    }

pub bounds-slots-i : goal.bounds-slots-i
bounds-slots-i g c =
    let can = in_lane g.W.Word.lanes (λ l. CanRun (lane_port g.W.Word.stimulus l (g.Self.Port.seen c.args.self.now)) c.args.slots.now c.args.from c.args.to) c.requires.can 0 g.met.W.Word.some in
    omega (arith, c.items-test.true, can.within)

pub returns-clause-run : goal.returns-clause-run
returns-clause-run g c =
    let can = in_lane g.W.Word.lanes (λ l. CanRun (lane_port g.W.Word.stimulus l (g.Self.Port.seen c.args.self.now)) c.args.slots.now c.args.from c.args.to) c.requires.can 0 g.met.W.Word.some in
    let ended : c.items.i ≡ c.args.to = omega (arith, c.items.auto.i-end can.order, c.items-test.false) in
    c.items.invariant.run ∙ ap (λ n. record (g.Self.Port.seen c.args.self.now) { executed = n }) ended

pub returns-clause-last : goal.returns-clause-last
returns-clause-last g c = c.items.invariant.last

pub execute-word-requires : goal.execute-word-requires
execute-word-requires g c =
    let slots = c.args.slots.now in
    in_each g.W.Word.lanes (λ l. CanExecute (lane_port g.W.Word.stimulus l (g.Self.Port.seen c.items.self)) (get_or slots c.items.i 0)) (λ l low.
    can_execute (lane_port g.W.Word.stimulus l (g.Self.Port.seen c.args.self.now)) slots c.args.from c.args.to
    (in_lane g.W.Word.lanes (λ l. CanRun (lane_port g.W.Word.stimulus l (g.Self.Port.seen c.args.self.now)) slots c.args.from c.args.to) c.requires.can l low)
    (lane_port g.W.Word.stimulus l (g.Self.Port.seen c.items.self)) c.items.i (ap (lane_port g.W.Word.stimulus l) c.items.invariant.run) c.items-test.true)

pub items-preserved : goal.items-preserved
items-preserved g c =
    let slots = c.args.slots.now in
    let old = g.Self.Port.seen c.args.self.now in
    let now = g.Self.Port.seen c.items.self in
    let new = g.Self.Port.seen c.execute-word.new.self in
    record {
      run = c.execute-word.ensures.view ∙ ap after_execute c.items.invariant.run;
      last = in_each g.W.Word.lanes (λ l. IsLastValue (lane_port g.W.Word.stimulus l new) (g.W.Word.lane c.execute-word.result l)) (λ l low.
          last_executed (lane_port g.W.Word.stimulus l old) slots c.args.from c.args.to
          (in_lane g.W.Word.lanes (λ l. CanRun (lane_port g.W.Word.stimulus l old) slots c.args.from c.args.to) c.requires.can l low)
          (lane_port g.W.Word.stimulus l now) c.items.i (ap (lane_port g.W.Word.stimulus l) c.items.invariant.run) c.items-test.true
          (lane_port g.W.Word.stimulus l new) (g.W.Word.lane c.execute-word.result l) (ap (lane_port g.W.Word.stimulus l) c.execute-word.ensures.view)
          (in_lane g.W.Word.lanes (λ l. g.W.Word.lane c.execute-word.result l ≡ value_in (lane_port g.W.Word.stimulus l now) (get_or slots c.items.i 0)) c.execute-word.ensures.value l low));
      rows = c.execute-word.ensures.rows ∙ c.items.invariant.rows;
    }
