-- Nodes that get their ports in turn.
use Rattle.std.proofs.Common.{◌≡◌, ◌≢◌, ◌∙◌, ◌⊎◌, inl, inr, ℕ, suc, ◌+◌, ◌-◌, ◌%◌, ◌<◌, ◌≤◌, List, [], ◌∷◌, ◌++◌, length, get_or, set, replicate, take, refl, sym, ap, subst, arith, if◌then◌else◌}
use Rattle.std.proofs.lemmas.List.{get_or_append_left, get_or-set_same, get_or-set_other, length-set, get_or-replicate, length-replicate}
use Rattle.std.proofs.lemmas.List.Sums.{sum-map, sum_by-set, sum_by-cons, get_or-le-sum_by}
use Rattle.std.proofs.{Math.Nat.mod-add-mod, Math.Nat.mod-eq_of_lt, Math.Nat.add-mod_right, lemmas.Bool.cases_lt, lemmas.Bool.cases_eq}
use Rattle.std.proofs.lemmas.{Grind.common_steps, Nat.mod_below, List.FromFn.length-range_with_len, List.FromFn.get_or-range_with_len}
use Rattle.std.proofs.Math.Seq.{get_or-append_seam}
use Rattle.std.specs.{Prelude.◌==◌, List.sum, List.range_with_len}
use Rattle.list_laws.proofs.Ranges.{sum_more, sum_alike}
use Rattle.machine_text.specs.{declared.machine.Limited.TheVariants.Nodes, declared.machine.Machine.Machine, Limits.limit_at}
use Rattle.node_defs.specs.declared.items.NodeNet.{NodeNet}
use Rattle.plan_defs.specs.Picks.{node_limit, node_room, nodes_before, IsFull, IsInTurn}
use Rattle.plan_defs.specs.Lists.{IsLeastFree}
use Rattle.plan_defs.proofs.lemmas.{PlanLemmas.least_one, PlanLemmas.least_same, CountLemmas.few_before}
use Rattle.home_pick.specs.code.Rooms.{limits_of, IsSpent, AreTurned}
use Rattle.home_pick.proofs.FillLemmas.{at_same, at_other, limits_at, limits_count}

-- ---- the nodes at a port

-- 1 where node number k is at the port
abbrev pub node_at : NodeNet → List ℕ → ℕ → ℕ → ℕ
node_at nodes ports port k = if get_or ports (nodes.first_node + k) 0 == port then 1 else 0

pub nodes_more : (nodes : NodeNet) (ports : List ℕ) (n port : ℕ) → nodes_before nodes ports (n + 1) port ≡ nodes_before nodes ports n port + node_at nodes ports port n
nodes_more nodes ports n port = sum_more (node_at nodes ports port) n

pub nodes_same : (nodes : NodeNet) (xs ys : List ℕ) (n port : ℕ) → ((i : ℕ) → i < nodes.first_node + n → get_or xs i 0 ≡ get_or ys i 0) → nodes_before nodes xs n port ≡ nodes_before nodes ys n port
nodes_same nodes xs ys n port same =
    sum_alike (node_at nodes xs port) (node_at nodes ys port) n (λ k low. ap (λ p. if p == port then 1 else 0) (same (nodes.first_node + k) (omega (arith, low))))

-- which ports are full rests on the items before
pub full_same : (nodes : NodeNet) (machine : Machine) (xs ys : List ℕ) (n port : ℕ) → ((i : ℕ) → i < nodes.first_node + n → get_or xs i 0 ≡ get_or ys i 0) → IsFull nodes machine xs n port → IsFull nodes machine ys n port
full_same nodes machine xs ys n port same full = subst (λ count. node_limit machine port ≤ count) (nodes_same nodes xs ys n port same) full

-- a node is in turn by the ports up to its own
pub turn_same : (nodes : NodeNet) (machine : Machine) (xs ys : List ℕ) (n : ℕ) → ((i : ℕ) → i < nodes.first_node + n + 1 → get_or xs i 0 ≡ get_or ys i 0) → IsInTurn nodes machine xs n → IsInTurn nodes machine ys n
turn_same nodes machine xs ys n same turn = record {
  past = turn.past;
  within = turn.within;
  at = sym (same (nodes.first_node + n) (omega arith)) ∙ turn.at;
  first = least_same (λ e. IsFull nodes machine xs n ((n + e) % machine.logic)) (λ e. IsFull nodes machine ys n ((n + e) % machine.logic)) turn.past
      (λ e. full_same nodes machine xs ys n ((n + e) % machine.logic) (λ i low. same i (omega (arith, low))))
      (λ e. full_same nodes machine ys xs n ((n + e) % machine.logic) (λ i low. sym (same i (omega (arith, low))))) turn.first;
}

-- a node has one port
pub turn_one : (nodes : NodeNet) (machine : Machine) (xs ys : List ℕ) (n : ℕ) → ((i : ℕ) → i < nodes.first_node + n → get_or xs i 0 ≡ get_or ys i 0) → IsInTurn nodes machine xs n → IsInTurn nodes machine ys n → get_or xs (nodes.first_node + n) 0 ≡ get_or ys (nodes.first_node + n) 0
turn_one nodes machine xs ys n same one other =
    let past : one.past ≡ other.past = least_one (λ e. IsFull nodes machine ys n ((n + e) % machine.logic)) one.past other.past
    (least_same (λ e. IsFull nodes machine xs n ((n + e) % machine.logic)) (λ e. IsFull nodes machine ys n ((n + e) % machine.logic)) one.past
    (λ e. full_same nodes machine xs ys n ((n + e) % machine.logic) same) (λ e. full_same nodes machine ys xs n ((n + e) % machine.logic) (λ i low. sym (same i low))) one.first) other.first in
    one.at ∙ (ap (λ e. (n + e) % machine.logic) past ∙ sym other.at)

-- ---- ports that are never full

-- where each limit is past the node, it is at its first port
pub turn_wide : (nodes : NodeNet) (machine : Machine) (ports : List ℕ) (n : ℕ) → 1 ≤ machine.logic → ((p : ℕ) → p < machine.logic → n < node_limit machine p) → IsInTurn nodes machine ports n → get_or ports (nodes.first_node + n) 0 ≡ n % machine.logic
turn_wide nodes machine ports n some wide turn = turn.at ∙ ap (λ m. m % machine.logic) (none_past (cases_lt 0 turn.past)) where
  none_past : (0 < turn.past) ⊎ (turn.past ≤ 0) → n + turn.past ≡ n
  none_past (inr none) = omega (arith, none)
  none_past (inl past) =
      let full : IsFull nodes machine ports n ((n + 0) % machine.logic) = turn.first.below 0 past in
      absurd (omega (arith, full, few_before nodes ports n ((n + 0) % machine.logic), wide ((n + 0) % machine.logic) (mod_below (n + 0) machine.logic some)))

-- all ports together hold what the first holds
pub room_first : (machine : Machine) → 1 ≤ machine.logic → node_limit machine 0 ≤ node_room machine
room_first machine some =
    let first : node_limit machine (get_or (range_with_len 0 machine.logic) 0 0) ≡ node_limit machine 0 = ap (node_limit machine) (get_or-range_with_len 0 machine.logic 0 0 some) in
    omega (arith, first, get_or-le-sum_by (node_limit machine) (range_with_len 0 machine.logic) 0 0 (omega (arith, some, length-range_with_len 0 machine.logic)))

-- ---- ports that hold no node more

-- each port is so many ports past the start
pub reached_from : (start port count : ℕ) → start < count → port < count → (e : ℕ) × (e < count) × ((start + e) % count ≡ port)
reached_from start port count begun low = elim (cases_lt port start) [
  | inl before ↦ (
    port + count - start,
    omega (arith, begun, before),
    (let round : start + (port + count - start) ≡ port + count = omega (arith, begun) in ap (λ n. n % count) round ∙ (add-mod_right port count ∙ mod-eq_of_lt low)),
  )
  | inr from ↦ (port - start, omega (arith, low), (let there : start + (port - start) ≡ port = omega (arith, from) in ap (λ n. n % count) there ∙ mod-eq_of_lt low))
]

zero_sum : (xs : List ℕ) → ((i : ℕ) → i < length xs → get_or xs i 0 ≡ 0) → sum xs ≡ 0
zero_sum [] all = refl
zero_sum (x ∷ xs) all =
    let rest = zero_sum xs (λ i low. all (suc i) (omega (arith, low))) in
    let here : x ≡ 0 = all 0 (omega arith) in
    omega (arith, sum_by-cons (λ n. n) x xs, rest, here)

-- where a node more finds room, not all ports are spent
pub some_unspent : (left : List ℕ) (start : ℕ) → start < length left → 1 ≤ sum left → ((e : ℕ) → e < length left → IsSpent left start e) → ⊥
some_unspent left start begun some spent = omega (arith, some, zero_sum left each) where
  each : (i : ℕ) → i < length left → get_or left i 0 ≡ 0
  each i low = let at = reached_from start i (length left) begun low in subst (λ p. get_or left p 0 ≡ 0) at.2 (spent at.0 at.1)

-- a port that holds a node less: what was spent is
pub spent_kept : (left : List ℕ) (port start e : ℕ) → port < length left → IsSpent left start e → IsSpent (set left port (get_or left port 0 - 1)) start e
spent_kept left port start e low spent =
    subst (λ count. get_or (set left port (get_or left port 0 - 1)) ((start + e) % count) 0 ≡ 0) (sym (length-set left port (get_or left port 0 - 1))) (by_place (cases_eq ((start + e) % length left) port)) where
      by_place : ((start + e) % length left ≡ port) ⊎ ((start + e) % length left ≢ port) → get_or (set left port (get_or left port 0 - 1)) ((start + e) % length left) 0 ≡ 0
      by_place (inr apart) = get_or-set_other left port ((start + e) % length left) (get_or left port 0 - 1) 0 apart ∙ spent
      by_place (inl same) =
          let had : get_or left port 0 ≡ 0 = subst (λ q. get_or left q 0 ≡ 0) same spent in
          let none : get_or left port 0 - 1 ≡ 0 = omega (arith, had) in
          ap (λ q. get_or (set left port (get_or left port 0 - 1)) q 0) same ∙ (get_or-set_same left port (get_or left port 0 - 1) 0 low ∙ none)

-- ---- no node has its port

-- what all logic ports hold together
pub limits_sum : (machine : Machine) → sum (limits_of machine Nodes machine.logic) ≡ node_room machine
unfolding limits_of
limits_sum machine = sum-map (limit_at machine Nodes) (range_with_len 0 machine.logic)

pub turned_none : (nodes : NodeNet) (machine : Machine) (left : List ℕ) → 1 ≤ machine.logic → left ≡ limits_of machine Nodes machine.logic → AreTurned nodes machine [] 0 left (replicate machine.logic 0)
turned_none nodes machine left some are = record {
  logic = ap length are ∙ limits_count machine Nodes machine.logic;
  counts = λ p low. (let is : get_or left p 0 ≡ node_limit machine p = ap (λ xs. get_or xs p 0) are ∙ limits_at machine Nodes machine.logic p low in omega (arith, is));
  all = (let is : sum left ≡ node_room machine = ap sum are ∙ limits_sum machine in omega (arith, is));
  starts = length-replicate {A = ℕ} machine.logic 0;
  few = λ start low. (let none : get_or (replicate machine.logic 0) start 0 ≡ 0 = get_or-replicate {A = ℕ} machine.logic start 0 0 low in omega (arith, none, some));
  full = λ start past low before. (let none : get_or (replicate machine.logic 0) start 0 ≡ 0 = get_or-replicate {A = ℕ} machine.logic start 0 0 low in absurd (omega (arith, none, before)));
}

-- before the first node it is all one at which ports the items are
pub turned_before : (nodes : NodeNet) (machine : Machine) (xs ys : List ℕ) (i : ℕ) (left skips : List ℕ) → i < nodes.first_node → AreTurned nodes machine xs (i - nodes.first_node) left skips → AreTurned nodes machine ys (i + 1 - nodes.first_node) left skips
turned_before nodes machine xs ys i left skips low turned =
    let none : i - nodes.first_node ≡ 0 = omega (arith, low) in
    let still : i + 1 - nodes.first_node ≡ 0 = omega (arith, low) in
    subst (λ n. AreTurned nodes machine ys n left skips) (sym still) (begun (subst (λ n. AreTurned nodes machine xs n left skips) none turned))
  where
    begun : AreTurned nodes machine xs 0 left skips → AreTurned nodes machine ys 0 left skips
    begun at = record { logic = at.logic; counts = at.counts; all = at.all; starts = at.starts; few = at.few; full = at.full }

-- ---- one node more

module _ (nodes : NodeNet) (machine : Machine) (ports : List ℕ) (n : ℕ) (left skips : List ℕ) (before : AreTurned nodes machine ports n left skips) where
  -- the nodes that are still to come find room
  pub room_left : n < node_room machine → 1 ≤ sum left
  room_left low = let all = before.all in omega (arith, all, low)

  spent_full : (p : ℕ) → p < machine.logic → get_or left p 0 ≡ 0 → IsFull nodes machine ports n p
  spent_full p low none = let had = before.counts p low in omega (arith, had, none)

  full_spent : (p : ℕ) → p < machine.logic → IsFull nodes machine ports n p → get_or left p 0 ≡ 0
  full_spent p low full = let had = before.counts p low in omega (arith, had, full)

  module _ (some : 1 ≤ machine.logic) (next : length ports ≡ nodes.first_node + n) (past : ℕ) (within : past < machine.logic) (first : IsLeastFree (IsSpent left (n % machine.logic)) past) where
    abbrev start : ℕ
    start = n % machine.logic

    abbrev port : ℕ
    port = (n % machine.logic + past) % machine.logic

    abbrev new_ports : List ℕ
    new_ports = ports ++ (n % machine.logic + past) % machine.logic ∷ []

    abbrev new_left : List ℕ
    new_left = set left port (get_or left port 0 - 1)

    port_low : port < machine.logic
    port_low = mod_below (n % machine.logic + past) machine.logic some

    old_port : (i : ℕ) → i < nodes.first_node + n → get_or new_ports i 0 ≡ get_or ports i 0
    old_port i low = get_or_append_left ports (port ∷ []) 0 i (omega (arith, low, next))

    new_port : get_or new_ports (nodes.first_node + n) 0 ≡ port
    new_port = ap (λ k. get_or new_ports k 0) (sym next) ∙ get_or-append_seam ports port [] 0

    -- the port that is so many past the start
    past_start : (e : ℕ) → (n % machine.logic + e) % length left ≡ (n + e) % machine.logic
    past_start e = ap (λ count. (n % machine.logic + e) % count) before.logic ∙ mod-add-mod n machine.logic e

    is_full : (e : ℕ) → IsSpent left start e → IsFull nodes machine new_ports n ((n + e) % machine.logic)
    is_full e spent =
        full_same nodes machine ports new_ports n ((n + e) % machine.logic) (λ i low. sym (old_port i low))
        (spent_full ((n + e) % machine.logic) (mod_below (n + e) machine.logic some) (subst (λ p. get_or left p 0 ≡ 0) (past_start e) spent))

    is_spent : (e : ℕ) → IsFull nodes machine new_ports n ((n + e) % machine.logic) → IsSpent left start e
    is_spent e full =
        subst (λ p. get_or left p 0 ≡ 0) (sym (past_start e))
        (full_spent ((n + e) % machine.logic) (mod_below (n + e) machine.logic some) (full_same nodes machine new_ports ports n ((n + e) % machine.logic) old_port full))

    pub in_turn : IsInTurn nodes machine new_ports n
    in_turn = record {
      past = past;
      within = within;
      at = new_port ∙ mod-add-mod n machine.logic past;
      first = least_same (IsSpent left start) (λ e. IsFull nodes machine new_ports n ((n + e) % machine.logic)) past is_full is_spent first;
    }

    -- the port held a node more
    pub port_unspent : 1 ≤ get_or left port 0
    port_unspent = elim (cases_lt 0 (get_or left port 0)) [
      | inl more ↦ omega (arith, more)
      | inr none ↦ absurd (first.free (subst (λ count. get_or left ((n % machine.logic + past) % count) 0 ≡ 0) (sym before.logic) (omega (arith, none))))
    ]

    pub turned_more : AreTurned nodes machine new_ports (n + 1) new_left (set skips start past)
    turned_more = record {
      logic = length-set left port (get_or left port 0 - 1) ∙ before.logic;
      counts = λ p low. let more = nodes_more nodes new_ports n p in let old = nodes_same nodes new_ports ports n p old_port in let had = before.counts p low in elim (cases_eq p port) [
        | inl same ↦
            let there : get_or new_left p 0 ≡ get_or left port 0 - 1 = ap (λ k. get_or new_left k 0) same ∙ get_or-set_same left port (get_or left port 0 - 1) 0 (let count = before.logic in omega (arith, port_low, count)) in
            let here : node_at nodes new_ports p n ≡ 1 = at_same (get_or new_ports (nodes.first_node + n) 0) p 1 (new_port ∙ sym same) in
            let was : get_or left p 0 ≡ get_or left port 0 = ap (λ k. get_or left k 0) same in
            omega (arith, there, here, was, more, old, had, port_unspent)
        | inr apart ↦
            let there : get_or new_left p 0 ≡ get_or left p 0 = get_or-set_other left port p (get_or left port 0 - 1) 0 apart in
            let here : node_at nodes new_ports p n ≡ 0 = at_other (get_or new_ports (nodes.first_node + n) 0) p 1 (λ same. apart (sym same ∙ new_port)) in
            omega (arith, there, here, more, old, had)
      ];
      all =
          let all = before.all in
          let less : sum new_left + get_or left port 0 ≡ sum left + (get_or left port 0 - 1) = sum_by-set (λ x. x) left port (get_or left port 0 - 1) 0 (let count = before.logic in omega (arith, port_low, count)) in
          omega (arith, all, less, port_unspent);
      starts = length-set skips start past ∙ before.starts;
      few = λ s low. elim (cases_eq s start) [
        | inl same ↦ subst (λ k. k < machine.logic) (sym (skip_here s same)) within
        | inr apart ↦ subst (λ k. k < machine.logic) (sym (get_or-set_other skips start s past 0 apart)) (before.few s low)
      ];
      full = λ s e low under. spent_kept left port s e (let count = before.logic in omega (arith, port_low, count)) (elim (cases_eq s start) [
        | inl same ↦ subst (λ k. IsSpent left k e) (sym same) (first.below e (subst (λ k. e < k) (skip_here s same) under))
        | inr apart ↦ before.full s e low (subst (λ k. e < k) (get_or-set_other skips start s past 0 apart) under)
      ]);
    } where
      skip_here : (s : ℕ) → s ≡ start → get_or (set skips start past) s 0 ≡ past
      skip_here s same = ap (λ k. get_or (set skips start past) k 0) same ∙ get_or-set_same skips start past 0 (let count = before.starts in let low = mod_below n machine.logic some in omega (arith, count, low))

-- ---- the room of all ports

pub sum_next : (xs : List ℕ) (i : ℕ) → i < length xs → sum (take (i + 1) xs) ≡ sum (take i xs) + get_or xs i 0
sum_next xs i within = grind (arith, common_steps)
