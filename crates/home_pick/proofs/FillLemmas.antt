-- Memories that get their ports one after another.
use Rattle.std.proofs.Common.{◌≡◌, ◌∙◌, inl, inr, ℕ, zero, suc, ◌+◌, ◌-◌, ◌*◌, ◌^◌, ◌%◌, ◌<◌, ◌≤◌, List, [], ◌∷◌, ◌++◌, length, map, get_or, set, refl, sym, ap, subst, arith, if◌then◌else◌, eq-eqb, mod-eq_of_lt, one-mul, Some, slice_get}
use Rattle.std.proofs.lemmas.Bool.{cases_lt, cases_eq, cases_Bool, eqb-true}
use Rattle.std.proofs.lemmas.List.{get_or_append_left, length-append, get_or-set_same, get_or-set_other, length-set, map-append}
use Rattle.std.proofs.{Math.Nat.mul-le-mul, Math.Pow.pow-lt, lemmas.List.FromFn.length-map-range_with_len, lemmas.List.FromFn.get_or-map-range_with_len}
use Rattle.std.proofs.Math.Seq.{get_or-append_seam}
use Rattle.std.specs.{Prelude.◌==◌, Prelude.max, List.range_with_len}
use Rattle.list_laws.proofs.Ranges.{last_or, range_more, sum_more, sum_alike}
use Rattle.machine_text.specs.{declared.machine.Limited.Limited, declared.machine.Limited.TheVariants.Bits, declared.machine.Machine.Machine, Limits.limit_at}
use Rattle.node_defs.specs.declared.items.{NodeBlock.NodeBlock, NodeNet.NodeNet}
use Rattle.plan_defs.specs.Picks.{bits_of, bits_before, bit_limit, bits_left, LacksRoom, AreHoused, FindsNoPort}
use Rattle.plan_defs.specs.Lists.{IsLeastFree}
use Rattle.plan_defs.proofs.lemmas.PlanLemmas.{least_same}
use Rattle.home_pick.specs.code.Rooms.{limits_of, LacksBits, IsMostLeft, AreFilled}
use Rattle.home_pick.specs.declared.blocks.Filling.{Filling}

-- ---- the bits of one memory more

-- the bits of memory k where it is at the port
abbrev pub bits_at : NodeNet → List ℕ → ℕ → ℕ → ℕ
bits_at nodes ports port k = if get_or ports k 0 == port then bits_of nodes k else 0

pub bits_more : (nodes : NodeNet) (ports : List ℕ) (m port : ℕ) → bits_before nodes ports (m + 1) port ≡ bits_before nodes ports m port + bits_at nodes ports port m
bits_more nodes ports m port = sum_more (bits_at nodes ports port) m

pub bits_same : (nodes : NodeNet) (xs ys : List ℕ) (m port : ℕ) → ((k : ℕ) → k < m → get_or xs k 0 ≡ get_or ys k 0) → bits_before nodes xs m port ≡ bits_before nodes ys m port
bits_same nodes xs ys m port same = sum_alike (bits_at nodes xs port) (bits_at nodes ys port) m (λ k low. ap (λ p. if p == port then bits_of nodes k else 0) (same k low))

pub at_same : (p q n : ℕ) → p ≡ q → (if p == q then n else 0) ≡ n
at_same p q n same = ap (λ b. if b then n else 0) (eq-eqb p q same)

pub at_other : (p q n : ℕ) → (p ≡ q → ⊥) → (if p == q then n else 0) ≡ 0
at_other p q n other = elim (cases_Bool (p == q)) [ inl is ↦ absurd (other (eqb-true p q is)) | inr is ↦ ap (λ b. if b then n else 0) is ]

-- ---- one memory more

module _ (nodes : NodeNet) (machine : Machine) (filling : Filling) (n : ℕ) (before : AreFilled nodes machine n filling) where
  abbrev ports_put : ℕ → List ℕ
  ports_put a = filling.ports ++ (machine.logic + a) ∷ []

  old_port : (a k : ℕ) → k < n → get_or (ports_put a) k 0 ≡ get_or filling.ports k 0
  old_port a k low = let count = before.housed.memories in get_or_append_left filling.ports ((machine.logic + a) ∷ []) 0 k (omega (arith, low, count))

  new_port : (a : ℕ) → get_or (ports_put a) n 0 ≡ machine.logic + a
  new_port a = ap (λ k. get_or (ports_put a) k 0) (sym before.housed.memories) ∙ get_or-append_seam filling.ports (machine.logic + a) [] 0

  -- the bits before an earlier memory stay
  old_bits : (a m port : ℕ) → m ≤ n → bits_before nodes (ports_put a) m port ≡ bits_before nodes filling.ports m port
  old_bits a m port up = bits_same nodes (ports_put a) filling.ports m port (λ k low. old_port a k (omega (arith, up, low)))

  old_lacks : (a m b : ℕ) → m ≤ n → LacksRoom nodes machine (ports_put a) m b → LacksRoom nodes machine filling.ports m b
  old_lacks a m b up lacks = subst (λ bits. bit_limit machine b < bits + bits_of nodes m) (old_bits a m (machine.logic + b) up) lacks

  new_lacks : (a m b : ℕ) → m ≤ n → LacksRoom nodes machine filling.ports m b → LacksRoom nodes machine (ports_put a) m b
  new_lacks a m b up lacks = subst (λ bits. bit_limit machine b < bits + bits_of nodes m) (sym (old_bits a m (machine.logic + b) up)) lacks

  -- a port that lacks bits lacks room
  bits_lack : (b needed : ℕ) → b < machine.array → needed ≡ bits_of nodes n → LacksBits filling.left needed b → LacksRoom nodes machine filling.ports n b
  bits_lack b needed low is lacks = let left = before.bits b low in omega (arith, left, is, lacks)

  room_lacks : (b needed : ℕ) → b < machine.array → needed ≡ bits_of nodes n → LacksRoom nodes machine filling.ports n b → LacksBits filling.left needed b
  room_lacks b needed low is lacks = let left = before.bits b low in omega (arith, left, is, lacks)

  housed_more : (a needed : ℕ) → a < machine.array → needed ≡ bits_of nodes n → IsLeastFree (LacksBits filling.left needed) a → AreHoused nodes machine (ports_put a) (n + 1)
  housed_more a needed low is least = record {
    memories = let count = before.housed.memories in omega (arith, length-append filling.ports ((machine.logic + a) ∷ []), count);
    array = λ m under. elim (last_or m n under) [
      | inl below ↦ old m below (before.housed.array m below)
      | inr same ↦ subst (λ k. (b : ℕ) × (b < machine.array) × (get_or (ports_put a) k 0 ≡ machine.logic + b) × IsLeastFree (LacksRoom nodes machine (ports_put a) k) b) (sym same) here
    ];
  } where
    old : (m : ℕ) → m < n → (b : ℕ) × (b < machine.array) × (get_or filling.ports m 0 ≡ machine.logic + b) × IsLeastFree (LacksRoom nodes machine filling.ports m) b
        → (b : ℕ) × (b < machine.array) × (get_or (ports_put a) m 0 ≡ machine.logic + b) × IsLeastFree (LacksRoom nodes machine (ports_put a) m) b
    old m below (b, within, at, first) = (
      b,
      within,
      old_port a m below ∙ at,
      least_same (LacksRoom nodes machine filling.ports m) (LacksRoom nodes machine (ports_put a) m) b (λ s. new_lacks a m s (omega (arith, below))) (λ s. old_lacks a m s (omega (arith, below))) first,
    )

    here : (b : ℕ) × (b < machine.array) × (get_or (ports_put a) n 0 ≡ machine.logic + b) × IsLeastFree (LacksRoom nodes machine (ports_put a) n) b
    here = (
      a,
      low,
      new_port a,
      record {
        free = λ lacks. least.free (room_lacks a needed low is (old_lacks a n a (omega arith) lacks));
        below = λ b under. new_lacks a n b (omega arith) (bits_lack b needed (omega (arith, low, under)) is (least.below b under));
      },
    )

  pub filled_more : (a needed : ℕ) → a < machine.array → needed ≡ bits_of nodes n → IsLeastFree (LacksBits filling.left needed) a
      → AreFilled nodes machine (n + 1) (record { ports = filling.ports ++ (machine.logic + a) ∷ []; left = set filling.left a (get_or filling.left a 0 - needed) })
  filled_more a needed low is least = record {
    housed = housed_more a needed low is least;
    array = length-set filling.left a (get_or filling.left a 0 - needed) ∙ before.array;
    bits = λ b within. let more = bits_more nodes (ports_put a) n (machine.logic + b) in let old = old_bits a n (machine.logic + b) (omega arith) in elim (cases_eq b a) [
      | inl same ↦
          let left : get_or (set filling.left a (get_or filling.left a 0 - needed)) b 0 ≡ get_or filling.left a 0 - needed = ap (λ k. get_or (set filling.left a (get_or filling.left a 0 - needed)) k 0) same ∙ get_or-set_same filling.left a (get_or filling.left a 0 - needed) 0 (let count = before.array in omega (arith, low, count)) in
          let had : bits_before nodes filling.ports n (machine.logic + b) + get_or filling.left a 0 ≡ bit_limit machine b = ap (λ k. bits_before nodes filling.ports n (machine.logic + b) + get_or filling.left k 0) (sym same) ∙ before.bits b within in
          let here : bits_at nodes (ports_put a) (machine.logic + b) n ≡ bits_of nodes n = at_same (get_or (ports_put a) n 0) (machine.logic + b) (bits_of nodes n) (new_port a ∙ ap (λ k. machine.logic + k) (sym same)) in
          let room : needed ≤ get_or filling.left a 0 = elim (cases_lt (get_or filling.left a 0) needed) [ inl lacks ↦ absurd (least.free lacks) | inr room ↦ room ] in
          omega (arith, left, had, here, more, old, is, room)
      | inr apart ↦
          let left : get_or (set filling.left a (get_or filling.left a 0 - needed)) b 0 ≡ get_or filling.left b 0 = get_or-set_other filling.left a b (get_or filling.left a 0 - needed) 0 apart in
          let had = before.bits b within in
          let port = new_port a in
          let here : bits_at nodes (ports_put a) (machine.logic + b) n ≡ 0 = at_other (get_or (ports_put a) n 0) (machine.logic + b) (bits_of nodes n) (λ same. apart (omega (arith, same, port))) in
          omega (arith, left, had, here, more, old)
    ];
  }

  -- the memory finds no port
  pub none_found : (needed most : ℕ) → n < length nodes.blocks → needed ≡ bits_of nodes n → ((a : ℕ) → a < length filling.left → LacksBits filling.left needed a) → IsMostLeft filling.left (length filling.left) most → 1 ≤ needed → FindsNoPort nodes machine n needed most
  none_found needed most there is none left some_bit = record {
    ports = filling.ports;
    before = before.housed;
    there = there;
    bits = is;
    none = λ a low. bits_lack a needed low is (none a (inside a low));
    past = elim left.reached [ inl nothing ↦ omega (arith, nothing, some_bit) | inr one ↦ (let lacks = none one.0 one.1 in let at = one.2 in omega (arith, lacks, at)) ];
    most = λ a low. (let up = left.most a (inside a low) in omega (arith, left_is a low, up));
    reached = (λ empty. elim left.reached [ inl nothing ↦ nothing | inr one ↦ (let low = one.1 in let count = before.array in absurd (omega (arith, low, count, empty))) ], some);
  } where
    inside : (a : ℕ) → a < machine.array → a < length filling.left
    inside a low = let count = before.array in omega (arith, low, count)

    left_is : (a : ℕ) → a < machine.array → bits_left nodes machine filling.ports n a ≡ get_or filling.left a 0
    left_is a low = let had = before.bits a low in omega (arith, had)

    some : 1 ≤ machine.array → (a : ℕ) × (a < machine.array) × (bits_left nodes machine filling.ports n a ≡ most)
    some up = elim left.reached [
      | inl nothing ↦ (0, omega (arith, up), (let least = left.most 0 (inside 0 (omega (arith, up))) in omega (arith, left_is 0 (omega (arith, up)), least, nothing)))
      | inr one ↦ (let low : one.0 < machine.array = (let within = one.1 in let count = before.array in omega (arith, within, count)) in (one.0, low, left_is one.0 low ∙ one.2))
    ]

-- the limits that hold at ports, and how many they are
pub limits_at : (machine : Machine) (what : Limited) (count port : ℕ) → port < count → get_or (limits_of machine what count) port 0 ≡ limit_at machine what port
unfolding limits_of
limits_at machine what count port low = get_or-map-range_with_len (limit_at machine what) 0 count port port 0 low (omega arith)

pub limits_count : (machine : Machine) (what : Limited) (count : ℕ) → length (limits_of machine what count) ≡ count
unfolding limits_of
limits_count machine what count = length-map-range_with_len (limit_at machine what) 0 count

pub limits_none : (machine : Machine) (what : Limited) → limits_of machine what 0 ≡ []
unfolding limits_of
limits_none machine what = refl

pub limits_more : (machine : Machine) (what : Limited) (n : ℕ) → limits_of machine what (n + 1) ≡ limits_of machine what n ++ limit_at machine what n ∷ []
unfolding limits_of
limits_more machine what n =
    let first : 0 + n ≡ n = omega arith in
    ap (map (limit_at machine what)) (range_more 0 n ∙ ap (λ k. range_with_len 0 n ++ k ∷ []) first) ∙ map-append (limit_at machine what) (range_with_len 0 n) (n ∷ [])

pub filled_none : (nodes : NodeNet) (machine : Machine) (left : List ℕ) → left ≡ limits_of machine Bits machine.array → AreFilled nodes machine 0 (record { ports = []; left = left })
filled_none nodes machine left are = record {
  housed = record { memories = refl; array = λ m low. absurd (omega (arith, low)) };
  array = ap length are ∙ limits_count machine Bits machine.array;
  bits = λ a low. (let is : get_or left a 0 ≡ bit_limit machine a = ap (λ xs. get_or xs a 0) are ∙ limits_at machine Bits machine.array a low in omega (arith, is));
}

-- ---- the most that is left

pub left_none : (left : List ℕ) → IsMostLeft left 0 0
left_none left = record { most = λ a low. absurd (omega (arith, low)); reached = inl refl }

pub left_more : (left : List ℕ) (n most : ℕ) → IsMostLeft left n most → IsMostLeft left (n + 1) (max most (get_or left n 0))
left_more left n most before = record {
  most = λ a low. elim (last_or a n low) [
    | inl below ↦ (let least = before.most a below in omega (arith, least))
    | inr same ↦ (let here = ap (λ k. get_or left k 0) same in omega (arith, here))
  ];
  reached = elim (cases_lt most (get_or left n 0)) [
    | inl less ↦ inr (n, omega arith, omega (arith, less))
    | inr least ↦ elim before.reached [
      | inl nothing ↦ inl (omega (arith, least, nothing))
      | inr found ↦ inr (found.0, (let low = found.1 in omega (arith, low)), (let at = found.2 in omega (arith, least, at)))
    ]
  ];
}

-- ---- the bits of one memory

power_small : (a : ℕ) → a ≤ 16 → 2 ^ a < 131072
power_small a few = pow-lt {i = a} {j = 17} (omega (arith, few))

pub shifted : (a : ℕ) → a ≤ 16 → (1 * 2 ^ a) % 4294967296 ≡ 2 ^ a
shifted a few = let small = power_small a few in mod-eq_of_lt {n = 1 * 2 ^ a} {m = 4294967296} (omega (arith, small)) ∙ one-mul (2 ^ a)

pub bits_read : (nodes : NodeNet) (m : ℕ) (block : NodeBlock) → slice_get nodes.blocks m ≡ Some block → bits_of nodes m ≡ 2 ^ length block.address * length block.word
bits_read nodes m block is = rw is refl

pub bits_few : (a w : ℕ) → a ≤ 16 → w ≤ 64 → 2 ^ a * w ≤ 8388608
bits_few a w few narrow =
    let small = power_small a few in
    let bound : 2 ^ a * w ≤ 131072 * 64 = mul-le-mul {n₁ = 2 ^ a} {m₁ = w} {n₂ = 131072} {m₂ = 64} (omega (arith, small)) narrow in
    bound

-- ---- a memory has a bit

some_power : (a : ℕ) → 1 ≤ 2 ^ a
some_power zero = omega arith
some_power (suc a) = let more : 2 ^ 0 < 2 ^ suc a = pow-lt {i = 0} {j = suc a} (omega arith) in omega (arith, more)

pub some_bits : (a w : ℕ) → 1 ≤ w → 1 ≤ 2 ^ a * w
some_bits a w some =
    let product : 1 * 1 ≤ 2 ^ a * w = mul-le-mul {n₁ = 1} {m₁ = 1} {n₂ = 2 ^ a} {m₂ = w} (some_power a) some in
    omega (arith, product)
