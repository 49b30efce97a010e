-- A built image with its claims is within the ranges of image texts.
use Rattle.std.proofs.Common.{if◌then◌else◌, ◌≡◌, ◌∙◌, ℕ, suc, ◌+◌, ◌-◌, ◌^◌, ◌<◌, ◌≤◌, Bool, true, false, List, [], ◌∷◌, length, Some, slice_get, refl, sym, ap, subst, arith}
use Rattle.std.proofs.lemmas.{List.length-map, List.Sums.sum_by-cons, Option.slice_get_within}
use Rattle.std.specs.List.{count_by}
use Rattle.limits.specs.declared.TheConstants.{MAX_SIGNALS, MAX_ARRAY, MAX_FUNCTIONS, MAX_ARRAY_BITS}
use Rattle.machine_text.specs.{declared.machine.Machine.Machine, Machines.IsValid}
use Rattle.net_defs.specs.declared.timing.Timing.{Timing}
use Rattle.node_defs.specs.{declared.items.Item.Item, WellFormed.column_count}
use Rattle.node_defs.specs.WellFormed as nodes
use Rattle.plan_defs.specs.Homes.{AreHomes, home_of, host_of, ports_of}
use Rattle.plan_defs.specs.{Picks.AreHoused, Tables.Fits}
use Rattle.image_defs.specs.declared.image.{LinkIn.LinkIn, Work.Work, Work.TheVariants.Logic, Work.TheVariants.Array, Work.TheVariants.Host}
use Rattle.image_defs.specs.{declared.image.PortImage.PortImage, Places.Each, Places.IsPort, Places.blocks_of, Matches.IsClaim, Matches.Implements}
use Rattle.image_defs.specs.declared.file.{Claims.Claims, PortClaims.PortClaims}
use Rattle.image_check.proofs.ClaimLemmas.{claims_there}
use Rattle.image_lines.specs.Ranges.{IsSmall}
use Rattle.image_file.specs.Ranges.{is_array, is_array_port, tables_of, bits_of, IsInRanges}
use Rattle.image_build.specs.{PortItems.IsAt, Built.IsBuilt, Built.IsOrdered}
use Rattle.yse_compile.specs.{declared.compiler.Compiled.Compiled, Claims.AreClaimsOf}
use Rattle.yse_compile.proofs.{RangeLines.all_of_each, RangeLines.lines_in_range, RangeTables.tables_few, RangeBits.blocks_few, RangeBits.bits_few}

-- ---- counts

-- members that pass stand from place lo to before place hi, the first of all being at place k
abbrev StandBetween : {X : Type 0} → (X → Bool) → ℕ → ℕ → ℕ → List X → Type 0
StandBetween {X} f lo hi k xs = (i : ℕ) (x : X) → slice_get xs i ≡ Some x → f x ≡ true → (lo ≤ k + i) × (k + i < hi)

module _ {X : Type 0} (f : X → Bool) (lo hi : ℕ) where
  count_here : (x : X) (xs : List X) (b : Bool) → f x ≡ b → count_by f (x ∷ xs) ≡ (if b then 1 else 0) + count_by f xs
  count_here x xs b is = sum_by-cons (λ y. if f y then 1 else 0) x xs ∙ ap (λ c. (if c then 1 else 0) + count_by f xs) is

  counted_more : (k : ℕ) (x : X) (xs : List X) → StandBetween f lo hi k (x ∷ xs) → (count_by f xs ≤ hi - lo) × (count_by f xs ≤ hi - suc k) → (b : Bool) → f x ≡ b
      → (count_by f (x ∷ xs) ≤ hi - lo) × (count_by f (x ∷ xs) ≤ hi - k)
  counted_more k x xs between rest true is =
      let here = between 0 x refl is in
      let from = here.0 in
      let low = here.1 in
      let few = rest.1 in
      (omega (arith, count_here x xs true is, from, low, few), omega (arith, count_here x xs true is, from, low, few))
  counted_more k x xs between rest false is =
      let less = rest.0 in
      let few = rest.1 in
      (omega (arith, count_here x xs false is, less), omega (arith, count_here x xs false is, few))

  counted : (k : ℕ) (xs : List X) → StandBetween f lo hi k xs → (count_by f xs ≤ hi - lo) × (count_by f xs ≤ hi - k)
  counted k [] between = (omega arith, omega arith)
  counted k (x ∷ xs) between =
      counted_more k x xs between
      (counted (suc k) xs (λ i y at is. let there = between (suc i) y at is in let from = there.0 in let low = there.1 in (omega (arith, from), omega (arith, low))))
      (f x) refl

-- ---- designs

module _ (machine : Machine) (timing : Timing) (compiled : Compiled) (claims : Claims)
    (valid : IsValid machine) (formed : nodes.IsWellFormed compiled.nodes) (columns : column_count compiled.nodes ≤ MAX_SIGNALS)
    (housed : AreHomes compiled.nodes compiled.homes) (logic : compiled.homes.logic ≡ machine.logic)
    (memories : AreHoused compiled.nodes machine compiled.homes.blocks (length compiled.nodes.blocks))
    (fits : Fits compiled.nodes compiled.homes machine compiled.plan)
    (built : IsBuilt compiled.nodes compiled.homes compiled.plan compiled.switch timing compiled.image) (are : AreClaimsOf compiled claims) where
  port_low : (p : ℕ) (port : PortImage) → IsPort compiled.image p port → p < ports_of compiled.homes
  port_low p port at =
      let low = slice_get_within compiled.image.ports p port at in
      let count = built.matches.ports in
      let ports = built.planned.ports in
      omega (arith, low, count, ports)

  -- what a port claims is at it
  at_home : (p : ℕ) (port : PortImage) → IsPort compiled.image p port → (i x : ℕ) → IsClaim built.claims p i x → home_of compiled.homes x ≡ p
  at_home p port at i x claim =
      let found : (j : ℕ) × IsAt compiled.nodes compiled.homes p j × (x ≡ j) = (built.planned.items p (port_low p port at)).each i x claim in
      ap (home_of compiled.homes) found.2 ∙ found.1.1

  item_of : (p : ℕ) (port : PortImage) → IsPort compiled.image p port → (i x : ℕ) → IsClaim built.claims p i x
      → (item : Item) × (slice_get compiled.nodes.items x ≡ Some item) × Implements compiled.image built.claims compiled.nodes p port.ins port.work i item
  item_of p port at i x claim = let as_claimed = built.matches.items p i x port at claim in (as_claimed.item, as_claimed.is, as_claimed.same)

  port_tables : Each (λ port. length (tables_of port.work) ≤ MAX_FUNCTIONS) compiled.image.ports
  port_tables p port at =
      tables_few compiled.nodes compiled.homes machine compiled.image built.claims p port.ins (at_home p port at) port.work valid (built.matches.as_many p port at) (item_of p port at) (built.ordered p port at) (fits.tables p)

  port_bits : Each (λ port. bits_of port.work ≤ MAX_ARRAY_BITS) compiled.image.ports
  port_bits p port at = bits_few compiled.nodes compiled.homes machine compiled.image built.claims p port.ins port.work valid logic memories (built.ordered p port at)

  port_blocks : Each (λ port. length (blocks_of port.work) < 2 ^ 32) compiled.image.ports
  port_blocks p port at =
      let less = blocks_few compiled.nodes compiled.homes machine compiled.image built.claims p port.ins port.work (built.ordered p port at) in
      let few = formed.few_memories in
      omega (arith, less, few)

  array_at : (p : ℕ) (ins : List LinkIn) (work : Work) → IsOrdered compiled.nodes compiled.homes compiled.image built.claims p ins work → is_array work ≡ true → (compiled.homes.logic ≤ 0 + p) × (0 + p < host_of compiled.homes)
  array_at p ins (Logic tables tasks) order is = cc
  array_at p ins (Array blocks outs) (from, low, blocks_are) is = (omega (arith, from), omega (arith, low))
  array_at p ins (Host inputs printed) order is = cc

  few_arrays : count_by is_array_port compiled.image.ports ≤ MAX_ARRAY
  few_arrays =
      let count = (counted is_array_port compiled.homes.logic (host_of compiled.homes) 0 compiled.image.ports (λ p port at is. array_at p port.ins port.work (built.ordered p port at) is)).0 in
      let most = housed.array in
      omega (arith, count, most)

  -- a claim is the number of an item
  named : Each (λ (claims : PortClaims). Each IsSmall claims.items) claims.ports
  named p port at i x claim =
      let low : p < ports_of compiled.homes =
      let within = slice_get_within claims.ports p port at in
      let ports = are.planned.ports in
      omega (arith, within, length-map claims.ports (λ (port : PortClaims). port.items), ports) in
      let found : (j : ℕ) × IsAt compiled.nodes compiled.homes p j × (x ≡ j) =
      (are.planned.items p low).each i x (subst (λ items. slice_get items i ≡ Some x) (sym (claims_there claims p port (sym at))) claim) in
      let within = found.1.0 in
      let same = found.2 in
      let few = formed.few in
      omega (arith, within, same, few)

  pub design_in_ranges : IsInRanges (record { image = compiled.image; claims = claims })
  design_in_ranges = record {
    claims = are.whole;
    lines = lines_in_range (record { image = compiled.image; claims = claims }) built.fits (let same = built.matches.columns in omega (arith, columns, same)) are.words
        (λ p port at. let few = port_tables p port at in omega (arith, few)) port_blocks named;
    arrays = few_arrays;
    tables = all_of_each (λ port. length (tables_of port.work) ≤ MAX_FUNCTIONS) compiled.image.ports port_tables;
    bits = all_of_each (λ port. bits_of port.work ≤ MAX_ARRAY_BITS) compiled.image.ports port_bits;
  }
