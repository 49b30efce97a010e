-- A text reads as a machine exactly where it has no fault.
use Rattle.limits.specs.declared.TheConstants.{MAX_PORTS}
use Rattle.std.proofs.Common.{◌≡◌, ◌⊎◌, ℕ, suc, ◌+◌, ◌<◌, ◌≤◌, Bool, true, false, cond, nat_lt, List, [], ◌∷◌, length, take, get_or, Option, Some, None, sym, ap, ◌∙◌, subst, refl, inl, inr, arith}
use Rattle.std.proofs.lemmas.Bool.{cond-true, cond-false, cases_lt, lt-ltb, le-ltb, leb-true, and_parts, or_parts}
use Rattle.std.proofs.lemmas.List.{get_or-take, get_or_default, length-take-le}
use Rattle.std.proofs.lemmas.List.{Elements.All-from_recursion, Elements.All-from_get_or, Elements.recursion_from_All, Folds.list_any_none, Kept.AllPairs-cons}
use Rattle.std.specs.List.{All, AllPairs, AllByRecursion, list_any, find, cons_option}
use Rattle.std.specs.{Option.option_map, Option.option_or, Prelude.unwrap_or, Prelude.IfSome}
use Rattle.text_lines.specs.Answers.{first}
use Rattle.text_lines.proofs.lemmas.AnswerLemmas.{first_none, none_below, or_none}
use Rattle.machine_text.specs.declared.quantity.Quantity.TheVariants.{Logic, Array, Slots, Functions, Bits, Nodes}
use Rattle.machine_text.specs.declared.saying.Says.TheVariants.{Nothing, Sets, Limits, Other}
use Rattle.machine_text.specs.Quantities.{in_range, same_quantity, least_of, most_of, default_of, quantity_of}
use Rattle.machine_text.specs.Settings.{is_allowed, limit_of, limits_of, lines_say, same_given, sets, settings_of, setting_of}
use Rattle.machine_text.specs.Machines.{IsValid, Reads, absent_fault, fault_of, first_fault, line_fault, machine_fault, machine_of, machine_said, number_in, port_fault, ports_of, processors}
use Rattle.machine_text.specs.declared.{quantity.Quantity.Quantity, saying.Setting.Setting, saying.Says.Says, machine.Limited.Limited, machine.Machine.Machine}
use Rattle.machine_text.specs.declared.machine.{MachNo.MachNo, MachNo.TheVariants.Ports, MachNo.TheVariants.NoPort, PortLimit.PortLimit}
use Rattle.machine_text.specs.Limits.{is_at, limit_most, port_count}
use Rattle.machine_text.specs.declared.machine.Limited.TheVariants as limited

-- ---- one line

nothing_same : (says : List Says) → list_any (same_given Nothing) says ≡ false
nothing_same [] = refl
nothing_same (said ∷ says) = nothing_same says

fault_none : (earlier : List Says) (line : ℕ) (said : Says) → fault_of earlier line said ≡ None → (is_allowed said ≡ true) × (list_any (same_given said) earlier ≡ false)
fault_none earlier line said none = by_case said none where
  chosen : (a b : Bool) (f g : MachNo) → cond a (Some f) (cond b None (Some g)) ≡ None → (b ≡ true) × (a ≡ false)
  chosen true b f g e = cc
  chosen false true f g e = (refl, refl)
  chosen false false f g e = cc

  by_case : (said : Says) → fault_of earlier line said ≡ None → (is_allowed said ≡ true) × (list_any (same_given said) earlier ≡ false)
  by_case Nothing none = (refl, nothing_same earlier)
  by_case Other none = cc
  by_case (Sets quantity n) none = chosen (list_any (same_given (Sets quantity n)) earlier) (in_range quantity n) _ _ none
  by_case (Limits what port n) none = chosen (list_any (same_given (Limits what port n)) earlier) (in_range (quantity_of what) n) _ _ none

none_from : (earlier : List Says) (line : ℕ) (said : Says) → is_allowed said ≡ true → list_any (same_given said) earlier ≡ false → fault_of earlier line said ≡ None
none_from earlier line Nothing allowed new = refl
none_from earlier line Other allowed new = cc
none_from earlier line (Sets quantity n) allowed new = cond-false _ _ _ new ∙ cond-true _ _ _ allowed
none_from earlier line (Limits what port n) allowed new = cond-false _ _ _ new ∙ cond-true _ _ _ allowed

none_among : (p : Says → Bool) (says : List Says) → list_any p says ≡ false → AllByRecursion (λ said. p said ≡ false) says
none_among p [] none = tt
none_among p (said ∷ says) none = let both = or_parts (p said) (list_any p says) none in (both.0, none_among p says both.1)

-- ---- all lines

-- where no line has a fault each is allowed
pub allowed_from_no_fault : (says : List Says) → first (line_fault says) (length says) ≡ None → All (λ said. is_allowed said ≡ true) says
allowed_from_no_fault says none =
    All-from_get_or (λ said. is_allowed said ≡ true) says Nothing (λ i within. (fault_none (take i says) (i + 1) (get_or says i Nothing) (none_below (line_fault says) (length says) none i within)).0)

apart_from_no_fault : (says : List Says) → first (line_fault says) (length says) ≡ None → AllPairs (λ a b. same_given b a ≡ false) says
apart_from_no_fault says none i j d before within =
    let said = get_or says j Nothing in
    let new = (fault_none (take j says) (j + 1) said (none_below (line_fault says) (length says) none j within)).1 in
    let apart = All-from_recursion (λ a. same_given said a ≡ false) (take j says) (none_among (same_given said) (take j says) new) i d (omega (arith, length-take-le j says (omega arith))) in
    rw (get_or_default says j d Nothing within) (rw get_or-take at apart)

no_line_fault : (says : List Says) → All (λ said. is_allowed said ≡ true) says → AllPairs (λ a b. same_given b a ≡ false) says → first (line_fault says) (length says) ≡ None
no_line_fault says allowed once =
    first_none (line_fault says) (length says) (λ i within.
    let said = get_or says i Nothing in
    let earlier : All (λ a. same_given said a ≡ false) (take i says) = All-from_get_or (λ a. same_given said a ≡ false) (take i says) Nothing (λ k below.
    let before : k < i = omega (arith, length-take-le i says (omega arith)) in
    rw (get_or-take i says k Nothing before) (once k i Nothing before within)) in
    none_from (take i says) (i + 1) said (allowed i Nothing within) (list_any_none (same_given said) (take i says) earlier))

-- ---- the numbers of all ports

same_is : (a b : Quantity) → same_quantity a b ≡ true → a ≡ b
same_is Logic Logic e = refl
same_is Array Array e = refl
same_is Slots Slots e = refl
same_is Functions Functions e = refl
same_is Bits Bits e = refl
same_is Nodes Nodes e = refl
same_is _ _ e = cc

default_in_range : (quantity : Quantity) → in_range quantity (default_of quantity) ≡ true
default_in_range Logic = refl
default_in_range other = refl

number_in_range : (says : List Says) (quantity : Quantity) → AllByRecursion (λ said. is_allowed said ≡ true) says → in_range quantity (number_in (settings_of says) quantity) ≡ true
unfolding settings_of
number_in_range [] quantity allowed = default_in_range quantity
number_in_range (said ∷ says) quantity allowed =
    more said (settings_of says) allowed.0 (number_in_range says quantity allowed.1)
  where
    pick : (b : Bool) (a : Quantity) (n : ℕ) (rest : List Setting) → (b ≡ true → in_range quantity n ≡ true) → in_range quantity (number_in rest quantity) ≡ true → in_range quantity (unwrap_or (option_map (λ setting. setting.value) (cond b (Some (record { quantity = a; value = n })) (find (sets quantity) rest))) (default_of quantity)) ≡ true
    pick true a n rest here below = here refl
    pick false a n rest here below = below

    more : (said : Says) (rest : List Setting) → is_allowed said ≡ true → in_range quantity (number_in rest quantity) ≡ true → in_range quantity (number_in (cons_option (setting_of said) rest) quantity) ≡ true
    more Nothing rest allowed within = within
    more Other rest allowed within = cc
    more (Limits what port n) rest allowed within = within
    more (Sets a n) rest allowed within =
        pick (same_quantity quantity a) a n rest (λ e. subst (λ q. in_range q n ≡ true) (sym (same_is quantity a e)) allowed) within

-- the number of a quantity is in its range
pub bounds_from_allowed : (says : List Says) (quantity : Quantity) → All (λ said. is_allowed said ≡ true) says → (least_of quantity ≤ number_in (settings_of says) quantity) × (number_in (settings_of says) quantity ≤ most_of quantity)
bounds_from_allowed says quantity allowed =
    let within = and_parts _ _ (number_in_range says quantity (recursion_from_All (λ said. is_allowed said ≡ true) says allowed)) in
    (leb-true _ _ within.0, leb-true _ _ within.1)

-- ---- the limits of single ports

-- what holds of the limit of each line holds of each limit, and the other way round
each_limit : (P : PortLimit → Type 0) (says : List Says) → AllByRecursion (λ said. IfSome (limit_of said) P) says → AllByRecursion P (limits_of says)
unfolding limits_of
each_limit P [] all = tt
each_limit P (Limits what port n ∷ says) all = (all.0, each_limit P says all.1)
each_limit P (said ∷ says) all = each_limit P says all.1

each_line : (P : PortLimit → Type 0) (says : List Says) → AllByRecursion P (limits_of says) → AllByRecursion (λ said. IfSome (limit_of said) P) says
unfolding limits_of
each_line P [] all = tt
each_line P (Limits what port n ∷ says) all = (all.0, each_line P says all.1)
each_line P (said ∷ says) all = (tt, each_line P says all)

limits_from_lines : (P : PortLimit → Type 0) (says : List Says) → All (λ said. IfSome (limit_of said) P) says → All P (limits_of says)
limits_from_lines P says all = All-from_recursion P (limits_of says) (each_limit P says (recursion_from_All (λ said. IfSome (limit_of said) P) says all))

lines_from_limits : (P : PortLimit → Type 0) (says : List Says) → All P (limits_of says) → All (λ said. IfSome (limit_of said) P) says
lines_from_limits P says all = All-from_recursion (λ said. IfSome (limit_of said) P) says (each_line P says (recursion_from_All P (limits_of says) all))

-- the port that has the limit is there
abbrev IsThere : ℕ → ℕ → PortLimit → Type 0
IsThere logic array own = own.port < processors logic array own.what

there_from_none : (logic array line : ℕ) (said : Says) → absent_fault logic array line said ≡ None → IfSome (limit_of said) (IsThere logic array)
there_from_none logic array line (Limits what port n) none = chosen (cases_lt port (processors logic array what)) where
  chosen : (port < processors logic array what) ⊎ (processors logic array what ≤ port) → port < processors logic array what
  chosen (inl below) = below
  chosen (inr past) = cc (sym (cond-false _ None (Some (NoPort line)) (le-ltb _ _ past)) ∙ none)
there_from_none logic array line said none = tt

none_from_there : (logic array line : ℕ) (said : Says) → IfSome (limit_of said) (IsThere logic array) → absent_fault logic array line said ≡ None
none_from_there logic array line (Limits what port n) there = cond-true _ _ _ (lt-ltb _ _ there)
none_from_there logic array line said there = refl

there_from_no_fault : (logic array : ℕ) (says : List Says) → first (port_fault logic array says) (length says) ≡ None → All (IsThere logic array) (limits_of says)
there_from_no_fault logic array says none =
    limits_from_lines (IsThere logic array) says (All-from_get_or (λ said. IfSome (limit_of said) (IsThere logic array)) says Nothing (λ i within. there_from_none logic array (i + 1) (get_or says i Nothing) (none_below (port_fault logic array says) (length says) none i within)))

no_fault_from_there : (logic array : ℕ) (says : List Says) → All (IsThere logic array) (limits_of says) → first (port_fault logic array says) (length says) ≡ None
no_fault_from_there logic array says there =
    let lines = lines_from_limits (IsThere logic array) says there in
    first_none (port_fault logic array says) (length says) (λ i within. none_from_there logic array (i + 1) (get_or says i Nothing) (lines i Nothing within))

processors_counted : (machine : Machine) (what : Limited) → processors machine.logic machine.array what ≡ port_count machine what
processors_counted machine limited.Functions = refl
processors_counted machine limited.Nodes = refl
processors_counted machine limited.Bits = refl

limit_bounds : (said : Says) → is_allowed said ≡ true → IfSome (limit_of said) (λ own. (1 ≤ own.limit) × (own.limit ≤ limit_most own.what))
limit_bounds (Limits limited.Functions port n) allowed = let both = and_parts _ _ allowed in (leb-true _ _ both.0, leb-true _ _ both.1)
limit_bounds (Limits limited.Nodes port n) allowed = let both = and_parts _ _ allowed in (leb-true _ _ both.0, leb-true _ _ both.1)
limit_bounds (Limits limited.Bits port n) allowed = let both = and_parts _ _ allowed in (leb-true _ _ both.0, leb-true _ _ both.1)
limit_bounds said allowed = tt

limits_once : (says : List Says) → AllPairs (λ a b. same_given b a ≡ false) says → AllPairs (λ a b. is_at a.what a.port b ≡ false) (limits_of says)
unfolding limits_of
limits_once [] once = λ i j d low up. absurd (omega (arith, up))
limits_once (said ∷ says) once =
    by_case said (λ i d within. once 0 (suc i) d (omega arith) (omega (arith, within))) (limits_once says (λ i j d low up. once (suc i) (suc j) d (omega (arith, low)) (omega (arith, up))))
  where
    other_port : (what : Limited) (port n : ℕ) (said : Says) → same_given said (Limits what port n) ≡ false → IfSome (limit_of said) (λ own. is_at what port own ≡ false)
    other_port what port n (Limits which other m) apart = apart
    other_port what port n said apart = tt

    is_apart : Limited → ℕ → PortLimit → Type 0
    is_apart what port own = is_at what port own ≡ false

    by_case : (said : Says) → All (λ b. same_given b said ≡ false) says → AllPairs (λ a b. is_at a.what a.port b ≡ false) (limits_of says) → AllPairs (λ a b. is_at a.what a.port b ≡ false) (cons_option (limit_of said) (limits_of says))
    by_case (Limits what port n) apart later =
        AllPairs-cons (λ a b. is_at a.what a.port b ≡ false) (record { what = what; port = port; limit = n }) (limits_of says)
        (limits_from_lines (is_apart what port) says (λ i d within. other_port what port n (get_or says i d) (apart i d within)))
        later
    by_case said apart later = later

-- ---- the text

ports_none : (machine : Machine) (says : List Says) → machine_fault machine says ≡ None → (ports_of machine ≤ MAX_PORTS) × (first (port_fault machine.logic machine.array says) (length says) ≡ None)
ports_none machine says none = by_ports (cases_lt MAX_PORTS (ports_of machine)) where
  some_is_not_none : {x : MachNo} → Some x ≡ None → ⊥
  some_is_not_none e = cc

  by_ports : (MAX_PORTS < ports_of machine) ⊎ (ports_of machine ≤ MAX_PORTS) → (ports_of machine ≤ MAX_PORTS) × (first (port_fault machine.logic machine.array says) (length says) ≡ None)
  by_ports (inl many) = absurd (some_is_not_none (sym (cond-true (nat_lt MAX_PORTS (ports_of machine)) (Some (Ports (ports_of machine))) (first (port_fault machine.logic machine.array says) (length says)) (lt-ltb _ _ many)) ∙ none))
  by_ports (inr few) = (few, sym (cond-false (nat_lt MAX_PORTS (ports_of machine)) (Some (Ports (ports_of machine))) (first (port_fault machine.logic machine.array says) (length says)) (le-ltb _ _ few)) ∙ none)

-- a text whose lines have no fault, with few enough ports that are there, reads as the machine that they make
pub reads_from_made : (text : List ℕ) (machine : Machine) → machine ≡ machine_said (lines_say text) → first (line_fault (lines_say text)) (length (lines_say text)) ≡ None → ports_of machine ≤ MAX_PORTS → first (port_fault machine.logic machine.array (lines_say text)) (length (lines_say text)) ≡ None → Reads text machine
reads_from_made text machine is none few ports = record {
  lines = allowed_from_no_fault (lines_say text) none;
  once = apart_from_no_fault (lines_say text) none;
  numbers = is;
  ports = few;
  own = rw (ap (λ m. m.own) is) (λ i d within. subst (λ n. (get_or (limits_of (lines_say text)) i d).port < n) (processors_counted machine _) (there_from_no_fault machine.logic machine.array (lines_say text) ports i d within));
}

-- the same, part by part
pub reads_from_parts : (text : List ℕ) (settings : List Setting) (own : List PortLimit) (logic array : ℕ) (machine : Machine) → settings ≡ settings_of (lines_say text) → own ≡ limits_of (lines_say text) → logic ≡ number_in settings Logic → array ≡ number_in settings Array → machine ≡ machine_of settings own → first (line_fault (lines_say text)) (length (lines_say text)) ≡ None → logic + array + 1 ≤ MAX_PORTS → first (port_fault logic array (lines_say text)) (length (lines_say text)) ≡ None → Reads text machine
reads_from_parts text settings own logic array machine set limited is_logic is_array is none few ports =
    let logic_made : logic ≡ machine.logic = is_logic ∙ sym (ap (λ m. m.logic) is) in
    let array_made : array ≡ machine.array = is_array ∙ sym (ap (λ m. m.array) is) in
    reads_from_made text machine (is ∙ ap (λ s. machine_of s own) set ∙ ap (machine_of (settings_of (lines_say text))) limited) none
    (omega (arith, few, logic_made, array_made))
    (subst (λ a. first (port_fault machine.logic a (lines_say text)) (length (lines_say text)) ≡ None) array_made (subst (λ l. first (port_fault l array (lines_say text)) (length (lines_say text)) ≡ None) logic_made ports))

-- the ports' fault is the text's first one, where no line has one and there are few enough
pub fault_from_ports : (text : List ℕ) (settings : List Setting) (logic array : ℕ) (why : MachNo) → settings ≡ settings_of (lines_say text) → logic ≡ number_in settings Logic → array ≡ number_in settings Array → first (line_fault (lines_say text)) (length (lines_say text)) ≡ None → logic + array + 1 ≤ MAX_PORTS → first (port_fault logic array (lines_say text)) (length (lines_say text)) ≡ Some why → first_fault text ≡ Some why
fault_from_ports text settings logic array why set is_logic is_array none few fault =
    let says = lines_say text in
    let logic_made : logic ≡ number_in (settings_of says) Logic = is_logic ∙ ap (λ s. number_in s Logic) set in
    let array_made : array ≡ number_in (settings_of says) Array = is_array ∙ ap (λ s. number_in s Array) set in
    ap (λ fault. option_or fault (machine_fault (machine_said says) says)) none
    ∙ cond-false _ _ _ (le-ltb MAX_PORTS (ports_of (machine_said says)) (omega (arith, few, logic_made, array_made)))
    ∙ subst (λ a. first (port_fault (number_in (settings_of says) Logic) a says) (length says) ≡ Some why) array_made (subst (λ l. first (port_fault l array says) (length says) ≡ Some why) logic_made fault)

pub lines_from_reads : (text : List ℕ) (machine : Machine) → Reads text machine → first (line_fault (lines_say text)) (length (lines_say text)) ≡ None
lines_from_reads text machine reads = no_line_fault (lines_say text) reads.lines reads.once

pub ports_from_reads : (text : List ℕ) (machine : Machine) → Reads text machine → first (port_fault machine.logic machine.array (lines_say text)) (length (lines_say text)) ≡ None
ports_from_reads text machine reads =
    no_fault_from_there machine.logic machine.array (lines_say text) (λ i d within.
    subst (λ n. (get_or (limits_of (lines_say text)) i d).port < n) (sym (processors_counted machine _)) (subst (λ own. (i : ℕ) (d : PortLimit) → i < length own → (get_or own i d).port < port_count machine (get_or own i d).what) (ap (λ m. m.own) reads.numbers) reads.own i d within))

-- what reads as a machine has no fault
pub no_fault_from_reads : (text : List ℕ) (machine : Machine) → Reads text machine → first_fault text ≡ None
no_fault_from_reads text machine reads =
    ap (λ fault. option_or fault (machine_fault (machine_said (lines_say text)) (lines_say text))) (lines_from_reads text machine reads)
    ∙ subst (λ m. machine_fault m (lines_say text) ≡ None) reads.numbers (cond-false _ _ _ (le-ltb MAX_PORTS (ports_of machine) reads.ports) ∙ ports_from_reads text machine reads)

-- what a text reads as is a valid machine
pub valid_from_reads : (text : List ℕ) (machine : Machine) → Reads text machine → IsValid machine
valid_from_reads text machine reads =
    let says = lines_say text in
    let logic = bounds_from_allowed says Logic reads.lines in
    let array = bounds_from_allowed says Array reads.lines in
    let slots = bounds_from_allowed says Slots reads.lines in
    let functions = bounds_from_allowed says Functions reads.lines in
    let bits = bounds_from_allowed says Bits reads.lines in
    let nodes = bounds_from_allowed says Nodes reads.lines in
    let own : All (λ own. own.port < port_count (machine_said says) own.what) (limits_of says) = subst (λ m. All (λ own. own.port < port_count m own.what) m.own) reads.numbers reads.own in
    let limits = limits_from_lines (λ own. (1 ≤ own.limit) × (own.limit ≤ limit_most own.what)) says (λ i d within. limit_bounds (get_or says i d) (reads.lines i d within)) in
    subst IsValid (sym reads.numbers) (record {
      logic_least = logic.0;
      logic_most = logic.1;
      array_most = array.1;
      slots_least = slots.0;
      slots_most = slots.1;
      functions_least = functions.0;
      functions_most = functions.1;
      bits_least = bits.0;
      bits_most = bits.1;
      nodes_least = nodes.0;
      nodes_most = nodes.1;
      ports = subst (λ m. ports_of m ≤ MAX_PORTS) reads.numbers reads.ports;
      own = λ i d within. record { least = (limits i d within).0; most = (limits i d within).1; port = own i d within };
      once = limits_once says reads.once;
    })

-- a text reads as one machine
pub one_machine : (text : List ℕ) (machine other : Machine) → Reads text machine → Reads text other → machine ≡ other
one_machine text machine other reads reads_other = reads.numbers ∙ sym reads_other.numbers

-- ---- each text reads, or has a fault

pub reads_or_fault : (text : List ℕ) → ((machine : Machine) × Reads text machine) ⊎ ((why : MachNo) × (first_fault text ≡ Some why))
reads_or_fault text = by_fault (first_fault text) refl where
  by_fault : (o : Option MachNo) → first_fault text ≡ o → ((machine : Machine) × Reads text machine) ⊎ ((why : MachNo) × (first_fault text ≡ Some why))
  by_fault (Some why) is = inr (why, is)
  by_fault None is =
      let machine = machine_said (lines_say text) in
      let both = or_none (first (line_fault (lines_say text)) (length (lines_say text))) (machine_fault machine (lines_say text)) is in
      let ports = ports_none machine (lines_say text) both.1 in
      inl (machine, reads_from_made text machine refl both.0 ports.0 ports.1)
