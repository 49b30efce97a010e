-- A text reads as a list of stuck faults exactly where it has no fault.
use Rattle.std.proofs.Common.{◌≡◌, ◌≢◌, ◌⊎◌, ℕ, ◌+◌, ◌<◌, ◌∙◌, Bool, true, false, cond, List, [], ◌∷◌, length, get_or, Option, Some, None, inl, inr, sym, ap, ap₂, subst, refl, arith, bytes_eq, codes}
use Rattle.std.proofs.lemmas.{Bool.cond-false, List.length-map, List.Quantifiers.position-Some}
use Rattle.std.specs.Prelude.{All, AllPairs}
use Rattle.text_lines.specs.{Lines.parts_of, Words.words_of}
use Rattle.logic_four.specs.declared.V4.{V4, TheVariants.Zero, TheVariants.One}
use Rattle.net_defs.specs.{declared.faults.Fault.Fault, declared.netlist.Netlist.Netlist, declared.netlist.Signal.Signal, Valid.IsFault}
use Rattle.bench_read.specs.StuckLists.{value_of, value_in, value_after, signal_named, stuck_at, stuck_by, stuck_of, stuck_in, Reads, bit_of, number_of, stuck_fault, value_fault, words_fault, fault_of, first_fault}
use Rattle.bench_read.specs.{declared.refusal.FaultNo.FaultNo, declared.refusal.FaultNo.TheVariants.Twice, GateLists.is_name, GateLists.names_in, Once.is_among}
use Rattle.bench_read.specs.code.StuckLists.{AreStuckMarks}
use Rattle.bench_read.proofs.OnceLemmas.{IsFine, Differ, named_hold, once_from_none, none_from_once}
use Rattle.bench_read.proofs.OnlyLemmas.{value_or_fault}

-- ---- one line

fresh : (line : ℕ) (again : Bool) → cond again (Some (Twice line)) None ≡ None → again ≡ false
fresh line true none = cc
fresh line false none = refl

-- what words without a fault are, after lines that named these: none, or a stuck fault that is not among them
abbrev AreFine : Netlist → List Fault → List (List ℕ) → Type 0
AreFine net named words =
    ((words ≡ []) × (stuck_by net words ≡ None)) ⊎ ((stuck : Fault) × (stuck_by net words ≡ Some stuck) × (is_among number_of named stuck ≡ false))

fine_value : (named : List Fault) (line : ℕ) (signal : Option ℕ) (value : Option V4) → value_fault named line signal value ≡ None → (stuck : Fault) × (stuck_at signal value ≡ Some stuck) × (is_among number_of named stuck ≡ false)
fine_value named line signal None none = cc
fine_value named line None (Some v) none = cc
fine_value named line (Some s) (Some v) none =
    (record { signal = s; value = v }, refl, fresh line (is_among number_of named (record { signal = s; value = v })) none)

fine_words : (net : Netlist) (named : List Fault) (line : ℕ) (words : List (List ℕ)) → words_fault net named line words ≡ None → AreFine net named words
fine_words net named line [] none = inl (refl, refl)
fine_words net named line (name ∷ words) none = inr (fine_value named line (signal_named net name) (value_after name words) none)

fine_from_none : (net : Netlist) (named : List Fault) (line : ℕ) (part : List ℕ) → fault_of net named line part ≡ None → IsFine number_of (stuck_of net) named part
unfolding fault_of stuck_of
fine_from_none net named line part none = fine_words net named line (words_of part) none

none_value : (named : List Fault) (line : ℕ) (signal : Option ℕ) (value : Option V4) (stuck : Fault) → stuck_at signal value ≡ Some stuck → is_among number_of named stuck ≡ false → value_fault named line signal value ≡ None
none_value named line (Some s) (Some v) stuck is new =
    let same : record { signal = s; value = v } ≡ stuck = cc in
    cond-false (is_among number_of named (record { signal = s; value = v })) _ _ (ap (is_among number_of named) same ∙ new)
none_value named line signal value stuck is new = cc

none_words : (net : Netlist) (named : List Fault) (line : ℕ) (stuck : Fault) (words : List (List ℕ)) → stuck_by net words ≡ Some stuck → is_among number_of named stuck ≡ false → words_fault net named line words ≡ None
none_words net named line stuck [] is new = cc
none_words net named line stuck (name ∷ words) is new = none_value named line (signal_named net name) (value_after name words) stuck is new

none_from_stuck : (net : Netlist) (named : List Fault) (line : ℕ) (part : List ℕ) (stuck : Fault) → stuck_of net part ≡ Some stuck → is_among number_of named stuck ≡ false → fault_of net named line part ≡ None
unfolding fault_of stuck_of
none_from_stuck net named line part stuck is new = none_words net named line stuck (words_of part) is new

none_from_blank : (net : Netlist) (named : List Fault) (line : ℕ) (part : List ℕ) → words_of part ≡ [] → fault_of net named line part ≡ None
unfolding fault_of
none_from_blank net named line part blank = ap (words_fault net named line) blank

-- ---- what a line names is a stuck fault of the netlist

abbrev IsKnown : V4 → Type 0
IsKnown value = (value ≡ Zero) ⊎ (value ≡ One)

known_by : (a b : Bool) (value : V4) → cond a (Some Zero) (cond b (Some One) None) ≡ Some value → IsKnown value
known_by true b value is = let same : Zero ≡ value = cc in inl (sym same)
known_by false true value is = let same : One ≡ value = cc in inr (sym same)
known_by false false value is = cc

known_value : (word : List ℕ) (value : V4) → value_of word ≡ Some value → IsKnown value
unfolding value_of
known_value word value is = known_by (bytes_eq word (codes "0")) (bytes_eq word (codes "1")) value is

known_if : (b : Bool) (o : Option V4) (value : V4) → (o ≡ Some value → IsKnown value) → cond b o None ≡ Some value → IsKnown value
known_if true o value known is = known is
known_if false o value known is = cc

known_in : (words : List (List ℕ)) (value : V4) → value_in words ≡ Some value → IsKnown value
known_in [] value is = cc
known_in (word ∷ []) value is = known_value word value is
known_in (word ∷ mark ∷ []) value is = known_if (bytes_eq mark (codes "-")) (value_of word) value (known_value word value) is
known_in (word ∷ mark ∷ other ∷ words) value is = cc

known_after : (name : List ℕ) (words : List (List ℕ)) (value : V4) → value_after name words ≡ Some value → IsKnown value
unfolding value_after
known_after name words value is = known_if (is_name name) (value_in words) value (known_in words value) is

-- the signal of a name is there
signal_within : (net : Netlist) (name : List ℕ) (s : ℕ) → signal_named net name ≡ Some s → s < length net.signals
unfolding signal_named
signal_within net name s is =
    omega (arith, (position-Some (bytes_eq name) (names_in net) s [] is).0, length-map net.signals (λ (signal : Signal). signal.name))

stuck_is : (net : Netlist) (signal : Option ℕ) (value : Option V4) (stuck : Fault) → ((s : ℕ) → signal ≡ Some s → s < length net.signals) → ((v : V4) → value ≡ Some v → IsKnown v) → stuck_at signal value ≡ Some stuck → IsFault net stuck
stuck_is net (Some s) (Some v) stuck within known is =
    let same : record { signal = s; value = v } ≡ stuck = cc in
    subst (IsFault net) same (record { signal = within s refl; value = known v refl })
stuck_is net signal value stuck within known is = cc

words_are : (net : Netlist) (words : List (List ℕ)) (stuck : Fault) → stuck_by net words ≡ Some stuck → IsFault net stuck
words_are net [] stuck is = cc
words_are net (name ∷ words) stuck is = stuck_is net (signal_named net name) (value_after name words) stuck (signal_within net name) (known_after name words) is

pub line_is : (net : Netlist) (part : List ℕ) (stuck : Fault) → stuck_of net part ≡ Some stuck → IsFault net stuck
unfolding stuck_of
line_is net part stuck is = words_are net (words_of part) stuck is

pub stuck_are : (net : Netlist) (parts : List (List ℕ)) → All (IsFault net) (stuck_in net parts)
stuck_are net parts = named_hold (stuck_of net) (IsFault net) (line_is net) parts

-- ---- numbers of stuck faults

-- the number of one of a netlist is below twice the signals
pub number_within : (net : Netlist) (stuck : Fault) → IsFault net stuck → number_of stuck < length net.signals + length net.signals
number_within net stuck is = elim is.value [
  | inl zero ↦ omega (arith, is.signal, ap bit_of zero)
  | inr one ↦ omega (arith, is.signal, ap bit_of one)
]

-- two of them with one number are the same
one_number : (net : Netlist) (a b : Fault) → IsFault net a → IsFault net b → number_of a ≡ number_of b → a ≡ b
one_number net a b is other same = elim is.value [
  | inl zero ↦ elim other.value [
    | inl none ↦ one_fault (omega (arith, same, ap bit_of zero, ap bit_of none)) (zero ∙ sym none)
    | inr some ↦ absurd (omega (arith, same, ap bit_of zero, ap bit_of some))
  ]
  | inr one ↦ elim other.value [
    | inl none ↦ absurd (omega (arith, same, ap bit_of one, ap bit_of none))
    | inr some ↦ one_fault (omega (arith, same, ap bit_of one, ap bit_of some)) (one ∙ sym some)
  ]
]
  where
    one_fault : a.signal ≡ b.signal → a.value ≡ b.value → a ≡ b
    one_fault signal value = ap₂ (λ (s : ℕ) (v : V4). record { signal = s; value = v }) signal value

-- ---- the words of a line

-- the stuck fault of a line of the form, and its fault, after lines that named those whose marks are set
pub record IsLineOf (net : Netlist) (named : List Fault) (line : ℕ) (part : List ℕ) (stuck : Fault) (again : Bool) : Type 0 where
  pub stuck_is : stuck_of net part ≡ Some stuck
  pub fault_is : fault_of net named line part ≡ cond again (Some (Twice line)) None

pub line_of_words : (net : Netlist) (named : List Fault) (marks : List Bool) (line : ℕ) (part name : List ℕ) (words : List (List ℕ)) (value : V4) (stuck : Fault) (again : Bool) → AreStuckMarks net named marks → words_of part ≡ name ∷ words → Some value ≡ value_after name words
    → Some stuck ≡ stuck_at (signal_named net name) (Some value) → get_or marks (number_of stuck) false ≡ again → IsLineOf net named line part stuck again
unfolding fault_of stuck_of
line_of_words net named marks line part name words value stuck again are is valued at mark =
    let names : stuck_by net (words_of part) ≡ Some stuck = ap (stuck_by net) is ∙ ap (stuck_at (signal_named net name)) (sym valued) ∙ sym at in
    let within = number_within net stuck (words_are net (words_of part) stuck names) in
    record {
      stuck_is = names;
      fault_is =
          ap (words_fault net named line) is
          ∙ ap (value_fault named line (signal_named net name)) (sym valued)
          ∙ ap (stuck_fault named line) (sym at)
          ∙ ap (λ b. cond b (Some (Twice line)) None) (sym (are.here (number_of stuck) (omega (arith, within, are.count))) ∙ mark);
    }

-- ---- texts

-- no fault, so the text reads
pub reads_from_none : (net : Netlist) (text : List ℕ) (faults : List Fault) → first_fault net text ≡ None → faults ≡ stuck_in net (parts_of text) → Reads net text faults
reads_from_none net text faults none is =
    let once = once_from_none number_of (stuck_of net) (fault_of net) (fine_from_none net) (parts_of text) none in
    record {
      lines = once.0;
      are = is;
      once = subst (AllPairs (λ a b. a ≢ b)) (sym is) (λ i j d before within same. once.1 i j d before within (ap number_of same));
    }

-- what it reads as are stuck faults of the netlist
pub faults_from_reads : (net : Netlist) (text : List ℕ) (faults : List Fault) → Reads net text faults → All (IsFault net) faults
faults_from_reads net text faults reads = subst (All (IsFault net)) (sym reads.are) (stuck_are net (parts_of text))

-- the text reads, so it has no fault
pub none_from_reads : (net : Netlist) (text : List ℕ) (faults : List Fault) → Reads net text faults → first_fault net text ≡ None
none_from_reads net text faults reads =
    none_from_once number_of (stuck_of net) (fault_of net) (none_from_blank net) (none_from_stuck net) (parts_of text) reads.lines (differ (stuck_in net (parts_of text)) (stuck_are net (parts_of text)) (subst (AllPairs (λ a b. a ≢ b)) reads.are reads.once))
  where
    differ : (xs : List Fault) → All (IsFault net) xs → AllPairs (λ a b. a ≢ b) xs → Differ number_of xs
    differ xs all once i j d before within same =
        once i j d before within (one_number net (get_or xs i d) (get_or xs j d) (all i d (omega arith)) (all j d within) same)

-- it reads as one list
pub one_list : (net : Netlist) (text : List ℕ) (faults other : List Fault) → Reads net text faults → Reads net text other → faults ≡ other
one_list net text faults other reads reads_other = reads.are ∙ sym reads_other.are

-- each text reads as a list of stuck faults, or it has a first fault
pub reads_or_fault : (net : Netlist) (text : List ℕ) → ((faults : List Fault) × Reads net text faults) ⊎ ((why : FaultNo) × (first_fault net text ≡ Some why))
reads_or_fault net text = value_or_fault (Reads net text) (first_fault net text) (stuck_in net (parts_of text)) (λ none. reads_from_none net text _ none refl)
