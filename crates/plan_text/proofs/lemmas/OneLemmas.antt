-- There is one report.
use Rattle.std.proofs.Common.{◌≡◌, ◌∙◌, inl, inr, ℕ, zero, suc, ◌+◌, ◌-◌, ◌<◌, ◌≤◌, List, [], ◌++◌, length, get_or, codes, decimal, refl, sym, ap, arith}
use Rattle.std.proofs.lemmas.Bool.{cases_Bool, ltb-true, ltb-false}
use Rattle.std.specs.{List.flat_map, List.range_with_len, Prelude.nat_lt}
use Rattle.list_laws.proofs.Ranges.{sum_alike}
use Rattle.net_defs.specs.declared.netlist.Netlist.{Netlist}
use Rattle.node_defs.specs.declared.items.NodeNet.{NodeNet}
use Rattle.plan_defs.specs.{declared.plan.Homes.Homes, declared.plan.Plan.Plan, Homes.home_of, Homes.host_of, Homes.ports_of, Lists.Counts, Readers.IsReader}
use Rattle.plan_defs.specs.{Slots.slot_of, Tables.UsesTable}
use Rattle.switch_set.proofs.lemmas.SameLemmas.{one_lists}
use Rattle.plan_text.specs.Lines.{port_name, port_part, port_line, item_name, item_line, report_text}
use Rattle.plan_text.specs.{declared.figures.Figures.Figures, Counted.Receives, Counted.AreFigures, Counted.AreCrossings, Reports.IsReport}

one_count : (P : ℕ → Type 0) (m n : ℕ) → Counts P m → Counts P n → m ≡ n
one_count P m n one other = one.are ∙ (ap length (one_lists P one.numbers other.numbers one.lists other.lists) ∙ sym other.are)

-- ---- functions that agree on the first numbers

flat_agree : {A : Type 0} (f g : ℕ → List A) (a n : ℕ) → ((i : ℕ) → i < a + n → f i ≡ g i) → flat_map f (range_with_len a n) ≡ flat_map g (range_with_len a n)
flat_agree f g a zero same = refl
flat_agree f g a (suc n) same =
    ap (λ xs. xs ++ flat_map f (range_with_len (a + 1) n)) (same a (omega arith)) ∙ ap (λ xs. g a ++ xs) (flat_agree f g (a + 1) n (λ i low. same i (omega (arith, low))))

pub flat_below : {A : Type 0} (f g : ℕ → List A) (n : ℕ) → ((i : ℕ) → i < n → f i ≡ g i) → flat_map f (range_with_len 0 n) ≡ flat_map g (range_with_len 0 n)
flat_below f g n same = flat_agree f g 0 n (λ i low. same i (omega (arith, low)))

-- ---- the lines

part_same : (homes : Homes) (f g : Figures) (port : ℕ) → (port < homes.logic → get_or f.tables port 0 ≡ get_or g.tables port 0)
    → (homes.logic ≤ port → port < host_of homes → get_or f.bits (port - homes.logic) 0 ≡ get_or g.bits (port - homes.logic) 0) → port_part homes f port ≡ port_part homes g port
unfolding port_part
part_same homes f g port tables bits = elim (cases_Bool (nat_lt port homes.logic)) [
  | inl is ↦ rw is (ap (λ n. codes " tables " ++ decimal n) (tables (ltb-true port homes.logic is)))
  | inr past ↦
      let from : homes.logic ≤ port = ltb-false port homes.logic past in
      rw past (elim (cases_Bool (nat_lt port (host_of homes))) [
        | inl is ↦ rw is (ap (λ n. codes " bits " ++ decimal n) (bits from (ltb-true port (host_of homes) is)))
        | inr end ↦ rw end refl
      ])
]

line_same : (homes : Homes) (f g : Figures) (port : ℕ) → get_or f.items port 0 ≡ get_or g.items port 0 → port_part homes f port ≡ port_part homes g port → get_or f.takes port 0 ≡ get_or g.takes port 0
    → port_line homes f port ≡ port_line homes g port
unfolding port_line
line_same homes f g port items part takes =
    ap (λ n. port_name homes port ++ codes " items " ++ decimal n ++ port_part homes f port ++ codes " takes " ++ decimal (get_or f.takes port 0) ++ codes "\n") items
    ∙ (ap (λ xs. port_name homes port ++ codes " items " ++ decimal (get_or g.items port 0) ++ xs ++ codes " takes " ++ decimal (get_or f.takes port 0) ++ codes "\n") part
    ∙ ap (λ n. port_name homes port ++ codes " items " ++ decimal (get_or g.items port 0) ++ port_part homes g port ++ codes " takes " ++ decimal n ++ codes "\n") takes)

item_same : (net : Netlist) (nodes : NodeNet) (homes : Homes) (slots : List ℕ) (f g : Figures) (i : ℕ) → get_or f.readers.lists i [] ≡ get_or g.readers.lists i [] → item_line net nodes homes slots f i ≡ item_line net nodes homes slots g i
unfolding item_line
item_same net nodes homes slots f g i readers =
    ap (λ ports. item_name net nodes i ++ codes " " ++ port_name homes (home_of homes i) ++ codes " " ++ decimal (slot_of slots i) ++ flat_map (λ port. codes " " ++ port_name homes port) ports ++ codes "\n") readers

module _ (net : Netlist) (nodes : NodeNet) (homes : Homes) (plan : Plan) (f g : Figures) (one : AreFigures nodes homes plan.slots f) (other : AreFigures nodes homes plan.slots g) where
  port_same : (port : ℕ) → port < ports_of homes → port_line homes f port ≡ port_line homes g port
  port_same port low =
      line_same homes f g port
      (one.items port low ∙ sym (other.items port low))
      (part_same homes f g port
      (λ logic. one_count (UsesTable nodes homes port) _ _ (one.tables port logic) (other.tables port logic))
      (λ from below. let a : port - homes.logic < homes.array = omega (arith, from, below) in one.bits (port - homes.logic) a ∙ sym (other.bits (port - homes.logic) a)))
      (one_count (Receives nodes homes plan.slots port) _ _ (one.takes port low) (other.takes port low))

  read_same : (i : ℕ) → i < length nodes.items → item_line net nodes homes plan.slots f i ≡ item_line net nodes homes plan.slots g i
  read_same i low = item_same net nodes homes plan.slots f g i (one_lists (IsReader nodes homes i) _ _ (one.readers i low) (other.readers i low))

  pub text_same : report_text net nodes homes plan f ≡ report_text net nodes homes plan g
  unfolding report_text
  text_same =
      ap (λ xs. codes "slots " ++ decimal plan.needed ++ codes "\n" ++ xs ++ flat_map (item_line net nodes homes plan.slots f) (range_with_len 0 (length nodes.items))) (flat_below (port_line homes f) (port_line homes g) (ports_of homes) port_same)
      ∙ ap (λ xs. codes "slots " ++ decimal plan.needed ++ codes "\n" ++ flat_map (port_line homes g) (range_with_len 0 (ports_of homes)) ++ xs) (flat_below (item_line net nodes homes plan.slots f) (item_line net nodes homes plan.slots g) (length nodes.items) read_same)

pub reports_agree : (net : Netlist) (nodes : NodeNet) (homes : Homes) (plan : Plan) (one other : List ℕ) → IsReport net nodes homes plan one → IsReport net nodes homes plan other → one ≡ other
reports_agree net nodes homes plan one other first second = first.is ∙ (text_same net nodes homes plan first.figures second.figures first.are second.are ∙ sym second.is)

pub crossings_agree : (nodes : NodeNet) (homes : Homes) (one other : ℕ) → AreCrossings nodes homes one → AreCrossings nodes homes other → one ≡ other
crossings_agree nodes homes one other first second =
    first.is ∙ (sum_alike (λ i. length (first.readers i)) (λ i. length (second.readers i)) (length nodes.items)
    (λ i low. ap length (one_lists (IsReader nodes homes i) (first.readers i) (second.readers i) (first.are i low) (second.are i low))) ∙ sym second.is)
