use Rattle.std.proofs.Common.{MatchOption, None, Option, Some, ◌-◌, ◌<◌, ◌∙◌, ◌≡◌, List, ap, arith, length, slice_get, subst, sym, ℕ}
use Rattle.image_defs.specs.{Places.IsPort, Places.host_of, Places.printed_of, declared.image.PortImage.PortImage, declared.image.Source.Source}
use Rattle.image_defs.specs.{Matches.Carries, Claimed.ColumnMatches, Claimed.IsFirstColumn, Claimed.lists_of}
use Rattle.node_defs.specs.declared.items.{Feed.TheVariants.From, NodeNet.NodeNet, Tag.TheVariants.This}
use Rattle.image_check.specs.{code.Differences.IsFirstUnprinted, code.Differences.PrintsAt, declared.claims.OnePort.OnePort}
use Rattle.image_check.proofs.FirstLemmas.{host_there}
use Rattle.image_check.proofs.places.first_column.Goals as goal

pub overflow_sub-port : goal.overflow_sub-port
overflow_sub-port c = omega (arith, c.requires.some, ap length c.as_slice-ports.ensures)

pub bounds-ports-ports : goal.bounds-ports-ports
bounds-ports-ports c = omega (arith, c.requires.some, ap length c.as_slice-ports.ensures)

pub overflow_sub-one : goal.overflow_sub-one
overflow_sub-one c = omega (arith, c.requires.some, ap length c.as_slice-ports.ensures)

pub overflow_cast-one : goal.overflow_cast-one
overflow_cast-one c = omega (arith, c.requires.some, c.requires.few, ap length c.as_slice-ports.ensures)

pub first_unprinted-requires : goal.first_unprinted-requires
first_unprinted-requires c =
    let there = host_there c.args.file.now.image c.as_slice-ports.result.now c.index-ports-ports.result c.as_slice-ports.ensures c.requires.some c.index-ports-ports.is in
    record {
      one = record { laid = c.requires.laid; is = subst (λ n. IsPort c.args.file.now.image n c.index-ports-ports.result) (ap (λ (ports : List PortImage). length ports - 1) (sym c.as_slice-ports.ensures)) there };
      as_many = ap length c.printed_sources-printed.ensures ∙ (c.requires.printed c.index-ports-ports.result there ∙ sym (ap length c.as_slice.ensures));
    }

-- the printed sources of the host are the columns
module _ (one : OnePort) (nodes : NodeNet) (printed : List Source) (items : List ℕ) (host : IsPort one.file.now.image (host_of one.file.now.image) one.port.now)
    (number : one.number ≡ host_of one.file.now.image) (printed_are : printed ≡ printed_of one.port.now.work) (items_are : items ≡ nodes.printed) where
  column_matches : (j : ℕ) → PrintsAt one printed items j → ColumnMatches one.file.now.image (lists_of one.file.now.claims) nodes j
  column_matches j prints x port source there at item =
      let same : one.port.now ≡ port = cc in
      subst (λ (q : PortImage). Carries one.file.now.image (lists_of one.file.now.claims) (host_of one.file.now.image) q.ins source (From x This)) same
      (subst (λ n. Carries one.file.now.image (lists_of one.file.now.claims) n one.port.now.ins source (From x This)) number
      (prints x source
      (ap (λ sources. slice_get sources j) printed_are ∙ (ap (λ (q : PortImage). slice_get (printed_of q.work) j) same ∙ at))
      (ap (λ xs. slice_get xs j) items_are ∙ item)))

  column_prints : (j : ℕ) → ColumnMatches one.file.now.image (lists_of one.file.now.claims) nodes j → PrintsAt one printed items j
  column_prints j matches x source at item =
      subst (λ n. Carries one.file.now.image (lists_of one.file.now.claims) n one.port.now.ins source (From x This)) (sym number)
      (matches x one.port.now source host (ap (λ sources. slice_get sources j) (sym printed_are) ∙ at) (ap (λ xs. slice_get xs j) (sym items_are) ∙ item))

  columns_by : (r : Option ℕ) → MatchOption r ((j : ℕ) → PrintsAt one printed items j) (IsFirstUnprinted one printed items)
      → MatchOption r ((j : ℕ) → ColumnMatches one.file.now.image (lists_of one.file.now.claims) nodes j) (IsFirstColumn one.file.now.image (lists_of one.file.now.claims) nodes)
  columns_by None all = λ j. column_matches j (all j)
  columns_by (Some j) first = record {
    within = subst (λ xs. j < length xs) items_are first.within;
    differs = λ matches. first.differs (column_prints j matches);
    before = λ k low. column_matches k (first.before k low);
  }

pub returns : goal.returns
returns c =
    let there = host_there c.args.file.now.image c.as_slice-ports.result.now c.index-ports-ports.result c.as_slice-ports.ensures c.requires.some c.index-ports-ports.is in
    columns_by _ c.args.nodes.now _ _ there (ap (λ (ports : List PortImage). length ports - 1) c.as_slice-ports.ensures) c.printed_sources-printed.ensures c.as_slice.ensures
    c.first_unprinted.result c.first_unprinted.ensures
