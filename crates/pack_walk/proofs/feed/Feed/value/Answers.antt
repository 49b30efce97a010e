use Rattle.std.proofs.Common.{◌≡◌, ◌∙◌, ◌<◌, Some, length, get_or, slice_get, ap, arith, subst}
use Rattle.std.proofs.lemmas.Option.{slice_get_read}
use Rattle.pack_walk.specs.code.Feeds.{FeedView, IsFed}
use Rattle.pack_walk.proofs.feed.Feed.value.Goals as goal

pub bounds-as_slice-column : goal.bounds-as_slice-column
bounds-as_slice-column c =
    let width = ap (λ (v : FeedView). v.columns) c.self.view_is in
    omega (arith, c.requires, c.self.invariant.width, ap length c.as_slice.ensures)

pub returns : goal.returns
returns c =
    let a = c.self.inside in
    let k = c.args.column in
    let planes = c.index-as_slice-column.result in
    let width = ap (λ (v : FeedView). v.columns) c.self.view_is in
    let within : k < a.width = omega (arith, c.requires) in
    let read = c.index-as_slice-column.is ∙ ap (λ xs. get_or xs k planes) c.as_slice.ensures in
    let there : slice_get a.columns k ≡ Some planes =
    slice_get_read a.columns a.width k planes c.self.invariant.width within read in
    subst (λ (v : FeedView). IsFed v.columns v.lanes v.cycles k planes) c.self.view_is
    (c.self.invariant.columns k planes within there)
