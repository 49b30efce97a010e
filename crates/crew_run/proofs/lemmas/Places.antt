-- Members of lists by their places, passed on from `list_laws`. Declares nothing.
pub use Rattle.list_laws.proofs.Members.{beside, each_push, member_at, set_other, set_same}
pub use Rattle.list_laws.proofs.Options.{one_some}
pub use Rattle.list_laws.proofs.Places.{read_below}
