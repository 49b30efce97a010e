-- Members of lists by their places, passed on from `list_laws`. Declares nothing.
pub use Rattle.list_laws.proofs.Members.{member_at}
