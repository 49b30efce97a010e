pub mod LinesLemmas
pub mod RoomLemmas
pub mod TurnLemmas
pub mod VisitLemmas
