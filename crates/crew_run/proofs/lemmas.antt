pub mod Places
pub mod RoomLemmas
