pub mod LaneTexts
