pub mod ChoiceLemmas
pub mod DesignExists
pub mod KnownUses
pub mod PlanExists
pub mod SwitchExists
