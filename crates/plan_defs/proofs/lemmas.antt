pub mod AddLemmas
pub mod CountLemmas
pub mod PlanLemmas
pub mod PortLemmas
pub mod WellFormedLemmas
