pub mod HousingLemmas
