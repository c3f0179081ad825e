pub mod Nested
pub mod Tags
pub mod Theorems
pub mod PairTheorems
pub mod Results
pub mod Determined
pub mod Laws
