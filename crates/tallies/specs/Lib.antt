pub mod Kinds
pub mod Replicas
pub mod Traffic
pub mod Sums
