pub mod Never
pub mod NeverStageLemmas
pub mod TwoRegisters
pub mod TwoRegistersLemmas
