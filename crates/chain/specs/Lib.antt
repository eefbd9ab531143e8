pub mod Chains
pub mod ChainsLemmas
