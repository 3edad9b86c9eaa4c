pub mod Claim
pub mod Call
pub mod Phase
