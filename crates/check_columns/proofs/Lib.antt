-- What a verdict tells.
pub mod Stages
