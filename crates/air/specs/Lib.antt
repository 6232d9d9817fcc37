-- Where each column and each challenge stands.
pub mod Count
pub mod MainColumn
pub mod AuxColumn
pub mod ChallengeId
