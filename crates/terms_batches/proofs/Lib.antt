-- Laws on the commands of a batch by their kinds, read and written, and the proofs of the statements of specs/.
pub mod ByKind
pub mod OneKind
pub mod Sound
pub mod Heights
pub mod Sorted
pub mod Differences
pub mod Sections
pub mod Canonical
pub mod Conjunctions
pub mod Opened
pub mod OneBatch
pub mod Filled
pub mod Joined
pub mod Writable
pub mod Written
pub mod SameBytes
