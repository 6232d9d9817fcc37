-- The proof of the theorem in specs/.
pub mod Theorems
