-- How far an instruction changes the stack.
pub mod Change
