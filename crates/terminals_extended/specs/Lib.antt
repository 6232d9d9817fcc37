-- Extension's last row.
pub mod Extended
