pub mod Sheet
pub mod Printed
pub mod Judged
