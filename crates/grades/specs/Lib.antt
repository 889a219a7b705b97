pub mod Grades
pub mod Systems
pub mod Theorems
