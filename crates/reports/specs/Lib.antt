pub mod Fields
pub mod Reports
