pub mod Findings
pub mod FileReports
