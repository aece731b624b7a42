pub mod Report
pub mod ReportFront
