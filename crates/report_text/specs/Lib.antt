-- Laws only: what the promises of counting tell the report.
pub mod Tables
