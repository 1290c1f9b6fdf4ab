-- The player follows the file record by record.
pub mod Records
