-- Finish: the end of the file. Cutting: a file fed in any pieces. Pages: how much a page takes. Inner: of private functions.
pub mod Finish
pub mod Cutting
pub mod Inner
pub mod Pages
