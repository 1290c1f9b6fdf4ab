-- Document 02, A5: a head as sixteen bytes on a bus, with pending events and a mask.
pub mod Window
