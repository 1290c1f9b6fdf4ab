-- What other crates may cite: what hearing makes of a record, link by link.
pub mod OneLink
