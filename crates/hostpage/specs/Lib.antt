-- Page: the page. FromNumbers: its lines from whole numbers alone.
pub mod Page
pub mod FromNumbers
