-- Numbers: numbers as text. Texts: texts of up to 64 bytes.
pub mod Numbers
pub mod Texts
