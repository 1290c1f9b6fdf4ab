-- What a frame says to a head, and the frame that says it: document 01, "Frames" and the checks 22, 9, 23, 10, 11 of hearing.
pub mod Length
pub mod Said
pub mod Written
pub mod Proper
