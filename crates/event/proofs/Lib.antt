-- The laws of this crate, by file; the proofs of its functions stand in folders beside them. Assumes nothing.
pub mod Numbers
pub mod Decoding
