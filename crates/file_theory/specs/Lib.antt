-- What a reader must believe about trace files: the format, what each file is read as, the encoder, and what the readers promise.
pub mod Format
pub mod Encoding
pub mod Decoding
pub mod Promises
-- Laws. The round trip and the longest file are worth reading by themselves (docs/PROMISES.md); the others are for the code's
-- proofs and for whoever calls the reader.
pub mod Words
pub mod Sections
pub mod Scans
pub mod Answers
pub mod Ways
pub mod RoundTrip
pub mod Longest
pub mod Callers
