pub mod Buffers
pub mod Chain
mod Pieces
pub mod SectionLemmas
pub mod BytesAt
pub mod Written
pub mod Streamed
