pub mod Buffers
pub mod Fnv
pub mod LittleEndian
