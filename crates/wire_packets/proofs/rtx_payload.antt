pub mod Originals
mod PlainBytes
