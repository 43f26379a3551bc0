-- Worked examples: what a channel answers to some events, and the datagrams that it sends. The checker computes each of them, from the bytes on.
pub mod Setting
pub mod Live
pub mod Bursts
pub mod Stops
pub mod Repairs
pub mod Requests
pub mod Buckets
pub mod Parts
pub mod Texts
pub mod Receptions
