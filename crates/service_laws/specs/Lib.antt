pub mod book_laws
pub mod byte_laws
pub mod tick_laws
pub mod receiver_laws
