pub mod Laws
pub mod Read
