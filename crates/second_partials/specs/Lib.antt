pub mod Working
pub mod Promise
pub mod Laws
