pub mod Bytes
pub mod Laws
pub mod Takers
pub mod Values
pub mod Wtns
pub use Rattle.tv_container.specs.Places
pub use Rattle.tv_container.specs.Reading
