pub mod Disassembly
pub mod Laws
pub use Rattle.tv_asm.specs.Assembly
pub use Rattle.tv_word.specs.Word
