-- Laws of rows among numbers, tested and figured there.
pub mod Between
