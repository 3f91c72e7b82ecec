pub mod FloatOrder
pub mod FloatLe
