pub mod Numbers
pub mod Fronts
pub mod Decimals
pub mod Puts
pub mod Rests
pub mod FloatParts
