mod DifferenceLaws
pub mod GuardLaws
pub mod ImageLaws
pub mod ItemLaws
pub mod LastLaws
mod Numbers
mod Reaches
mod Sums
pub mod TapeLaws
pub mod WithinCosts
pub mod WithinLaws
pub mod WithinNormal
pub mod WithinSizes
mod WithinValues
