mod PartValues
mod Packed
mod Prepared
mod RunPlaces
mod Satisfaction
mod TraceLaws
