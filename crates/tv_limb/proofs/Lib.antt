mod AddLaws
mod LimbLaws
mod SplitLaws
mod SubLaws
