pub mod AddressOrder
mod CompactLaws
mod FirstLaws
pub mod Neighbours
pub mod NormalLaws
mod Numbers
pub mod OrderedLaws
pub mod PackingLaws
mod PairParts
pub mod PredecessorComplete
pub mod PredecessorCosts
pub mod PredecessorLaws
mod PredecessorNumbers
pub mod PredecessorReach
pub mod PredecessorSizes
mod PredecessorValues
mod PrefixOrder
mod SortedComplete
mod SortedLaws
mod SortedSizes
pub mod StartsLaws
pub mod TimeOrder
mod UnpackingLaws
