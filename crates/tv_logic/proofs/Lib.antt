mod AndLaws
mod FlagLaws
mod LogicLaws
mod PairSums
mod WordLaws
