mod ExpandLaws
mod ListLaws
mod MatchLaws
mod PlaceLaws
mod TurnLaws
