pub mod CostLaws
mod Emitting
mod Filled
pub mod LastStage
pub mod LooseLaws
pub mod NetworkCosts
pub mod NetworkLaws
mod Shapes
pub mod SlotLaws
pub mod StageLaws
pub mod StagesComplete
pub mod StagesItems
pub mod StagesSizes
pub mod StagesSound
pub mod SwitchLaws
pub mod SwitchSizes
