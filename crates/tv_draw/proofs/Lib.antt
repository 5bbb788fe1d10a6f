mod DrawLaws
pub mod RunLaws
