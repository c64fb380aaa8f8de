pub mod Examples
pub mod PlanTexts
