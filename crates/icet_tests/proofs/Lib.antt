pub mod SamplePlans
pub mod Stepped
