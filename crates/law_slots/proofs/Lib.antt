pub mod ByLine
pub mod ByStep
pub mod ByBio
pub mod WalkImages
pub mod WalkRuns
pub mod LogsStand
pub mod DoneLemmas
pub mod AllOf
