pub mod TreeFolds
pub mod TreeInOrder
pub mod TreeLegs
pub mod TreeMakesLeg
pub mod TreePrograms
pub mod TreeRounds
pub mod TreeSends
pub mod TreeStrategy
