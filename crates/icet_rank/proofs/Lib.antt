pub mod AnyDisplay
pub mod BehindWork
pub mod FirstRun
pub mod LocalWork
pub mod MachineMoves
pub mod PortMoves
pub mod RunsOn
