pub mod PairTexts
pub mod Places
