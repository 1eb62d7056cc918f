mod Rows
pub mod Fronts
mod LastLine
mod Characters
mod BlockText
mod Lines
mod Quotes
mod ScalarTokens
mod Blocks
mod BlockShape
mod Texts
mod Plain
mod Levels
mod Leaves
mod Trees
mod Documents
