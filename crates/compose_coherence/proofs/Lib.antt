mod Agreeing
mod Meanings
mod Whole
mod Rows
