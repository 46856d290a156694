-- for callers: the numbers of a range that pass a test, the flags after each call, and what the
-- answers of a search say
pub mod Ranges
pub mod FlagLaws
pub mod OrderLaws
-- the bits of a word, flags that stand in words, and blocks of flags
mod WordLaws
mod BitLaws
mod BlockLaws
