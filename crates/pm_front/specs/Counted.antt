-- What contracts see of counted records.
use Rattle.std.specs.Prelude.{ℕ, Bool, List}

-- A set of records, by a flag for each, and the counts of what they need.
pub record CountedRecords : Type 0 where
  pub records : List Bool
  pub needs : List ℕ
