-- What streams are packed to in memory, and unpacked.
use Rattle.std.specs.Prelude.{◌≡◌, ℕ, List, [], None}
use Rattle.pm_pack.specs.Packed.{IsPacked}
use Rattle.pm_pack.specs.Beginnings.{IsBeginning, text_of}
use Rattle.pm_pack.specs.declared.beginning.Beginning.{Beginning}
use Rattle.pm_making.specs.Making.{MadeText}

-- The bytes are a packed text of the stream. Nothing is said beside them, and no scale is told.
pub record IsPackedOf (stream : List ℕ) (all : MadeText) : Type 0 where
  pub is : IsPacked all.bytes stream
  pub notes : all.notes ≡ []
  pub scale : all.scale ≡ None

-- The bytes are the stream that the packed text is of, and no other. Nothing is said
-- beside them, and no scale is told.
pub record IsUnpackedOf (packed : List ℕ) (all : MadeText) : Type 0 where
  pub is : IsPacked packed all.bytes
  pub alone : (text : List ℕ) → IsPacked packed text → all.bytes ≡ text
  pub notes : all.notes ≡ []
  pub scale : all.scale ≡ None

-- The bytes are the stream text of what a packed text, or the beginning of one, has of its first n
-- records. Nothing is said beside them, and no scale is told.
pub record IsFirstOf (packed : List ℕ) (n : ℕ) (all : MadeText) : Type 0 where
  pub beginning : Beginning
  pub has : IsBeginning packed n beginning
  pub is : all.bytes ≡ text_of beginning
  pub notes : all.notes ≡ []
  pub scale : all.scale ≡ None
