-- What a store of the last corners says of them.
use Rattle.std.specs.Prelude.{◌≡◌, ℕ, ◌+◌, ◌<◌, List, length, Option, IfSome, Ok, All}
use Rattle.pm_base.specs.Place.{Place}
use Rattle.float_read.specs.Floats.{float_coordinate, binary32}
use Rattle.stl_read.specs.declared.recent.Words.{Words}
use Rattle.stl_read.specs.declared.recent.Known.{Known}
use Rattle.stl_read.specs.Binary.{word_at}
use Rattle.stl_read.specs.Vertices.{number_of}

-- The words of the corner from a place on.
abbrev pub words_at : List ℕ → ℕ → Words
words_at bytes at = record {
  x = word_at bytes at;
  y = word_at bytes (at + 4);
  z = word_at bytes (at + 8);
}

-- The words tell a point.
pub record AreWordsOf (words : Words) (p : Place) : Type 0 where
  pub x : float_coordinate binary32 words.x ≡ Ok p.x
  pub y : float_coordinate binary32 words.y ≡ Ok p.y
  pub z : float_coordinate binary32 words.z ≡ Ok p.z

-- The words tell the point with this number.
pub record IsKnown (points : List Place) (words : Words) (v : ℕ) : Type 0 where
  pub place : Place
  pub told : AreWordsOf words place
  pub there : v < length points
  pub number : number_of points place ≡ v

abbrev pub IsSlot : List Place → Option Known → Type 0
IsSlot points slot = IfSome slot (λ k. IsKnown points k.words k.vertex)

-- There are slots, and each tells what is so.
pub record AreKnown (points : List Place) (slots : List (Option Known)) : Type 0 where
  pub some : 0 < length slots
  pub each : All (IsSlot points) slots
