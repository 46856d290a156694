-- Who writes and who reads, seen alike.
use Rattle.std.specs.Prelude.{◌≡◌, ◌≢◌, ◌⊎◌, List, [], ◌∷◌}
use Rattle.pm_coder.specs.Intervals.{Choice}
use Rattle.pm_coder.specs.Coding.{AreFit, Progress, IsRead, written, passed}

-- A coder and how far it is: one that writes choices, or one that reads them.
pub data Coding : Type 0 where
  Writing : Progress → Coding
  Reading : Progress → Coding

-- It writes.
abbrev pub IsWriting : Coding → Type 0
IsWriting (Writing p) = Unit {0}
IsWriting (Reading p) = ⊥

-- The coder may make this choice: who writes each, who reads the one that its bytes say.
abbrev pub May : Coding → Choice → Type 0
May (Writing p) c = Unit {0}
May (Reading p) c = IsRead p c

-- The coder after a choice.
abbrev pub made : Coding → Choice → Coding
made (Writing p) c = Writing (written p c)
made (Reading p) c = Reading (passed p c)

-- The coder after choices.
unfoldable pub all_made : Coding → List Choice → Coding
all_made a [] = a
all_made a (c ∷ cs) = all_made (made a c) cs

-- The coder may make these choices, one after the other.
unfoldable pub Can : Coding → List Choice → Type 0
Can a [] = Unit {0}
Can a (c ∷ cs) = May a c × Can (made a c) cs

-- The coder made these choices, each at a share below 65,536.
pub record Makes (old : Coding) (cs : List Choice) (new : Coding) : Type 0 where
  pub can : Can old cs
  pub fit : AreFit cs
  pub now : new ≡ all_made old cs

-- Two lists of choices are the same up to one choice, of one share, that isn't the same.
unfoldable pub Part : List Choice → List Choice → Type 0
Part [] ys = ⊥
Part (a ∷ xs) [] = ⊥
Part (a ∷ xs) (b ∷ ys) =
    (a.share ≡ b.share) × ((a.bit ≢ b.bit) ⊎ ((a.bit ≡ b.bit) × Part xs ys))
