-- The words of a command line.
use Rattle.std.specs.Prelude.{ℕ, nat_eq, nat_le, ◌&&◌, List, [], ◌∷◌, Option, Some, None}
use Rattle.std.specs.Prelude.{if◌then◌else◌, codes}
use Rattle.std.specs.Cmp.Lexicographic.{pointwise}
use Rattle.pm_io.specs.Digits.{unsigned_of}
use Rattle.pm_commands.specs.declared.asked.Asked.{Asked}
use Rattle.pm_commands.specs.declared.asked.Asked.TheVariants as asked

-- What a word asks for that stands alone.
unfoldable pub alone : List ℕ → Option Asked
alone word =
    if pointwise nat_eq word (codes "canon") then Some (asked.Canon 0)
    else if pointwise nat_eq word (codes "build") then Some (asked.Build 0 0)
    else if pointwise nat_eq word (codes "expand") then Some asked.Expand
    else if pointwise nat_eq word (codes "check") then Some asked.Check
    else None

-- What a word asks for with a number after it.
abbrev pub with_number : List ℕ → Option ℕ → Option Asked
with_number word None = None
with_number word (Some n) =
    if pointwise nat_eq word (codes "build") then Some (asked.Build n 0)
    else if pointwise nat_eq word (codes "view") then Some (asked.View n)
    else if pointwise nat_eq word (codes "live") then Some (asked.Live n)
    else if pointwise nat_eq word (codes "demo") && nat_le 1 n && nat_le n 256 then
    Some (asked.Demo n)
    else None

-- What `canon` asks for with a number of decimals after `--digits`, and `build N` with one.
abbrev pub canon_with : List ℕ → List ℕ → Option ℕ → Option Asked
canon_with word flag None = None
canon_with word flag (Some digits) =
    if pointwise nat_eq word (codes "canon") && pointwise nat_eq flag (codes "--digits") then
    Some (asked.Canon digits) else None

abbrev pub build_with : List ℕ → Option ℕ → List ℕ → Option ℕ → Option Asked
build_with word None flag digits = None
build_with word (Some target) flag None = None
build_with word (Some target) flag (Some digits) =
    if pointwise nat_eq word (codes "build") && pointwise nat_eq flag (codes "--digits") then
    Some (asked.Build target digits) else None

-- What the words ask for: `canon`, `canon --digits D`, `build`, `build N`, `build N --digits D`,
-- `expand`, `check`, `view B`, `live B` or `demo N`, with N and B unsigned numbers of 32 bits, that
-- of `demo` from 1 to 256, and D from 0 to 4. Other words ask for nothing.
unfoldable pub asked_of : List (List ℕ) → Option Asked
asked_of (word ∷ []) = alone word
asked_of (word ∷ number ∷ []) = with_number word (unsigned_of 4294967295 number)
asked_of (word ∷ flag ∷ digits ∷ []) = canon_with word flag (unsigned_of 4 digits)
asked_of (word ∷ number ∷ flag ∷ digits ∷ []) =
    build_with word (unsigned_of 4294967295 number) flag (unsigned_of 4 digits)
asked_of _ = None
