-- The fields of a line.
use Rattle.std.specs.Prelude.{ℕ, List, [], ◌∷◌, Bool, true, false, ◌==◌, ◌||◌, if◌then◌else◌}
use Rattle.pm_io.specs.Bytes.{onto}
use Rattle.pm_io.specs.Letters.{tab, space}

-- A space or a tab.
abbrev pub is_blank : ℕ → Bool
is_blank b = b == space || b == tab

-- No field stands at the front.
abbrev pub begins_blank : List ℕ → Bool
begins_blank [] = true
begins_blank (b ∷ bs) = is_blank b

-- What stands between blanks.
abbrev pub fields : List ℕ → List (List ℕ)
fields [] = []
fields (b ∷ bs) =
    if is_blank b then fields bs
    else if begins_blank bs then (b ∷ []) ∷ fields bs
    else onto b (fields bs)

-- There is one among these.
abbrev pub is_some_field : List (List ℕ) → Bool
is_some_field [] = false
is_some_field (field ∷ more) = true

-- The line isn't blank.
abbrev pub has_field : List ℕ → Bool
has_field bytes = is_some_field (fields bytes)

-- The field is this letter and no more.
abbrev pub is_letter : ℕ → List ℕ → Bool
is_letter letter (b ∷ []) = b == letter
is_letter letter _ = false
