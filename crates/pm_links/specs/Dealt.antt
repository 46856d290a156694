-- For callers that deal the items of one list to two others, as one vertex becomes two.
use Rattle.std.specs.Prelude.{ℕ, Bool, not, List, [], ◌++◌, reverse, filter, nat_eq, if◌then◌else◌}
use Rattle.pm_links.specs.Lists.{Lists, list_of, with_list}

-- the list of `left` after the items of `from` that pass are put first in it, one after the other
abbrev pub dealt_left : (ℕ → Bool) → Lists → ℕ → ℕ → List ℕ
dealt_left p v from left = reverse (filter p (list_of v from)) ++ list_of v left

-- the list of `right` after the items of `from` that don't pass are put first in it
abbrev pub dealt_right : (ℕ → Bool) → Lists → ℕ → ℕ → List ℕ
dealt_right p v from right = reverse (filter (λ x. not (p x)) (list_of v from)) ++ list_of v right

-- the list of head h after the items of `from` are dealt to `left` where they pass, and else to
-- `right`
abbrev pub dealt : (ℕ → Bool) → Lists → ℕ → ℕ → ℕ → ℕ → List ℕ
dealt p v from left right h =
    if nat_eq h from then []
    else if nat_eq h left then dealt_left p v from left
    else if nat_eq h right then dealt_right p v from right
    else list_of v h

-- the lists after the items of `from` are dealt
abbrev pub with_dealt : (ℕ → Bool) → Lists → ℕ → ℕ → ℕ → Lists
with_dealt p v from left right =
    with_list (with_list (with_list v from []) left (dealt_left p v from left))
    right (dealt_right p v from right)
