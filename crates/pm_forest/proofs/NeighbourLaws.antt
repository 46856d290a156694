-- The neighbours of a record, place by place.
use Rattle.std.proofs.Common.{◌≡◌, List, [], ◌∷◌, ◌++◌, Option, None, Some, sym, ap, refl, ◌∙◌}
use Rattle.std.proofs.Common.{arith}
use Rattle.std.proofs.lemmas.Grind.{common_steps}
use Rattle.std.proofs.Common.{append_assoc}
use Rattle.std.proofs.lemmas.List.{append-nil}
use Rattle.pm_base.specs.declared.ids.Side.{Side}
use Rattle.pm_forest.specs.declared.parts.NewFace.{NewFace}
use Rattle.pm_forest.specs.declared.parts.Record.{Record}
use Rattle.pm_forest.specs.Moves.{side_in, sides_in, neighbours_in, neighbours_of, places_in}
use Rattle.pm_forest.specs.Moves.{neighbour_places_of}

-- The places of the two faces, one after the other.
pub four_places : (a b c d : Option Side) (r : Record) → a ∷ b ∷ [] ≡ places_in r.left
    → c ∷ d ∷ [] ≡ places_in r.right
    → a ∷ b ∷ c ∷ d ∷ [] ≡ neighbour_places_of r
four_places a b c d r left right =
    ap (λ x. x ++ (c ∷ d ∷ [])) left ∙ ap (λ x. places_in r.left ++ x) right

append_sides : (xs ys : List (Option Side)) → sides_in (xs ++ ys) ≡ sides_in xs ++ sides_in ys
append_sides [] ys = refl
append_sides (x ∷ xs) ys =
    ap (λ l. side_in x ++ l) (append_sides xs ys)
    ∙ sym (append_assoc (side_in x) (sides_in xs) (sides_in ys))

in_places : (face : Option NewFace) → sides_in (places_in face) ≡ neighbours_in face
in_places None = refl
in_places (Some n) = ap (λ l. side_in n.first ++ l) (append-nil (side_in n.second))

-- What stands in the places is the list of neighbours.
pub listed_in_places : (l : List (Option Side)) (r : Record) → l ≡ neighbour_places_of r
    → sides_in l ≡ neighbours_of r
listed_in_places l r places = grind (arith, common_steps, append_sides, in_places)
