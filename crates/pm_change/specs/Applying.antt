-- What a viewer does with a change: it removes by number and puts by number.
use Rattle.std.specs.Prelude.{◌≡◌, ℕ, ◌==◌, nat_lt, cond, List, [], ◌∷◌, ◌⊎◌}
use Rattle.pm_morph.specs.Laws.{ShownFace}
use Rattle.pm_change.specs.Shown.{ShownNode, node_number, face_number}
use Rattle.pm_change.specs.Changes.{Change}

-- An entry is in a list.
abbrev pub IsIn : {A : Type 0} → A → List A → Type 0
IsIn x [] = ⊥
IsIn x (y ∷ ys) = (x ≡ y) ⊎ IsIn x ys

-- The entry of this number goes, if there is one.
abbrev pub removed : {A : Type 0} → (A → ℕ) → ℕ → List A → List A
removed number n [] = []
removed number n (e ∷ es) = cond (number e == n) es (e ∷ removed number n es)

-- An entry stands in place of the one of its number, or before the first of a greater number.
abbrev pub put : {A : Type 0} → (A → ℕ) → A → List A → List A
put number x [] = x ∷ []
put number x (e ∷ es) =
    cond (number e == number x) (x ∷ es)
    (cond (nat_lt (number x) (number e)) (x ∷ e ∷ es) (e ∷ put number x es))

abbrev pub removed_all : {A : Type 0} → (A → ℕ) → List ℕ → List A → List A
removed_all number [] es = es
removed_all number (n ∷ ns) es = removed_all number ns (removed number n es)

abbrev pub put_all : {A : Type 0} → (A → ℕ) → List A → List A → List A
put_all number [] es = es
put_all number (x ∷ xs) es = put_all number xs (put number x es)

abbrev pub applied : {A : Type 0} → (A → ℕ) → List ℕ → List A → List A → List A
applied number gone puts es = put_all number puts (removed_all number gone es)

-- A mesh as a viewer has it, and what a change makes of it.
pub record Mesh : Type 0 where
  pub nodes : List ShownNode
  pub faces : List ShownFace

abbrev pub changed : Change → Mesh → Mesh
changed c m = record {
  nodes = applied node_number c.gone_nodes c.new_nodes m.nodes;
  faces = applied face_number c.gone_faces c.put_faces m.faces;
}
