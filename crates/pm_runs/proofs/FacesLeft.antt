-- The faces that a collapse leaves, and how many they are.
use Rattle.std.proofs.Common.{◌≡◌, ◌≢◌, ℕ, ◌+◌, ◌*◌, ◌<◌, true, Option, Some, None, List, length}
use Rattle.std.proofs.lemmas.Grind.{common_steps}
use Rattle.std.proofs.Common.{◌⊎◌, inl, inr, sym, ap, ◌∙◌, subst, arith}
use Rattle.std.specs.Prelude.{is_some, slice_index_or, option_map}
use Rattle.std.proofs.lemmas.List.{length-map}
use Rattle.std.proofs.Math.ListN.{get_or-eq_default}
use Rattle.std.proofs.lemmas.Option.{none-some}
use Rattle.pm_base.specs.Place.{Place}
use Rattle.pm_base.specs.declared.mesh.Corners.{Corners}
use Rattle.pm_base.specs.Counts.{one_if}
use Rattle.pm_base.specs.Sides.{Net, face_of, Stands}
use Rattle.pm_runs.specs.Surfaces.{Surface, next_vertex, corners_at, net_of_surface, face_count_of}
use Rattle.pm_runs.specs.Surfaces.{IsLiveFace, IsSurface, merged_corners, collapsed}
use Rattle.pm_runs.specs.Pairs.{Runs, Joined, Links}
use Rattle.pm_runs.specs.Steps.{side_from_to}
use Rattle.pm_runs.specs.Merged.{IsProper}
use Rattle.pm_runs.proofs.CornerNets.{AreDistinct, distinct_stands}
use Rattle.pm_runs.proofs.Collapsed.{next_face, corners_in, collapsed-face, kept_from}
use Rattle.pm_runs.proofs.Found.{found-runs, runs-found}
use Rattle.pm_runs.proofs.Live.{stands_face}
use Rattle.pm_runs.proofs.Relinked.{drop_stays, drop_goes}
use Rattle.pm_runs.proofs.Legal.{no_two_ways}
use Rattle.pm_runs.proofs.Present.{present, option_is, present-same, present-without_if, without_if}
use Rattle.pm_runs.proofs.Present.{length-without_if, without_if-same, without_if-other, option_eq?}
use Rattle.pm_runs.proofs.Present.{is_some-map, map-some}

-- The first side of a face.
pub first_of : (f : ℕ) → face_of (3 * f) ≡ f
first_of f = omega arith

pub some_within : {X : Type 0} (xs : List (Option X)) (i : ℕ) (x : X)
    → slice_index_or xs i None ≡ Some x → i < length xs
some_within xs i x is = grind (arith, common_steps, get_or-eq_default xs None, none-some x)

module _ (s : Surface) (a b : ℕ) (place : Place) where
  abbrev before : Net
  before = net_of_surface s

  abbrev after : Net
  after = net_of_surface (collapsed s a b place)

  pub face_gone : IsSurface s → (x f : ℕ) → Links before x a b → face_of x ≡ f
      → slice_index_or (collapsed s a b place).faces f None ≡ None
  face_gone sound x f links is =
      elim (option_is (slice_index_or (collapsed s a b place).faces f None)) [
        | inl none ↦ none
        | inr (k, there) ↦
            let (old, same, d) = kept_from a b (next_vertex s) (slice_index_or s.faces f None) k
            (sym (collapsed-face s a b place f) ∙ there) in
            let l = some_within (collapsed s a b place).faces f k there in
            let here : corners_at (collapsed s a b place) (face_of (3 * f)) ≡ k =
            ap (corners_at (collapsed s a b place)) (first_of f) ∙ ap corners_in there in
            let st : Stands after (3 * f) =
            distinct_stands (length (collapsed s a b place).faces)
            (corners_at (collapsed s a b place)) (3 * f) (omega arith)
            (subst AreDistinct (sym here) d) in
            absurd (drop_goes s sound a b place (3 * f) x links (is ∙ sym (first_of f)) st)
      ]

  pub face_left : IsSurface s → (f : ℕ) → ((x : ℕ) → Links before x a b → face_of x ≢ f)
      → slice_index_or (collapsed s a b place).faces f None
      ≡ option_map (merged_corners a b (next_vertex s)) (slice_index_or s.faces f None)
  face_left sound f never =
      elim (option_is (slice_index_or s.faces f None)) [
        | inl none ↦ collapsed-face s a b place f ∙ ap (next_face a b (next_vertex s)) none
            ∙ sym (ap (option_map (merged_corners a b (next_vertex s))) none)
        | inr (k, there) ↦
            let live : IsLiveFace s k = sound f k there in
            let l = some_within s.faces f k there in
            let here : corners_at s (face_of (3 * f)) ≡ k =
            ap (corners_at s) (first_of f) ∙ ap corners_in there in
            let st : Stands before (3 * f) =
            distinct_stands (length s.faces) (corners_at s) (3 * f) (omega arith)
            (subst AreDistinct (sym here) (record { ab = live.ab; bc = live.bc; ca = live.ca }))
            in
            let new : Stands after (3 * f) =
            drop_stays s sound a b place (3 * f) st
            (λ x links same. never x links (same ∙ first_of f)) in
            let is : slice_index_or (collapsed s a b place).faces f None
            ≡ Some (corners_at (collapsed s a b place) f) =
            subst (λ i. slice_index_or (collapsed s a b place).faces i None
            ≡ Some (corners_at (collapsed s a b place) i)) (first_of f)
            (stands_face (collapsed s a b place) (3 * f) new) in
            let (old, same, d) = kept_from a b (next_vertex s) (slice_index_or s.faces f None)
            (corners_at (collapsed s a b place) f) (sym (collapsed-face s a b place f) ∙ is) in
            is ∙ ap Some same ∙ ap (λ o. option_map (merged_corners a b (next_vertex s)) o)
            (sym old)
      ]

-- The faces of the two sides between a pair, where they have them.
abbrev pub face_from_to : Net → ℕ → ℕ → Option ℕ
face_from_to m p q = option_map face_of (side_from_to m p q)

module _ (s : Surface) (sound : IsSurface s) (proper : IsProper (net_of_surface s)) (a b : ℕ)
    (place : Place) where
  abbrev old : Net
  old = net_of_surface s

  abbrev left : Option ℕ
  left = face_from_to (net_of_surface s) a b

  abbrev right : Option ℕ
  right = face_from_to (net_of_surface s) b a

  -- the faces without those two
  abbrev lost : List (Option Corners)
  lost = without_if right (without_if left s.faces)

  link_face : (x : ℕ) → Links old x a b → (left ≡ Some (face_of x)) ⊎ (right ≡ Some (face_of x))
  link_face x links =
      elim links [
        | inl r ↦ inl (ap (option_map face_of) (runs-found old a b proper.once x r))
        | inr r ↦ inr (ap (option_map face_of) (runs-found old b a proper.once x r))
      ]

  left_face : (f : ℕ) → left ≡ Some f → (x : ℕ) × Runs old x a b × (face_of x ≡ f)
  left_face f is = let (x, found, same) = map-some face_of (side_from_to old a b) f is in
      (x, found-runs old a b x found, same)

  right_face : (f : ℕ) → right ≡ Some f → (x : ℕ) × Runs old x b a × (face_of x ≡ f)
  right_face f is = let (x, found, same) = map-some face_of (side_from_to old b a) f is in
      (x, found-runs old b a x found, same)

  -- The faces after the collapse, one by one.
  pub face_after : (f : ℕ) →
      (left ≡ Some f → slice_index_or (collapsed s a b place).faces f None ≡ None) ×
      (right ≡ Some f → slice_index_or (collapsed s a b place).faces f None ≡ None) ×
      (left ≢ Some f → right ≢ Some f → slice_index_or (collapsed s a b place).faces f None
      ≡ option_map (merged_corners a b (next_vertex s)) (slice_index_or s.faces f None))
  face_after f = (
    (λ is. let (x, r, same) = left_face f is in face_gone s a b place sound x f (inl r) same),
    (λ is. let (x, r, same) = right_face f is in face_gone s a b place sound x f (inr r) same),
    (λ n m. face_left s a b place sound f
        (λ x links same. elim (link_face x links) [
          | inl is ↦ n (is ∙ ap Some same)
          | inr is ↦
              m (is ∙ ap Some same)
        ])),
  )

  same_present : (f : ℕ) → is_some (slice_index_or (collapsed s a b place).faces f None)
      ≡ is_some (slice_index_or lost f None)
  same_present f =
      let (on_left, on_right, otherwise) = face_after f in
      elim (option_eq? right f) [
        | inl is ↦ ap is_some (on_right is)
            ∙ sym (ap is_some (without_if-same right (without_if left s.faces) f is))
        | inr n_right ↦
            elim (option_eq? left f) [
              | inl is ↦ ap is_some (on_left is)
                  ∙ sym (ap is_some (without_if-other right (without_if left s.faces) f n_right
                  ∙ without_if-same left s.faces f is))
              | inr n_left ↦
                  ap is_some (otherwise n_left n_right) ∙
                  is_some-map (merged_corners a b (next_vertex s)) (slice_index_or s.faces f None) ∙
                  sym (ap is_some (without_if-other right (without_if left s.faces) f n_right
                  ∙ without_if-other left s.faces f n_left))
            ]
      ]

  face_some : (x f : ℕ) → Stands old x → face_of x ≡ f → is_some (slice_index_or s.faces f None)
      ≡ true
  face_some x f st same =
      subst (λ i. is_some (slice_index_or s.faces i None) ≡ true) same
      (ap is_some (stands_face s x st))

  -- One face goes for each of the two sides.
  pub faces-left : face_count_of
      (collapsed s a b place) + (one_if (is_some left) + one_if (is_some right)) ≡ face_count_of s
  faces-left =
      let same : present (collapsed s a b place).faces ≡ present lost =
      present-same lost (collapsed s a b place).faces
      (length-without_if right (without_if left s.faces) ∙ length-without_if left s.faces
      ∙ sym (length-map s.faces (next_face a b (next_vertex s))))
      same_present in
      let one = present-without_if left s.faces (λ f is. let (x, r, on) = left_face f is in
      face_some x f r.stands on) in
      let two = present-without_if right (without_if left s.faces) (λ f is.
      let (x, r, on) = right_face f is in
      ap is_some (without_if-other left s.faces f (λ z. let (y, w, here) = left_face f z in
      no_two_ways old y x a b w r (here ∙ sym on))) ∙
      face_some x f r.stands on) in
      omega arith

  pub faces-fewer : Joined old a b → face_count_of (collapsed s a b place) < face_count_of s
  faces-fewer j =
      let count = faces-left in
      elim j [
        | inl (e, r) ↦
            (let e = ap (λ o. one_if (is_some (option_map face_of o)))
            (runs-found old a b proper.once e r) in omega arith)
        | inr (e, r) ↦
            (let e = ap (λ o. one_if (is_some (option_map face_of o)))
            (runs-found old b a proper.once e r) in omega arith)
      ]
