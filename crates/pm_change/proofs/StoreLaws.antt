-- The numbers of a set, stored one after the other, and a change from the sets of its numbers.
use Rattle.std.proofs.Common.{◌≡◌, ℕ, ℤ, ◌+◌, ◌*◌, ◌<◌, ◌≤◌, Bool, true, List, [], ◌∷◌, ◌++◌}
use Rattle.std.proofs.Common.{length, take, drop, filter, map, refl, sym, ap, ◌∙◌, subst}
use Rattle.std.proofs.Common.{arith}
use Rattle.std.specs.List.{flat_map}
use Rattle.pm_base.specs.Counts.{set_of, numbers_below}
use Rattle.pm_base.proofs.Counts.{count_le}
use Rattle.pm_sets.specs.Sets.{IsFirst, IsGap}
use Rattle.pm_sets.proofs.FlagLaws.{in_below}
use Rattle.pm_forest.specs.Forest.{Hierarchy, node_count}
use Rattle.pm_forest.specs.Faces.{face_count}
use Rattle.pm_forest.specs.Kept.{is_kept}
use Rattle.pm_front.proofs.Counting.{passing_next, length-passing}
use Rattle.pm_arrays.specs.Arrays.{coordinates_of, face_nodes}
use Rattle.pm_arrays.proofs.ArrayLaws.{threes_on}
use Rattle.pm_morph.specs.Laws.{shown_face_at}
use Rattle.pm_change.specs.declared.sets.ChangeSets.{ChangeSets}
use Rattle.pm_change.specs.Shown.{shown_node_at, node_number, face_number}
use Rattle.pm_change.specs.Changes.{is_gone_face, is_gone_node, is_new_node, is_put, change_of}
use Rattle.pm_change.specs.Arrays.{coordinates, corner_nodes, BeginWith, LeavesBehind}
use Rattle.pm_change.specs.Gathering.{numbers_in, size_of, AreSetsOf}
use Rattle.pm_change.specs.Storing.{change_in}
use Rattle.pm_change.proofs.Counting.{length-map}
use Rattle.pm_change.proofs.ChangeLaws.{put_kept}
use Rattle.pm_change.proofs.TellLaws.{passing_gap, passing_past, passing_up, just_numbers}

-- The next number of the set, and what is stored with it.
module _ (flags : List Bool) (from n : ℕ) (first : IsFirst flags from n) where
  pub one_more : length (filter (set_of flags) (numbers_below (n + 1)))
      ≡ length (filter (set_of flags) (numbers_below from)) + 1
  one_more = passing_past (set_of flags) from n first.from first.none first.there

  pub has_room : length (filter (set_of flags) (numbers_below from)) < size_of flags
  has_room =
      let low = in_below flags n first.there in
      let up = passing_up (set_of flags) (n + 1) (length flags) (omega arith) in
      let more = one_more in
      omega arith

  same_before : filter (set_of flags) (numbers_below n)
      ≡ filter (set_of flags) (numbers_below from)
  same_before = passing_gap (set_of flags) from n first.from first.none

  pub numbers_more : (c : ℕ) (old new : List ℕ)
      → take c old ≡ filter (set_of flags) (numbers_below from)
      → take (c + 1) new ≡ take c old ++ n ∷ []
      → take (c + 1) new ≡ filter (set_of flags) (numbers_below (n + 1))
  numbers_more c old new so_far stored =
      stored ∙ ap (λ (xs : List ℕ). xs ++ n ∷ []) (so_far ∙ sym same_before)
      ∙ sym (passing_next (set_of flags) n first.there)

  pub threes_more : {X : Type 0} (f : ℕ → List X) (c : ℕ) (old new piece : List X) → piece ≡ f n
      → take (3 * c) old ≡ flat_map f (filter (set_of flags) (numbers_below from))
      → take (3 * (c + 1)) new ≡ take (3 * c) old ++ piece
      → take (3 * (c + 1)) new ≡ flat_map f (filter (set_of flags) (numbers_below (n + 1)))
  threes_more f c old new piece is so_far stored =
      threes_on (set_of flags) f n c (c + 1) old new piece first.there is
      (so_far ∙ ap (λ (xs : List ℕ). flat_map f xs) (sym same_before)) stored

-- After the last one.
pub all_numbers : (flags : List Bool) (from : ℕ) → from ≤ length flags
    → IsGap flags from (length flags)
    → numbers_in flags ≡ filter (set_of flags) (numbers_below from)
all_numbers flags from within gap = passing_gap (set_of flags) from (length flags) within gap

-- A set has no more numbers than it has flags.
pub numbers_few : (flags : List Bool) → size_of flags ≤ length flags
numbers_few flags =
    let few = count_le (set_of flags) (length flags) in
    let same = length-passing (set_of flags) (length flags) in
    omega (arith, few, same)

flat_map-map : {A X : Type 0} (f : A → List X) (at : ℕ → A) (l : List ℕ)
    → flat_map f (map at l) ≡ flat_map (λ i. f (at i)) l
flat_map-map f at [] = refl
flat_map-map f at (x ∷ xs) = ap (λ rest. f (at x) ++ rest) (flat_map-map f at xs)

map-map_back : {A : Type 0} (number : A → ℕ) (at : ℕ → A) → ((i : ℕ) → number (at i) ≡ i)
    → (l : List ℕ) → map number (map at l) ≡ l
map-map_back number at back [] = refl
map-map_back number at back (x ∷ xs) = λ i. back x i ∷ map-map_back number at back xs i

-- What is stored of each set makes arrays that begin with the change.
module _ (h : Hierarchy) (G : ℕ → Bool) (sets : ChangeSets) where
  pub begins : (gone_faces gone_nodes new_nodes : List ℕ) (new_places : List ℤ)
      (put_faces put_corners : List ℕ)
      → take (size_of sets.gone_faces) gone_faces ≡ numbers_in sets.gone_faces
      → take (size_of sets.gone_nodes) gone_nodes ≡ numbers_in sets.gone_nodes
      → take (size_of sets.new_nodes) new_nodes ≡ numbers_in sets.new_nodes
      → take (3 * size_of sets.new_nodes) new_places
      ≡ flat_map (coordinates_of h) (numbers_in sets.new_nodes)
      → take (size_of sets.put_faces) put_faces ≡ numbers_in sets.put_faces
      → take (3 * size_of sets.put_faces) put_corners
      ≡ flat_map (face_nodes h G) (numbers_in sets.put_faces)
      → BeginWith (change_in h G sets) gone_faces gone_nodes new_nodes new_places put_faces
      put_corners
  begins gone_faces gone_nodes new_nodes new_places put_faces put_corners a b c d e f =
      let n = numbers_in sets.new_nodes in
      let p = numbers_in sets.put_faces in
      let new = length-map (shown_node_at h) n in
      let put = length-map (shown_face_at h G) p in
      record {
        gone_faces_are = a;
        gone_nodes_are = b;
        new_nodes_are = ap (λ k. take k new_nodes) new ∙ c
            ∙ sym (map-map_back node_number (shown_node_at h) (λ v. refl) n);
        new_places_are = ap (λ k. take (3 * k) new_places) new ∙ d
            ∙ sym (flat_map-map coordinates (shown_node_at h) n);
        put_faces_are = ap (λ k. take k put_faces) put ∙ e
            ∙ sym (map-map_back face_number (shown_face_at h G) (λ v. refl) p);
        put_corners_are = ap (λ k. take (3 * k) put_corners) put ∙ f
            ∙ sym (flat_map-map corner_nodes (shown_face_at h G) p);
      }

  -- What stays behind them stays behind the change.
  pub leaves : (gone_faces gone_nodes new_nodes : List ℕ) (new_places : List ℤ)
      (put_faces put_corners : List ℕ) (gone_faces_now gone_nodes_now new_nodes_now : List ℕ)
      (new_places_now : List ℤ) (put_faces_now put_corners_now : List ℕ)
      → drop (size_of sets.gone_faces) gone_faces_now ≡ drop (size_of sets.gone_faces) gone_faces
      → drop (size_of sets.gone_nodes) gone_nodes_now ≡ drop (size_of sets.gone_nodes) gone_nodes
      → drop (size_of sets.new_nodes) new_nodes_now ≡ drop (size_of sets.new_nodes) new_nodes
      → drop (3 * size_of sets.new_nodes) new_places_now
      ≡ drop (3 * size_of sets.new_nodes) new_places
      → drop (size_of sets.put_faces) put_faces_now ≡ drop (size_of sets.put_faces) put_faces
      → drop (3 * size_of sets.put_faces) put_corners_now
      ≡ drop (3 * size_of sets.put_faces) put_corners
      → LeavesBehind (change_in h G sets) gone_faces gone_nodes new_nodes new_places put_faces
      put_corners gone_faces_now gone_nodes_now new_nodes_now new_places_now put_faces_now
      put_corners_now
  leaves gone_faces gone_nodes new_nodes new_places put_faces put_corners gone_faces_now
      gone_nodes_now new_nodes_now new_places_now put_faces_now put_corners_now a b c d e f =
      let new = sym (length-map (shown_node_at h) (numbers_in sets.new_nodes)) in
      let put = sym (length-map (shown_face_at h G) (numbers_in sets.put_faces)) in
      record {
        gone_faces_stay = a;
        gone_nodes_stay = b;
        new_nodes_stay = subst (λ k. drop k new_nodes_now ≡ drop k new_nodes) new c;
        new_places_stay = subst (λ k. drop (3 * k) new_places_now ≡ drop (3 * k) new_places) new d;
        put_faces_stay = subst (λ k. drop k put_faces_now ≡ drop k put_faces) put e;
        put_corners_stay = subst (λ k. drop (3 * k) put_corners_now ≡ drop (3 * k) put_corners)
            put f;
      }

  -- Sets that have the numbers of a change have that change.
  module _ (S : ℕ → Bool) (are : AreSetsOf h S G sets) where
    pub change_in-is : change_in h G sets ≡ change_of h S G
    change_in-is =
        let a = just_numbers (is_gone_face h S G) (face_count h) sets.gone_faces are.gone_faces in
        let b = just_numbers (is_gone_node h S G) (node_count h) sets.gone_nodes are.gone_nodes in
        let c = just_numbers (is_new_node h S G) (node_count h) sets.new_nodes are.new_nodes in
        let d = just_numbers (is_put h S G) (face_count h) sets.put_faces are.put_faces in
        λ i. record {
          gone_faces = a i;
          gone_nodes = b i;
          new_nodes = map (shown_node_at h) (c i);
          put_faces = map (shown_face_at h G) (d i);
        }

    pub puts_kept : (f : ℕ) → set_of sets.put_faces f ≡ true → is_kept h G f ≡ true
    puts_kept f there =
        let low = in_below sets.put_faces f there in
        let l : f < face_count h = omega (arith, are.put_faces.len) in
        put_kept h S G f (sym (are.put_faces.each f l) ∙ there)
