-- The faces that are put are those of the corners at new nodes, and how many corners these are.
use Rattle.std.proofs.Common.{◌≡◌, ℕ, suc, ◌+◌, ◌*◌, ◌%◌, ◌<◌, ◌≤◌, eqb, nat_lt, Bool, true, false}
use Rattle.std.proofs.Common.{◌&&◌, ◌||◌, List, [], ◌∷◌, length, inl, inr, refl, sym, ◌∙◌, subst}
use Rattle.std.proofs.Common.{arith}
use Rattle.std.proofs.lemmas.Bool.{cases_lt, and_parts, and_from, or_left, or_right, or_cases}
use Rattle.std.proofs.lemmas.Bool.{both_ways, lt-ltb, ltb-true, eq-eqb, eqb-true}
use Rattle.pm_base.specs.Counts.{set_of, count}
use Rattle.pm_base.specs.Sides.{face_of}
use Rattle.pm_base.proofs.Counts.{count-true, count_more}
use Rattle.pm_links.specs.Lists.{has, IsOnce}
use Rattle.pm_links.proofs.Members.{has_tail, has_head}
use Rattle.pm_forest.specs.Forest.{Hierarchy, node_count}
use Rattle.pm_forest.specs.Fronts.{IsFront, ancestor_of}
use Rattle.pm_forest.specs.Faces.{face_count, from_leaf}
use Rattle.pm_forest.specs.Kept.{is_kept, is_shown}
use Rattle.pm_forest.specs.Rules.{HasShape}
use Rattle.pm_forest.proofs.FrontLaws.{kept}
use Rattle.pm_forest.proofs.Shown.{shown_same}
use Rattle.pm_forest.proofs.ShapeLaws.{shape_is_forest}
use Rattle.pm_front.specs.Corners.{listed, AreCorners}
use Rattle.pm_front.proofs.Counting.{length-passing}
use Rattle.pm_change.specs.Changes.{is_new_node, is_put, is_at_new, has_new_corner}
use Rattle.pm_change.specs.Laws.{is_new_corner, new_corners}
use Rattle.pm_change.specs.Gathering.{Gathers, is_face_in}
use Rattle.pm_change.proofs.ChangeLaws.{puts}
use Rattle.pm_change.proofs.Counting.{count_apart}
use Rattle.pm_change.proofs.NewLaws.{put_corner, new_listed}
use Rattle.pm_change.proofs.TellLaws.{count_up}
use Rattle.pm_change.proofs.TestLaws.{corner_node}

one_counted : (x n : ℕ) → x < n → 1 ≤ count (λ i. eqb x i) n
one_counted x n l =
    let c = count-true (λ i. eqb x i) x (eq-eqb x x refl) in
    let u = count_up (λ i. eqb x i) (suc x) n (omega arith) in
    omega arith

-- A list of different numbers below n is no longer than the numbers below n that it has.
list_counted : (l : List ℕ) (n : ℕ) → IsOnce l → ((e : ℕ) → has l e ≡ true → e < n)
    → length l ≤ count (has l) n
list_counted [] n once below = omega arith
list_counted (x ∷ xs) n once below =
    let r = list_counted xs n once.1 (λ e h. below e (has_tail x xs e h)) in
    let one = one_counted x n (below x (has_head x xs)) in
    let both = count_apart (λ i. eqb x i) (has xs) (has (x ∷ xs)) n
    (λ e l is h. both_ways (has xs e) (subst (λ i. has xs i ≡ false) (eqb-true x e is) once.0) h)
    (λ e l is. or_left (eqb x e) (has xs e) is)
    (λ e l h. or_right (eqb x e) (has xs e) h) in
    omega arith

-- A corner of a kept face is at a new node below n.
abbrev pub corner_before : Hierarchy → (ℕ → Bool) → (ℕ → Bool) → ℕ → ℕ → Bool
corner_before h S G n e = is_new_corner h S G e && nat_lt (ancestor_of h G (from_leaf h e)) n

-- The faces with a corner at a new node below n are put, in no more steps than there are such nodes
-- and corners.
pub record HavePut (h : Hierarchy) (S G : ℕ → Bool) (ls : List (List ℕ)) (n : ℕ)
    (old put : List Bool) (before now : ℕ) : Type 0 where
  pub got : Gathers (is_put h S G) old put
  pub seen : (v e : ℕ) → v < n → is_new_node h S G v ≡ true → has (listed ls v) e ≡ true
      → set_of put (face_of e) ≡ true
  pub cost : now ≤ before + count (is_new_node h S G) n
      + count (corner_before h S G n) (3 * face_count h)

-- A face has its three corners.
face_in : (l : List ℕ) (e : ℕ) → has l e ≡ true → is_face_in l (face_of e) ≡ true
face_in l e h =
    let f = face_of e in
    elim (cases_lt (e % 3) 1) [
      | inl a ↦ (let is : e ≡ 3 * f = omega arith in or_left (has l (3 * f))
          (has l (3 * f + 1) || has l (3 * f + 2)) (subst (λ i. has l i ≡ true) is h))
      | inr a ↦
          or_right (has l (3 * f)) (has l (3 * f + 1) || has l (3 * f + 2))
          (elim (cases_lt (e % 3) 2) [
            | inl b ↦ (let is : e ≡ 3 * f + 1 = omega arith in or_left (has l (3 * f + 1))
                (has l (3 * f + 2)) (subst (λ i. has l i ≡ true) is h))
            | inr b ↦ (let is : e ≡ 3 * f + 2 = omega arith in or_right (has l (3 * f + 1))
                (has l (3 * f + 2)) (subst (λ i. has l i ≡ true) is h))
          ])
    ]

pub put_face_in : (l : List ℕ) (e f : ℕ) → has l e ≡ true → f ≡ face_of e → is_face_in l f ≡ true
put_face_in l e f h is = subst (λ i. is_face_in l i ≡ true) (sym is) (face_in l e h)

module _ (h : Hierarchy) (shape : HasShape h) (G : ℕ → Bool) (now : IsFront h G)
    (ls : List (List ℕ)) (corners : AreCorners h G ls) where
  pub corner_below : (v e : ℕ) → has (listed ls v) e ≡ true → e < 3 * face_count h
  corner_below v e h' = ((corners.each v e).0 h').0

  pub corner_at : (v e : ℕ) → has (listed ls v) e ≡ true → ancestor_of h G (from_leaf h e) ≡ v
  corner_at v e h' = ((corners.each v e).0 h').2

  pub corner_kept : (v e : ℕ) → has (listed ls v) e ≡ true → is_kept h G (face_of e) ≡ true
  corner_kept v e h' =
      let (below, shown, at) = (corners.each v e).0 h' in
      kept h (shape_is_forest h shape) G now (face_of e) (omega arith)
      ∙ shown_same h G (3 * face_of e) e (omega arith) ∙ shown

-- A face with a corner in the list of a new node is put.
module _ (h : Hierarchy) (shape : HasShape h) (S G : ℕ → Bool) (before : IsFront h S)
    (now : IsFront h G) (ls : List (List ℕ)) (corners : AreCorners h G ls) where
  new_at : (v e : ℕ) → is_new_node h S G v ≡ true → has (listed ls v) e ≡ true
      → is_new_corner h S G e ≡ true
  new_at v e new h' = (new_listed h shape S G ls corners e
      (corner_below h shape G now ls corners v e h')).1 (v, new, h')

  listed_at_new : (v e : ℕ) → is_new_node h S G v ≡ true → has (listed ls v) e ≡ true
      → is_at_new h S G e ≡ true
  listed_at_new v e new h' = (and_parts (is_shown h G e) (is_at_new h S G e) (new_at v e new h')).1

  face_put : (f : ℕ) → f < face_count h → is_kept h G f ≡ true → has_new_corner h S G f ≡ true
      → is_put h S G f ≡ true
  face_put f l y z = puts h shape S G before f l
      ∙ and_from (is_kept h G f) (has_new_corner h S G f) y z

  kept_of : (v f e : ℕ) → has (listed ls v) e ≡ true → f ≡ face_of e → is_kept h G f ≡ true
  kept_of v f e h' is = subst (λ i. is_kept h G i ≡ true) (sym is)
      (corner_kept h shape G now ls corners v e h')

  pub listed_put : (v f : ℕ) → is_new_node h S G v ≡ true → f < face_count h
      → is_face_in (listed ls v) f ≡ true → is_put h S G f ≡ true
  listed_put v f new l e =
      let a = is_at_new h S G (3 * f) in
      let b = is_at_new h S G (3 * f + 1) in
      let c = is_at_new h S G (3 * f + 2) in
      elim (or_cases (has (listed ls v) (3 * f))
      (has (listed ls v) (3 * f + 1) || has (listed ls v) (3 * f + 2)) e) [
        | inl x ↦ face_put f l (kept_of v f (3 * f) x (omega arith))
            (or_left a (b || c) (listed_at_new v (3 * f) new x))
        | inr rest ↦
            elim (or_cases (has (listed ls v) (3 * f + 1)) (has (listed ls v) (3 * f + 2)) rest) [
              | inl x ↦ face_put f l (kept_of v f (3 * f + 1) x (omega arith))
                  (or_right a (b || c) (or_left b c (listed_at_new v (3 * f + 1) new x)))
              | inr x ↦ face_put f l (kept_of v f (3 * f + 2) x (omega arith))
                  (or_right a (b || c) (or_right b c (listed_at_new v (3 * f + 2) new x)))
            ]
      ]

  -- And each face that is put is found, once the lists of all new nodes have been walked.
  module _ (put : List Bool) (seen : (v e : ℕ) → v < node_count h → is_new_node h S G v ≡ true
      → has (listed ls v) e ≡ true → set_of put (face_of e) ≡ true) where
    found_by : (e : ℕ) → e < 3 * face_count h → is_new_corner h S G e ≡ true
        → set_of put (face_of e) ≡ true
    found_by e l new =
        let (v, fresh, h') = (new_listed h shape S G ls corners e l).0 new in
        let at = corner_at h shape G now ls corners v e h' in
        seen v e (subst (λ w. w < node_count h) at (corner_node h G e shape l)) fresh h'

    pub put_found : (f : ℕ) → f < face_count h → is_put h S G f ≡ true → set_of put f ≡ true
    put_found f l e =
        let at : (i : ℕ) → i < 3 * face_count h → f ≡ face_of i → is_new_corner h S G i ≡ true
        → set_of put f ≡ true =
        λ i m is new. subst (λ j. set_of put j ≡ true) (sym is) (found_by i m new) in
        elim (put_corner h shape S G before now f l e) [
          | inl x ↦ at (3 * f) (omega arith) (omega arith) x
          | inr rest ↦ elim rest [
            | inl x ↦ at (3 * f + 1) (omega arith) (omega arith) x
            | inr x ↦ at (3 * f + 2) (omega arith) (omega arith) x
          ]
        ]

  -- How many corners there are at the new nodes below a number.
  pub corners_up : (a b : ℕ) → a ≤ b
      → count (corner_before h S G a) (3 * face_count h)
      ≤ count (corner_before h S G b) (3 * face_count h)
  corners_up a b l =
      count_more (corner_before h S G a) (corner_before h S G b) (3 * face_count h) (λ e m y.
      let at = ancestor_of h G (from_leaf h e) in
      let (new, less) = and_parts (is_new_corner h S G e) (nat_lt at a) y in
      let low = ltb-true at a less in
      and_from (is_new_corner h S G e) (nat_lt at b) new (lt-ltb at b (omega arith)))

  pub corners_more : (v : ℕ) → is_new_node h S G v ≡ true
      → count (corner_before h S G v) (3 * face_count h) + length (listed ls v)
      ≤ count (corner_before h S G (v + 1)) (3 * face_count h)
  corners_more v new =
      let len = list_counted (listed ls v) (3 * face_count h) (corners.once v)
      (corner_below h shape G now ls corners v) in
      let both = count_apart (corner_before h S G v) (has (listed ls v))
      (corner_before h S G (v + 1)) (3 * face_count h)
      (λ e m y h'.
      let at = ancestor_of h G (from_leaf h e) in
      let low = ltb-true at v (and_parts (is_new_corner h S G e) (nat_lt at v) y).1 in
      let is = corner_at h shape G now ls corners v e h' in
      absurd (omega arith))
      (λ e m y.
      let at = ancestor_of h G (from_leaf h e) in
      let (new_e, less) = and_parts (is_new_corner h S G e) (nat_lt at v) y in
      let low = ltb-true at v less in
      and_from (is_new_corner h S G e) (nat_lt at (v + 1)) new_e (lt-ltb at (v + 1) (omega arith)))
      (λ e m h'.
      let at = ancestor_of h G (from_leaf h e) in
      let is = corner_at h shape G now ls corners v e h' in
      and_from (is_new_corner h S G e) (nat_lt at (v + 1)) (new_at v e new h')
      (lt-ltb at (v + 1) (omega arith))) in
      omega arith

  pub corners_all : (n : ℕ) → count (corner_before h S G n) (3 * face_count h)
      ≤ length (new_corners h S G)
  corners_all n =
      let len = length-passing (is_new_corner h S G) (3 * face_count h) in
      let more = count_more (corner_before h S G n) (is_new_corner h S G) (3 * face_count h)
      (λ e m y. (and_parts (is_new_corner h S G e) (nat_lt (ancestor_of h G (from_leaf h e)) n)
      y).0) in
      omega arith
