-- Each triangle is told: it stays among those that are kept, is an edge, or stands on an earlier
-- one.
use Rattle.std.proofs.Common.{◌≡◌, ℕ, zero, suc, ◌+◌, ◌*◌, ◌<◌}
use Rattle.std.proofs.Common.{◌⊎◌, ◌||◌, true, false, List}
use Rattle.std.proofs.Common.{[], ◌∷◌, ◌++◌, length, get_or, inl, inr, refl, sym, ap, ◌∙◌}
use Rattle.std.proofs.Common.{subst, arith, eqb}
use Rattle.std.proofs.lemmas.Grind.{common_steps}
use Rattle.std.specs.List.{All, list_any}
use Rattle.std.proofs.lemmas.Bool.{cases_Bool, or_cases, and_parts, and_cases, not-false, eqb-true}
use Rattle.std.proofs.lemmas.Bool.{eq-eqb, cond-true, cond-false, true≢false}
use Rattle.std.proofs.lemmas.List.{length-map, get_or-map, length-append, get_or_append_left}
use Rattle.std.proofs.Math.Seq.{get_or-append_seam}
use Rattle.std.proofs.lemmas.List.Folds.{list_any-append}
use Rattle.pm_base.specs.declared.mesh.Corners.{Corners}
use Rattle.pm_base.specs.Meshes.{Mesh}
use Rattle.pm_base.specs.Place.{Place, origin}
use Rattle.pm_base.specs.Sides.{net_of, no_corners}
use Rattle.pm_base.proofs.NetLaws.{face_at, first_side, second_side, third_side}
use Rattle.pm_fans.specs.Kept.{is_flat, is_corner, is_alike, is_kept_after, kept_after, kept_of}
use Rattle.pm_turn.specs.Turning.{turned_face, turned_by}
use Rattle.pm_turn.proofs.TurnedFaces.{turned_length, each_is_turned_or_not}
use Rattle.obj_prepare.specs.Named.{is_some_corner, AreVerticesBelow}
use Rattle.obj_prepare.specs.Joining.{place_in_list, IsFirstAt, renamed, joined_faces}
use Rattle.obj_prepare.specs.Prepared.{staying, IsPrepared}
use Rattle.obj_prepare.specs.Became.{triangle_at, IsEdgeAt, HasCornerAt, StandsOn, StandsAs, Became}
use Rattle.obj_prepare.specs.Became.{an_edge, a_double, as_it_was, turned, AllBecame}
use Rattle.obj_prepare.specs.Became.{TrianglesAreTold}
use Rattle.obj_prepare.proofs.PieceLaws.{named_low, corners_named}
use Rattle.obj_prepare.proofs.KeptCounts.{kept_not_flat}
use Rattle.obj_prepare.proofs.OwnVertices.{one_place}

-- What became of face i of a list, before which these stayed: it stayed, in place k, or it has the
-- corners of one of those or of an earlier one of the list, j.
data Fate (before fs : List Corners) (i : ℕ) : Type 0 where
  met : list_any (is_alike (face_at fs i)) before ≡ true → Fate before fs i
  after : (j : ℕ) → j < i → is_flat (face_at fs j) ≡ false
      → is_alike (face_at fs i) (face_at fs j) ≡ true → Fate before fs i
  kept : (k : ℕ) → k < length (kept_after before fs)
      → face_at (kept_after before fs) k ≡ face_at fs i → Fate before fs i

-- The first faces stay in front.
front_stays : (before fs : List Corners) (k : ℕ) → k < length before
    → (k < length (kept_after before fs)) × (face_at (kept_after before fs) k ≡ face_at before k)
front_stays before [] k l = (l, refl)
front_stays before (f ∷ fs) k l =
    elim (cases_Bool (is_kept_after before f)) [
      | inl t ↦
          let longer = length-append before (f ∷ []) in
          let rest = front_stays (before ++ f ∷ []) fs k (omega arith) in
          subst (λ (all : List Corners). (k < length all) × (face_at all k ≡ face_at before k))
          (sym (cond-true _ _ _ t))
          (rest.0, rest.1 ∙ get_or_append_left before (f ∷ []) no_corners k l)
      | inr n ↦
          subst (λ (all : List Corners). (k < length all) × (face_at all k ≡ face_at before k))
          (sym (cond-false _ _ _ n)) (front_stays before fs k l)
    ]

-- A face that isn't kept, and is no edge, has the corners of one that was.
was_met : (before : List Corners) (f : Corners) → is_flat f ≡ false
    → is_kept_after before f ≡ false → list_any (is_alike f) before ≡ true
unfolding is_kept_after
was_met before f flat n = grind (arith, common_steps, and_cases, not-false)

-- The fate of a later face, by that among the faces after the first.
later : (before : List Corners) (f : Corners) (fs now : List Corners) (i : ℕ)
    → kept_after before (f ∷ fs) ≡ kept_after now fs
    → (list_any (is_alike (face_at fs i)) now ≡ true → Fate before (f ∷ fs) (suc i))
    → Fate now fs i → Fate before (f ∷ fs) (suc i)
later before f fs now i same found (met m) = found m
later before f fs now i same found (after j l flat alike) = after (suc j) (omega arith) flat alike
later before f fs now i same found (kept k l is) =
    kept k (subst (λ (all : List Corners). k < length all) (sym same) l)
    (ap (λ (all : List Corners). face_at all k) same ∙ is)

fate : (before fs : List Corners) (i : ℕ) → i < length fs → is_flat (face_at fs i) ≡ false
    → Fate before fs i
fate before [] i l flat = absurd (omega arith)
fate before (f ∷ fs) zero l flat =
    elim (cases_Bool (is_kept_after before f)) [
      | inl t ↦
          let longer = length-append before (f ∷ []) in
          let front = front_stays (before ++ f ∷ []) fs (length before) (omega arith) in
          let all : kept_after before (f ∷ fs) ≡ kept_after (before ++ f ∷ []) fs =
          cond-true _ _ _ t in
          kept (length before)
          (subst (λ (all : List Corners). length before < length all) (sym all) front.0)
          (ap (λ (all : List Corners). face_at all (length before)) all ∙ front.1
          ∙ get_or-append_seam before f [] no_corners)
      | inr n ↦ met (was_met before f flat n)
    ]
fate before (f ∷ fs) (suc i) l flat =
    let Goal : Type 0 = Fate before (f ∷ fs) (suc i) in
    elim (cases_Bool (is_kept_after before f)) [
      | inl t ↦
          let found : list_any (is_alike (face_at fs i)) (before ++ f ∷ []) ≡ true → Goal = λ m.
          let both = sym (list_any-append (is_alike (face_at fs i)) before (f ∷ [])) ∙ m in
          elim (or_cases (list_any (is_alike (face_at fs i)) before) _ both) [
            | inl here ↦ met here
            | inr there ↦
                elim (or_cases (is_alike (face_at fs i) f) false there) [
                  | inl alike ↦ after 0 (omega arith) (kept_not_flat before f t) alike
                  | inr never ↦ absurd (true≢false (sym never))
                ]
          ] in
          later before f fs (before ++ f ∷ []) i (cond-true _ _ _ t) found
          (fate (before ++ f ∷ []) fs i (omega arith) flat)
      | inr n ↦
          later before f fs before i (cond-false _ _ _ n) (λ m. met m)
          (fate before fs i (omega arith) flat)
    ]

-- Each face that stays is one of the list, or stayed before.
came_from : (before fs : List Corners) (k : ℕ) → k < length (kept_after before fs)
    → (k < length before)
    ⊎ ((i : ℕ) × (i < length fs) × (face_at (kept_after before fs) k ≡ face_at fs i))
came_from before [] k l = inl l
came_from before (f ∷ fs) k l =
    let Goal : Type 0 = (k < length before) ⊎ ((i : ℕ) × (i < length (f ∷ fs))
    × (face_at (kept_after before (f ∷ fs)) k ≡ face_at (f ∷ fs) i)) in
    elim (cases_Bool (is_kept_after before f)) [
      | inl t ↦
          let all : kept_after before (f ∷ fs) ≡ kept_after (before ++ f ∷ []) fs =
          cond-true _ _ _ t in
          let longer = length-append before (f ∷ []) in
          let here = ap (λ (all : List Corners). face_at all k) all in
          elim (came_from (before ++ f ∷ []) fs k
          (subst (λ (all : List Corners). k < length all) all l)) [
            | inl low ↦
                elim (below_or_last k (length before) (omega arith)) [
                  | inl old ↦ inl old
                  | inr last ↦
                      let front = front_stays (before ++ f ∷ []) fs k low in
                      let is : face_at (before ++ f ∷ []) k ≡ f =
                      ap (face_at (before ++ f ∷ [])) last
                      ∙ get_or-append_seam before f [] no_corners in
                      inr (0, omega arith, here ∙ front.1 ∙ is)
                ]
            | inr (i, low, is) ↦ inr (suc i, omega arith, here ∙ is)
          ]
      | inr n ↦
          let all : kept_after before (f ∷ fs) ≡ kept_after before fs = cond-false _ _ _ n in
          let here = ap (λ (all : List Corners). face_at all k) all in
          elim (came_from before fs k
          (subst (λ (all : List Corners). k < length all) all l)) [
            | inl low ↦ inl low
            | inr (i, low, is) ↦ inr (suc i, omega arith, here ∙ is)
          ]
    ]
  where
    below_or_last : (k n : ℕ) → k < n + 1 → (k < n) ⊎ (k ≡ n)
    below_or_last k n l = grind (arith, common_steps)

module _ (places : List Place) (faces : List Corners) (m : Mesh)
    (low : All (AreVerticesBelow (length places)) faces) (p : IsPrepared places faces m)
  where
    abbrev at : ℕ → Place
    at v = place_in_list places v

    abbrev name : ℕ → ℕ
    name v = get_or p.names v 0

    abbrev joined : List Corners
    joined = joined_faces p.names faces

    joined_at : (i : ℕ) → i < length faces
        → face_at joined i ≡ renamed p.names (face_at faces i)
    joined_at i l = get_or-map (renamed p.names) faces i no_corners no_corners l

    -- A vertex that a face names stands where the one does that it was joined to.
    first_of : (v : ℕ) → is_some_corner faces v ≡ true → IsFirstAt places faces v (name v)
    first_of v named = p.joined.each v (named_low (length places) faces v low named) named

    same_place : (v : ℕ) → is_some_corner faces v ≡ true → at (name v) ≡ at v
    same_place v named = (first_of v named).same

    same_name : (v w : ℕ) → is_some_corner faces v ≡ true → is_some_corner faces w ≡ true
        → name v ≡ name w → at v ≡ at w
    same_name v w nv nw is =
        sym (same_place v nv) ∙ ap at is ∙ same_place w nw

    own : (v : ℕ) → is_some_corner faces v ≡ true → IsFirstAt places faces (name v) (name v)
    own v named = let first = first_of v named in record {
      named = first.named;
      same = refl;
      least = λ w l n same. first.least w l n (same ∙ first.same);
    }

    one_name : (v w : ℕ) → is_some_corner faces v ≡ true → is_some_corner faces w ≡ true
        → at v ≡ at w → name v ≡ name w
    one_name v w nv nw is =
        one_place places faces (name v) (name w) (own v nv) (own w nw)
        (same_place v nv ∙ is ∙ sym (same_place w nw))

    flat_edge : (i : ℕ) → i < length faces → is_flat (face_at joined i) ≡ true
        → IsEdgeAt places (triangle_at faces i)
    flat_edge i l flat =
        let f = face_at faces i in
        let n = corners_named faces i l in
        let is : is_flat (renamed p.names f) ≡ true = sym (ap is_flat (joined_at i l)) ∙ flat in
        elim (or_cases (eqb (name f.a) (name f.b) || eqb (name f.b) (name f.c)) _ is) [
          | inl front ↦
              elim (or_cases (eqb (name f.a) (name f.b)) _ front) [
                | inl ab ↦ inl (same_name f.a f.b n.a n.b (eqb-true _ _ ab))
                | inr bc ↦ inr (inl (same_name f.b f.c n.b n.c (eqb-true _ _ bc)))
              ]
          | inr ca ↦ inr (inr (same_name f.c f.a n.c n.a (eqb-true _ _ ca)))
        ]

    edge_flat : (j : ℕ) → j < length faces → is_flat (face_at joined j) ≡ false
        → IsEdgeAt places (triangle_at faces j) → ⊥
    edge_flat j l flat edge =
        let f = face_at faces j in
        let n = corners_named faces j l in
        let is : is_flat (renamed p.names f) ≡ false = sym (ap is_flat (joined_at j l)) ∙ flat in
        elim edge [
          | inl ab ↦
              let e = eqb-equal (name f.a) (name f.b) (one_name f.a f.b n.a n.b ab) in
              grind (arith, common_steps)
          | inr more ↦
              elim more [
                | inl bc ↦
                    let e = eqb-equal (name f.b) (name f.c) (one_name f.b f.c n.b n.c bc) in
                    grind (arith, common_steps)
                | inr ca ↦
                    let e = eqb-equal (name f.c) (name f.a) (one_name f.c f.a n.c n.a ca) in
                    grind (arith, common_steps)
              ]
        ]
      where
        eqb-equal : (a b : ℕ) → a ≡ b → eqb a b ≡ true
        eqb-equal a b is = eq-eqb a b is

    -- A corner of a joined face is the name of one of its corners.
    corner_stands : (i v : ℕ) → i < length faces
        → is_corner (renamed p.names (face_at faces i)) v ≡ true
        → HasCornerAt places (triangle_at faces i) (at v)
    corner_stands i v l is =
        let f = face_at faces i in
        let n = corners_named faces i l in
        elim (or_cases (eqb (name f.a) v || eqb (name f.b) v) _ is) [
          | inl front ↦
              elim (or_cases (eqb (name f.a) v) _ front) [
                | inl a ↦ inl (sym (same_place f.a n.a) ∙ ap at (eqb-true _ _ a))
                | inr b ↦ inr (inl (sym (same_place f.b n.b) ∙ ap at (eqb-true _ _ b)))
              ]
          | inr c ↦ inr (inr (sym (same_place f.c n.c) ∙ ap at (eqb-true _ _ c)))
        ]

    moved_corner : (f : Corners) (v : ℕ) → is_some_corner faces v ≡ true
        → HasCornerAt places f (at (name v)) → HasCornerAt places f (at v)
    moved_corner f v named is = subst (HasCornerAt places f) (same_place v named) is

    alike_stands : (i j : ℕ) → i < length faces → j < length faces
        → is_alike (face_at joined i) (face_at joined j) ≡ true
        → StandsOn places (triangle_at faces i) (triangle_at faces j)
    unfolding is_alike
    alike_stands i j li lj alike =
        let f = face_at faces i in
        let g = face_at faces j in
        let n = corners_named faces j lj in
        let is : is_alike (renamed p.names f) (renamed p.names g) ≡ true =
        sym (ap (λ (x : Corners). is_alike x (face_at joined j)) (joined_at i li)
        ∙ ap (is_alike (renamed p.names f)) (joined_at j lj)) ∙ alike in
        let (ab, c) = and_parts _ _ is in
        let (a, b) = and_parts _ _ ab in
        record {
          a = moved_corner f g.a n.a (corner_stands i (name g.a) li a);
          b = moved_corner f g.b n.b (corner_stands i (name g.b) li b);
          c = moved_corner f g.c n.c (corner_stands i (name g.c) li c);
        }

    abbrev stay : List Corners
    stay = staying p.names faces

    abbrev round : List Corners
    round = turned_by p.flags stay

    same_length : length m.faces ≡ length stay
    same_length = p.split.split.faces ∙ turned_length p.flags stay

    -- A vertex of the mesh stands where the joined one does that it was split from.
    split_place : (v w : ℕ) → v < length p.old → get_or p.old v 0 ≡ w
        → place_in_list m.points v ≡ at w
    split_place v w l is =
        ap (λ (ps : List Place). place_in_list ps v) p.stand
        ∙ get_or-map at p.old v 0 origin l ∙ ap at is

    side_place : (e v w : ℕ) → e < 3 * length round → (net_of m.faces).from e ≡ v
        → (net_of round).from e ≡ w → place_in_list m.points v ≡ at w
    side_place e v w l is was =
        split_place v w (subst (λ x. x < length p.old) is (p.split.within e l))
        (ap (λ x. get_or p.old x 0) (sym is) ∙ p.split.back e l ∙ was)

    -- Face k of the mesh stands as face k of those that stay, once turned.
    stands_round : (k : ℕ) → k < length stay → StandsAs places (face_at round k) m k
    stands_round k l =
        let long = turned_length p.flags stay in
        record {
          there = omega (arith, same_length, l);
          a = side_place (3 * k) _ _ (omega arith) (first_side m.faces k).0 (first_side round k).0;
          b =
              side_place (3 * k + 1) _ _ (omega arith) (second_side m.faces k).0
              (second_side round k).0;
          c =
              side_place (3 * k + 2) _ _ (omega arith) (third_side m.faces k).0
              (third_side round k).0;
        }

    -- A face over joined vertices stands as the face itself.
    stands_joined : (i k : ℕ) → i < length faces
        → StandsAs places (renamed p.names (face_at faces i)) m k
        → StandsAs places (triangle_at faces i) m k
    stands_joined i k l s =
        let f = face_at faces i in
        let n = corners_named faces i l in
        record {
          there = s.there;
          a = s.a ∙ same_place f.a n.a;
          b = s.b ∙ same_place f.b n.b;
          c = s.c ∙ same_place f.c n.c;
        }

    turned_joined : (i k : ℕ) → i < length faces
        → StandsAs places (turned_face (renamed p.names (face_at faces i))) m k
        → StandsAs places (turned_face (triangle_at faces i)) m k
    turned_joined i k l s =
        let f = face_at faces i in
        let n = corners_named faces i l in
        record {
          there = s.there;
          a = s.a ∙ same_place f.a n.a;
          b = s.b ∙ same_place f.c n.c;
          c = s.c ∙ same_place f.b n.b;
        }

    abbrev Comes : ℕ → ℕ → Type 0
    Comes i k = StandsAs places (triangle_at faces i) m k
        ⊎ StandsAs places (turned_face (triangle_at faces i)) m k

    comes : (i k : ℕ) → i < length faces → k < length stay → face_at stay k ≡ face_at joined i
        → Comes i k
    comes i k l lk is =
        let s = stands_round k lk in
        let was = is ∙ joined_at i l in
        elim ((each_is_turned_or_not p.flags stay).1 k lk) [
          | inl as_was ↦
              inl (stands_joined i k l
              (subst (λ (f : Corners). StandsAs places f m k) (as_was ∙ was) s))
          | inr round_is ↦
              inr (turned_joined i k l
              (subst (λ (f : Corners). StandsAs places f m k) (round_is ∙ ap turned_face was) s))
        ]

    by_fate : (i : ℕ) → i < length faces → Fate [] joined i → Became places faces m i
    unfolding kept_of
    by_fate i l (met never) = absurd (true≢false (sym never))
    by_fate i l (after j lj flat alike) =
        let long = length-map faces (renamed p.names) in
        a_double j lj (edge_flat j (omega arith) flat)
        (alike_stands i j l (omega arith) alike)
    by_fate i l (kept k lk is) =
        elim (comes i k l lk is) [ inl s ↦ as_it_was k s | inr s ↦ turned k s ]

    became_at : (i : ℕ) → i < length faces → Became places faces m i
    became_at i l =
        elim (cases_Bool (is_flat (face_at joined i))) [
          | inl flat ↦ an_edge (flat_edge i l flat)
          | inr stands ↦
              let long = length-map faces (renamed p.names) in
              by_fate i l (fate [] joined i (omega arith) stands)
        ]

    came_at : (k : ℕ) → k < length m.faces → (i : ℕ) × (i < length faces) × Comes i k
    unfolding kept_of
    came_at k l =
        let lk : k < length stay = omega (arith, same_length, l) in
        let long = length-map faces (renamed p.names) in
        elim (came_from [] joined k lk) [
          | inl none ↦ absurd (omega arith)
          | inr (i, low, is) ↦ (i, omega arith, comes i k (omega arith) lk is)
        ]

    told : AllBecame places faces m
    told = record { became = became_at; came = came_at }

pub triangles_are_told : TrianglesAreTold
triangles_are_told places faces m low p = told places faces m low p
