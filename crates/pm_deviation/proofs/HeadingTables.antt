-- Lists of headings, and the table of leaves while they are gone through.
use Rattle.std.proofs.Common.{◌≡◌, ℕ, ◌+◌, ◌*◌, ◌<◌, eqb, cond, Bool, true, false, ◌||◌, List, []}
use Rattle.std.proofs.Common.{◌∷◌, ◌++◌, length, map, take, get_or, set, Option, None}
use Rattle.std.specs.Prelude.{nat_lt}
use Rattle.std.proofs.Common.{refl, sym, ap, subst, ◌∙◌, arith}
use Rattle.std.proofs.lemmas.Grind.{common_steps}
use Rattle.std.specs.List.{filter, range_with_len}
use Rattle.std.specs.Option.{is_none}
use Rattle.std.proofs.Math.Seq.{take-length}
use Rattle.std.proofs.lemmas.Bool.{cond-false, eq-eqb, ne_eqb, lt-ltb}
use Rattle.std.proofs.lemmas.List.{take_more, length-append}
use Rattle.pm_base.proofs.Numbers.{range_parts}
use Rattle.pm_forest.specs.declared.parts.Face.{Face}
use Rattle.pm_forest.specs.Forest.{Hierarchy, node_count, leaf_count, holds}
use Rattle.pm_forest.specs.Faces.{faces_of, face_count, corners_of, from_leaf, to_leaf}
use Rattle.pm_forest.specs.Rules.{HasShape}
use Rattle.pm_forest.specs.Tables.{leaf_node_of}
use Rattle.pm_forest.proofs.FaceLists.{length-faces_of, corners_of-faces_of}
use Rattle.pm_forest.proofs.HierarchyLaws.{leaf_node-lt}
use Rattle.pm_beyond.specs.Walks.{leaf_twin}
use Rattle.pm_bounds.specs.Bounds.{normal_of, has_corner_under}
use Rattle.pm_bounds.specs.Leaves.{is_leaf_corner}
use Rattle.pm_bounds.proofs.Nodes.{own_faces, leaf_node-apart, has_leaf}
use Rattle.pm_bounds.proofs.TableLaws.{three}
use Rattle.pm_deviation.specs.declared.axes.Axis.{Axis}
use Rattle.pm_deviation.specs.declared.heading.Heading.{Heading}
use Rattle.pm_deviation.specs.declared.spread.Spread.{Spread}
use Rattle.pm_deviation.specs.Spreads.{join, joined_all}
use Rattle.pm_deviation.specs.Normals.{unit_box, part_along, spread_of}
use Rattle.pm_deviation.specs.Borders.{is_border_side_under, has_border}
use Rattle.pm_deviation.specs.Lines.{side_way, line_spread_of}
use Rattle.pm_deviation.specs.Tables.{leaves_of, no_heading, heading_along, spread_among, IsHeading}
use Rattle.pm_deviation.specs.Tables.{AreHeadings, HaveSpreads, AreOwn, IsFaceHeading, AreOfFaces}
use Rattle.pm_deviation.proofs.BorderLaws.{has_border_in, has_border_in-none, has_border_in-passed}
use Rattle.pm_deviation.proofs.BorderLaws.{has_border_in-found, has_border_in-all}
use Rattle.pm_deviation.proofs.NodeTables.{pushed}
use Rattle.pm_deviation.proofs.SpreadLaws.{join-twice, joined_all-one_more}

-- one heading more
pub headings_more : (h : Hierarchy) (old : List Heading) (d : Heading) → AreHeadings h old
    → IsHeading h d → AreHeadings h (old ++ d ∷ [])
headings_more h old d was is i l =
    pushed no_heading (λ j x. IsHeading h x) (length old) old d refl was is i
    (omega (arith, l, length-append old (d ∷ [])))

pub among-pushed : (h : Hierarchy) (ds : List Heading) (d : Heading) (u : Axis) (v : ℕ) →
    spread_among h (ds ++ d ∷ []) u v
    ≡ cond (has_corner_under h v (leaves_of d)) (join (spread_among h ds u v) (heading_along u d))
    (spread_among h ds u v)
unfolding spread_among
among-pushed h ds d u v =
    joined_all-one_more (heading_along u) (λ x. has_corner_under h v (leaves_of x)) ds d

-- What the normals of the first n faces under a node have along an axis.
unfoldable pub spread_in : Hierarchy → Axis → ℕ → ℕ → Option Spread
spread_in h u n v =
    joined_all (map (λ f. part_along u (normal_of h f))
    (filter (has_corner_under h v) (take n (faces_of h))))

module _ (h : Hierarchy) (u : Axis) where
  one_more : (n : ℕ) → n < face_count h → take (n + 1) (faces_of h) ≡ take n (faces_of h)
      ++ corners_of h n ∷ []
  one_more n l = grind (arith, common_steps, corners_of-faces_of, length-faces_of, take_more)

  pub spread_in-more : (n v : ℕ) → n < face_count h →
      spread_in h u (n + 1) v
      ≡ cond (has_corner_under h v (corners_of h n))
      (join (spread_in h u n v) (part_along u (normal_of h (corners_of h n)))) (spread_in h u n v)
  unfolding spread_in
  spread_in-more n v l =
      ap (λ fs. joined_all (map (λ f. part_along u (normal_of h f))
      (filter (has_corner_under h v) fs))) (one_more n l)
      ∙ joined_all-one_more (λ f. part_along u (normal_of h f)) (has_corner_under h v)
      (take n (faces_of h)) (corners_of h n)

  pub spread_in-all : (v : ℕ) → spread_in h u (face_count h) v ≡ spread_of h u v
  unfolding spread_in spread_of
  spread_in-all v =
      ap (λ fs. joined_all (map (λ f. part_along u (normal_of h f))
      (filter (has_corner_under h v) fs)))
      (ap (λ n. take n (faces_of h)) (sym (length-faces_of h)) ∙ take-length (faces_of h))

-- The headings of the first n faces.
pub record AreFaceHeadings (h : Hierarchy) (n : ℕ) (ds : List Heading) : Type 0 where
  pub each : AreHeadings h ds
  pub seen : (u : Axis) (v : ℕ) → spread_among h ds u v ≡ spread_in h u n v
  pub faces : AreOfFaces h n ds

pub faces_none : (h : Hierarchy) (ds : List Heading) → ds ≡ [] → AreFaceHeadings h 0 ds
unfolding spread_among spread_in
faces_none h ds is = record {
  each = λ i l. absurd (omega (arith, l, ap length is));
  seen = λ u v. ap (λ l. joined_all (map (heading_along u)
      (filter (λ d. has_corner_under h v (leaves_of d)) l))) is;
  faces = record { len = ap length is; each = λ f l. absurd (omega arith) };
}

pub faces_more : (h : Hierarchy) (n : ℕ) (old new : List Heading) (d : Heading)
    → n < face_count h → AreFaceHeadings h n old → new ≡ old ++ d ∷ [] → IsHeading h d →
    d.a ≡ (corners_of h n).a → d.b ≡ (corners_of h n).b → d.c ≡ (corners_of h n).c
    → d.parts ≡ unit_box (normal_of h (corners_of h n)) → AreFaceHeadings h (n + 1) new
faces_more h n old new d l was is heading a b c parts = record {
  each = subst (AreHeadings h) (sym is) (headings_more h old d was.each heading);
  seen = λ u v.
      ap (λ ds. spread_among h ds u v) is ∙ among-pushed h old d u v
      ∙ (rw (a, b, c, parts, was.seen u v) refl) ∙ sym (spread_in-more h u n v l);
  faces = record {
    len = ap length is ∙ length-append old (d ∷ []) ∙ ap (λ m. m + 1) was.faces.len;
    each = subst (λ (ds : List Heading). (f : ℕ) → f < n + 1
        → IsFaceHeading h f (get_or ds f no_heading)) (sym is)
        (pushed no_heading (λ f x. IsFaceHeading h f x) n old d was.faces.len was.faces.each
        (record { a = a; b = b; c = c; parts = parts }));
  };
}

pub faces_all : (h : Hierarchy) (n : ℕ) (ds : List Heading) → n ≡ face_count h
    → AreFaceHeadings h n ds → HaveSpreads h (spread_of h) ds
faces_all h n ds all was u v =
    was.seen u v ∙ ap (λ m. spread_in h u m v) all ∙ spread_in-all h u v

pub faces_of_all : (h : Hierarchy) (n : ℕ) (ds : List Heading) → n ≡ face_count h
    → AreFaceHeadings h n ds → AreOfFaces h (face_count h) ds
faces_of_all h n ds all was = subst (λ m. AreOfFaces h m ds) all was.faces

-- What the border sides under a node among the first n sides have along an axis.
unfoldable pub line_spread_in : Hierarchy → Axis → ℕ → ℕ → Option Spread
line_spread_in h u n v =
    joined_all (map (λ e. part_along u (side_way h e))
    (filter (is_border_side_under h v) (range_with_len 0 n)))

from_none : (n : ℕ) → 0 + n ≡ n
from_none n = omega arith

-- which sides are under a node, by whether they have a twin
not_under : (h : Hierarchy) (n v : ℕ) → is_none (leaf_twin h n) ≡ false
    → is_border_side_under h v n ≡ false
not_under h n v twin = rw twin refl

twice : (a b : Bool) → (a || b || b) ≡ (a || b)
twice a b = grind (arith, common_steps)

under_same : (h : Hierarchy) (n v : ℕ) (d : Heading) → is_none (leaf_twin h n) ≡ true
    → d.a ≡ from_leaf h n → d.b ≡ to_leaf h n → d.c ≡ to_leaf h n →
    has_corner_under h v (leaves_of d) ≡ is_border_side_under h v n
under_same h n v d alone a b c =
    rw (a, b, c, alone) (twice (holds h v (from_leaf h n)) (holds h v (to_leaf h n)))

pub line_spread_in-more : (h : Hierarchy) (u : Axis) (n v : ℕ) →
    line_spread_in h u (n + 1) v
    ≡ cond (is_border_side_under h v n)
    (join (line_spread_in h u n v) (part_along u (side_way h n))) (line_spread_in h u n v)
unfolding line_spread_in
line_spread_in-more h u n v =
    ap (λ es. joined_all (map (λ e. part_along u (side_way h e))
    (filter (is_border_side_under h v) es))) (range_parts 0 n 1
    ∙ ap (λ k. range_with_len 0 n ++ k ∷ []) (from_none n))
    ∙ joined_all-one_more (λ e. part_along u (side_way h e)) (is_border_side_under h v)
    (range_with_len 0 n) n

-- The headings of the border sides among the first n.
pub record AreBorderHeadings (h : Hierarchy) (n : ℕ) (ds : List Heading) : Type 0 where
  pub each : AreHeadings h ds
  pub seen : (u : Axis) (v : ℕ) → spread_among h ds u v ≡ line_spread_in h u n v
  pub border : nat_lt 0 (length ds) ≡ has_border_in h n

pub sides_none : (h : Hierarchy) (ds : List Heading) → ds ≡ [] → AreBorderHeadings h 0 ds
unfolding spread_among line_spread_in
sides_none h ds is = record {
  each = λ i l. absurd (omega (arith, l, ap length is));
  seen = λ u v. ap (λ l. joined_all (map (heading_along u)
      (filter (λ d. has_corner_under h v (leaves_of d)) l))) is;
  border = ap (λ (l : List Heading). nat_lt 0 (length l)) is ∙ sym (has_border_in-none h);
}

-- a side with a twin
pub side_passed : (h : Hierarchy) (n : ℕ) (ds : List Heading) → is_none (leaf_twin h n) ≡ false
    → AreBorderHeadings h n ds → AreBorderHeadings h (n + 1) ds
side_passed h n ds twin was = record {
  each = was.each;
  seen = λ u v. was.seen u v
      ∙ sym (line_spread_in-more h u n v ∙ cond-false _ _ _ (not_under h n v twin));
  border = was.border ∙ sym (has_border_in-passed h n twin);
}

-- a side without one
pub side_more : (h : Hierarchy) (n : ℕ) (old new : List Heading) (d : Heading)
    → is_none (leaf_twin h n) ≡ true → AreBorderHeadings h n old → new ≡ old ++ d ∷ []
    → IsHeading h d → d.a ≡ from_leaf h n → d.b ≡ to_leaf h n → d.c ≡ to_leaf h n
    → d.parts ≡ unit_box (side_way h n) → AreBorderHeadings h (n + 1) new
side_more h n old new d alone was is heading a b c parts = record {
  each = subst (AreHeadings h) (sym is) (headings_more h old d was.each heading);
  seen = λ u v.
      ap (λ ds. spread_among h ds u v) is ∙ among-pushed h old d u v
      ∙ ap (λ t. cond t (join (spread_among h old u v) (heading_along u d))
      (spread_among h old u v)) (under_same h n v d alone a b c)
      ∙ (rw (parts, was.seen u v) refl) ∙ sym (line_spread_in-more h u n v);
  border =
      lt-ltb 0 (length new) (omega (arith, ap length is, length-append old (d ∷ [])))
      ∙ sym (has_border_in-found h n alone);
}

pub sides_all : (h : Hierarchy) (n : ℕ) (ds : List Heading) → n ≡ 3 * face_count h
    → AreBorderHeadings h n ds → HaveSpreads h (line_spread_of h) ds
unfolding line_spread_in line_spread_of
sides_all h n ds all was u v =
    was.seen u v ∙ ap (λ m. joined_all (map (λ e. part_along u (side_way h e))
    (filter (is_border_side_under h v) (range_with_len 0 m)))) all

pub sides_tell : (h : Hierarchy) (n : ℕ) (ds : List Heading) → n ≡ 3 * face_count h
    → AreBorderHeadings h n ds → nat_lt 0 (length ds) ≡ has_border h
sides_tell h n ds all was = was.border ∙ has_border_in-all h n all

-- The table of nodes by the first n headings: what the node of each leaf has.
pub record AreSeenTo (h : Hierarchy) (ds : List Heading) (u : Axis) (n : ℕ)
    (table : List (Option Spread)) : Type 0 where
  pub len : length table ≡ node_count h
  pub each : (l : ℕ) → l < leaf_count h → get_or table (leaf_node_of h l) None
      ≡ spread_among h (take n ds) u (leaf_node_of h l)

among-none : (h : Hierarchy) (ds : List Heading) (u : Axis) (v : ℕ)
    → spread_among h (take 0 ds) u v ≡ None
unfolding spread_among
among-none h ds u v = refl

among-more : (h : Hierarchy) (ds : List Heading) (u : Axis) (n v : ℕ) → n < length ds →
    spread_among h (take (n + 1) ds) u v
    ≡ cond (has_corner_under h v (leaves_of (get_or ds n no_heading)))
    (join (spread_among h (take n ds) u v) (heading_along u (get_or ds n no_heading)))
    (spread_among h (take n ds) u v)
among-more h ds u n v l =
    ap (λ xs. spread_among h xs u v) (take_more ds n no_heading l)
    ∙ among-pushed h (take n ds) (get_or ds n no_heading) u v

module _ (h : Hierarchy) (shape : HasShape h) where
  -- two leaves are one exactly where their nodes are
  same_leaf : (l m : ℕ) → l < leaf_count h → m < leaf_count h
      → eqb (leaf_node_of h l) (leaf_node_of h m) ≡ eqb l m
  same_leaf l m p q = grind (arith, common_steps, eq-eqb, leaf_node-apart, ne_eqb)

  -- the three corners of a face, whose nodes are widened one after the other
  pub corners_widened : (t t1 t2 t3 : List (Option Spread)) (part : Option Spread) (f : Face)
      → length t ≡ node_count h →
      f.a < leaf_count h → f.b < leaf_count h → f.c < leaf_count h →
      t1 ≡ set t (leaf_node_of h f.a) (join (get_or t (leaf_node_of h f.a) None) part) →
      t2 ≡ set t1 (leaf_node_of h f.b) (join (get_or t1 (leaf_node_of h f.b) None) part) →
      t3 ≡ set t2 (leaf_node_of h f.c) (join (get_or t2 (leaf_node_of h f.c) None) part) →
      (l : ℕ) → l < leaf_count h → get_or t3 (leaf_node_of h l) None
      ≡ cond (is_leaf_corner l f) (join (get_or t (leaf_node_of h l) None) part)
      (get_or t (leaf_node_of h l) None)
  corners_widened t t1 t2 t3 part f len a b c e1 e2 e3 l m =
      let v = leaf_node_of h l in
      let na = leaf_node-lt h shape f.a a in
      let nb = leaf_node-lt h shape f.b b in
      let nc = leaf_node-lt h shape f.c c in
      let all = three None (λ w x. join x part) (λ w x. join-twice x part) t t1 t2 t3
      (leaf_node_of h f.a) (leaf_node_of h f.b) (leaf_node_of h f.c)
      (omega arith) (omega arith) (omega arith) e1 e2 e3 v in
      all ∙ (rw (same_leaf l f.a m a, same_leaf l f.b m b, same_leaf l f.c m c) refl)

  module _ (ds : List Heading) (u : Axis) where
    -- before any heading
    pub seen_none : (table : List (Option Spread)) → length table ≡ node_count h
        → ((v : ℕ) → v < node_count h → get_or table v None ≡ None) → AreSeenTo h ds u 0 table
    seen_none table len none = record {
      len = len;
      each = λ l below.
          none (leaf_node_of h l) (leaf_node-lt h shape l below)
          ∙ sym (among-none h ds u (leaf_node_of h l));
    }

    -- one heading more
    pub seen_more : (n : ℕ) → n < length ds → (old new : List (Option Spread))
        → AreSeenTo h ds u n old
        → length new ≡ node_count h →
        ((l : ℕ) → l < leaf_count h → get_or new (leaf_node_of h l) None
        ≡ cond (is_leaf_corner l (leaves_of (get_or ds n no_heading)))
        (join (get_or old (leaf_node_of h l) None) (heading_along u (get_or ds n no_heading)))
        (get_or old (leaf_node_of h l) None)) →
        AreSeenTo h ds u (n + 1) new
    seen_more n below old new was len wider = record {
      len = len;
      each = λ l m.
          wider l m
          ∙ (rw (own_faces h shape l (leaves_of (get_or ds n no_heading)) m, was.each l m) refl)
          ∙ sym (among-more h ds u n (leaf_node_of h l) below);
    }

    -- all headings
    pub seen_all : (n : ℕ) (table : List (Option Spread)) → n ≡ length ds → AreSeenTo h ds u n table
        → AreOwn h None (spread_among h ds u) table
    seen_all n table all was v l none =
        let (x, below, is) = has_leaf h shape v l none in
        subst (λ w. get_or table w None ≡ spread_among h ds u w) is
        (was.each x below
        ∙ ap (λ xs. spread_among h xs u (leaf_node_of h x))
        (ap (λ m. take m ds) all ∙ take-length ds))
