-- What is under a node that is split is under its children.
use Rattle.std.proofs.Common.{◌≡◌, ℕ, ◌*◌, Bool, ◌||◌, ap, ◌∙◌, [], ◌∷◌, None, length, get_or}
use Rattle.std.proofs.Common.{replicate, refl, sym, arith}
use Rattle.std.proofs.lemmas.List.{get_or-replicate, length-replicate}
use Rattle.std.specs.Prelude.{map, List, Option}
use Rattle.std.specs.List.{filter, range_with_len}
use Rattle.pm_forest.specs.Forest.{Hierarchy, node_count, s_of, t_of, u_of}
use Rattle.pm_forest.specs.Faces.{faces_of, face_count}
use Rattle.pm_forest.specs.Rules.{HasShape}
use Rattle.pm_bounds.specs.Bounds.{has_corner_under, normal_of}
use Rattle.pm_bounds.proofs.LeafLaws.{filter_same}
use Rattle.pm_bounds.proofs.Nodes.{children_faces}
use Rattle.pm_deviation.specs.declared.axes.Axis.{Axis}
use Rattle.pm_deviation.specs.declared.heading.Heading.{Heading}
use Rattle.pm_deviation.specs.declared.spread.Spread.{Spread}
use Rattle.pm_deviation.specs.Spreads.{join, joined_all}
use Rattle.pm_deviation.specs.Normals.{part_along, spread_of}
use Rattle.pm_deviation.specs.Borders.{is_border_side_under}
use Rattle.pm_deviation.specs.Lines.{side_way, line_spread_of}
use Rattle.pm_deviation.specs.Tables.{AreJoined, leaves_of, heading_along, spread_among}
use Rattle.pm_deviation.specs.Tables.{AreOfNodes, HaveSpreads}
use Rattle.pm_deviation.proofs.BorderLaws.{side-split}
use Rattle.pm_deviation.proofs.SpreadLaws.{joined_all-either}

-- of what passes one of two tests
either_joined : {X : Type 0} (f : X → Option Spread) (p q r : X → Bool) (xs : List X)
    → ((x : X) → p x ≡ (q x || r x)) →
    joined_all (map f (filter p xs))
    ≡ join (joined_all (map f (filter q xs))) (joined_all (map f (filter r xs)))
either_joined f p q r xs either =
    ap (λ ys. joined_all (map f ys)) (filter_same p (λ x. q x || r x) xs either)
    ∙ joined_all-either f q r xs

module _ (h : Hierarchy) (shape : HasShape h) where
  pub spread-split : (u : Axis) → AreJoined h (spread_of h u)
  unfolding spread_of
  spread-split u k l =
      either_joined (λ f. part_along u (normal_of h f)) (has_corner_under h (s_of h k))
      (has_corner_under h (t_of h k)) (has_corner_under h (u_of h k)) (faces_of h)
      (λ f. children_faces h shape k f l)

  pub line_spread-split : (u : Axis) → AreJoined h (line_spread_of h u)
  unfolding line_spread_of
  line_spread-split u k l =
      either_joined (λ e. part_along u (side_way h e)) (is_border_side_under h (s_of h k))
      (is_border_side_under h (t_of h k)) (is_border_side_under h (u_of h k))
      (range_with_len 0 (3 * face_count h)) (λ e. side-split h shape k e l)

  pub among-split : (ds : List Heading) (u : Axis) → AreJoined h (spread_among h ds u)
  unfolding spread_among
  among-split ds u k l =
      either_joined (heading_along u) (λ d. has_corner_under h (s_of h k) (leaves_of d))
      (λ d. has_corner_under h (t_of h k) (leaves_of d))
      (λ d. has_corner_under h (u_of h k) (leaves_of d)) ds
      (λ d. children_faces h shape k (leaves_of d) l)

-- Where there are no headings no node has a spread.
none_among : (h : Hierarchy) (ds : List Heading) (u : Axis) (v : ℕ) → length ds ≡ 0
    → spread_among h ds u v ≡ None
unfolding spread_among
none_among h [] u v is = refl
none_among h (d ∷ ds) u v is = absurd (omega (arith, is))

pub missing_all : (h : Hierarchy) (spread : Axis → ℕ → Option Spread) (ds : List Heading)
    (u : Axis) (table : List (Option Spread)) → length ds ≡ 0 → HaveSpreads h spread ds
    → table ≡ replicate (node_count h) None → AreOfNodes h None (spread u) table
missing_all h spread ds u table is have are = record {
  nodes = ap length are ∙ length-replicate (node_count h) None;
  each = λ v l.
      (ap (λ (t : List (Option Spread)). get_or t v None) are
      ∙ get_or-replicate (node_count h) v None None l ∙ sym (none_among h ds u v is) ∙ have u v);
}
