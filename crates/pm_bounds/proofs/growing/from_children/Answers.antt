use Rattle.std.proofs.Common.{◌≡◌, ℕ, ◌+◌, max, List, get_or, refl, ap, ◌∙◌, arith}
use Rattle.pm_base.specs.Place.{Place}
use Rattle.pm_base.specs.Rounded.{distance_of}
use Rattle.pm_forest.specs.Forest.{Hierarchy, s_of, t_of, u_of}
use Rattle.pm_forest.specs.Places.{place_of_node}
use Rattle.pm_bounds.specs.Tables.{errors_of, radii_of, grown_at}
use Rattle.pm_bounds.proofs.growing.from_children.Goals as goal

grown_is :
    (h : Hierarchy) (numbers : List ℕ) (k s t u m n : ℕ) (p q r : Place) → p ≡ place_of_node h s
    → q ≡ place_of_node h t → r ≡ place_of_node h u
    → m ≡ get_or numbers t 0 → n ≡ get_or numbers u 0 → s ≡ s_of h k → t ≡ t_of h k → u ≡ u_of h k
    → max (m + distance_of p q) (n + distance_of p r) ≡ grown_at h numbers k
grown_is h numbers k s t u m n p q r p_is q_is r_is m_is n_is s_is t_is u_is =
    rw (p_is, q_is, r_is, m_is, n_is, s_is, t_is, u_is) refl

pub over-requires-clause-t_error : goal.over-requires-clause-t_error
over-requires-clause-t_error c =
    let ends = c.nodes_of.ensures in
    omega (
      arith,
      c.node_ball-by_t.ensures.error,
      c.requires.small_errors c.nodes_of.result.1.0
          (omega (arith, ends.t, ends.t_node)),
    )

pub over-requires-clause-t_radius : goal.over-requires-clause-t_radius
over-requires-clause-t_radius c =
    let ends = c.nodes_of.ensures in
    omega (
      arith,
      c.node_ball-by_t.ensures.radius,
      c.requires.small_radii c.nodes_of.result.1.0
          (omega (arith, ends.t, ends.t_node)),
    )

pub over-requires-clause-u_error : goal.over-requires-clause-u_error
over-requires-clause-u_error c =
    let ends = c.nodes_of.ensures in
    omega (
      arith,
      c.node_ball-by_u.ensures.error,
      c.requires.small_errors c.nodes_of.result.2.0
          (omega (arith, ends.u, ends.u_node)),
    )

pub over-requires-clause-u_radius : goal.over-requires-clause-u_radius
over-requires-clause-u_radius c =
    let ends = c.nodes_of.ensures in
    omega (
      arith,
      c.node_ball-by_u.ensures.radius,
      c.requires.small_radii c.nodes_of.result.2.0
          (omega (arith, ends.u, ends.u_node)),
    )

pub returns-clause-place : goal.returns-clause-place
returns-clause-place c =
    let ends = c.nodes_of.ensures in
    c.over.ensures.at ∙ c.node_ball-place.ensures.place
    ∙ c.requires.places c.nodes_of.result.0.0 (omega (arith, ends.s, ends.s_node))
    ∙ ap (place_of_node c.args.h.now) ends.s

pub returns-clause-error : goal.returns-clause-error
returns-clause-error c =
    let ends = c.nodes_of.ensures in
    let s = c.nodes_of.result.0.0 in
    let t = c.nodes_of.result.1.0 in
    let u = c.nodes_of.result.2.0 in
    let places = c.requires.places in
    c.over.ensures.error
    ∙ grown_is c.args.h.now (errors_of c.args.balls.now) c.args.k s t u
    c.node_ball-by_t.result.error c.node_ball-by_u.result.error
    c.node_ball-place.result.place c.node_ball-by_t.result.place c.node_ball-by_u.result.place
    (c.node_ball-place.ensures.place ∙ places s (omega (arith, ends.s, ends.s_node)))
    (c.node_ball-by_t.ensures.place ∙ places t (omega (arith, ends.t, ends.t_node)))
    (c.node_ball-by_u.ensures.place ∙ places u (omega (arith, ends.u, ends.u_node)))
    c.node_ball-by_t.ensures.error c.node_ball-by_u.ensures.error ends.s ends.t ends.u

pub returns-clause-radius : goal.returns-clause-radius
returns-clause-radius c =
    let ends = c.nodes_of.ensures in
    let s = c.nodes_of.result.0.0 in
    let t = c.nodes_of.result.1.0 in
    let u = c.nodes_of.result.2.0 in
    let places = c.requires.places in
    c.over.ensures.radius
    ∙ grown_is c.args.h.now (radii_of c.args.balls.now) c.args.k s t u
    c.node_ball-by_t.result.radius c.node_ball-by_u.result.radius
    c.node_ball-place.result.place c.node_ball-by_t.result.place c.node_ball-by_u.result.place
    (c.node_ball-place.ensures.place ∙ places s (omega (arith, ends.s, ends.s_node)))
    (c.node_ball-by_t.ensures.place ∙ places t (omega (arith, ends.t, ends.t_node)))
    (c.node_ball-by_u.ensures.place ∙ places u (omega (arith, ends.u, ends.u_node)))
    c.node_ball-by_t.ensures.radius c.node_ball-by_u.ensures.radius ends.s ends.t ends.u

pub returns-clause-small_error : goal.returns-clause-small_error
returns-clause-small_error c m all =
    let ends = c.nodes_of.ensures in
    let t = all c.nodes_of.result.1.0 (omega (arith, ends.t, ends.t_node)) in
    let u = all c.nodes_of.result.2.0 (omega (arith, ends.u, ends.u_node)) in
    omega (
      arith,
      c.over.ensures.small_error,
      c.node_ball-by_t.ensures.error,
      c.node_ball-by_u.ensures.error,
    )

pub returns-clause-small_radius : goal.returns-clause-small_radius
returns-clause-small_radius c m all =
    let ends = c.nodes_of.ensures in
    let t = all c.nodes_of.result.1.0 (omega (arith, ends.t, ends.t_node)) in
    let u = all c.nodes_of.result.2.0 (omega (arith, ends.u, ends.u_node)) in
    omega (
      arith,
      c.over.ensures.small_radius,
      c.node_ball-by_t.ensures.radius,
      c.node_ball-by_u.ensures.radius,
    )
