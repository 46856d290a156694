-- The units of the first records, by the table of how many active nodes begin before each leaf.
use Rattle.std.proofs.Common.{◌≡◌, ℕ, ◌+◌, ◌*◌, ◌<◌, ◌≤◌, List, length, get_or, ap, ◌∙◌}
use Rattle.std.proofs.Common.{ℤ, [], ◌∷◌, Option, None, Some, is_some, refl, arith}
use Rattle.std.proofs.lemmas.List.{get_or_default}
use Rattle.std.proofs.lemmas.List.Elements.{All-get_or}
use Rattle.pm_base.specs.Counts.{one_if}
use Rattle.pm_base.proofs.Counts.{count_le}
use Rattle.pm_forest.specs.declared.parts.Root.{Root}
use Rattle.pm_forest.specs.declared.parts.Face.{Face}
use Rattle.pm_forest.specs.declared.parts.Head.{Head}
use Rattle.pm_forest.specs.declared.parts.Record.{Record}
use Rattle.pm_forest.specs.declared.parts.NewFace.{NewFace}
use Rattle.pm_forest.specs.Forest.{Hierarchy, record_at, record_count, node_count, leaf_count}
use Rattle.pm_forest.specs.Forest.{interval_of, t_of, u_of}
use Rattle.pm_forest.specs.Places.{no_root}
use Rattle.pm_forest.specs.Shaping.{next_root}
use Rattle.pm_forest.specs.Faces.{no_face_corners, first_face}
use Rattle.pm_forest.specs.Rules.{head_of}
use Rattle.pm_forest.proofs.UnitLaws.{BaseFits}
use Rattle.pm_prefix.specs.declared.units.Prefix.{Prefix}
use Rattle.pm_prefix.specs.Prefix.{begins, begun_before, width_in, input_in, root_in, record_in}
use Rattle.pm_prefix.specs.Prefix.{new_face_in}
use Rattle.pm_prefix.specs.Tables.{whole, IsPrefix, HasCorners}
use Rattle.pm_prefix.proofs.Nodes.{HasNodes, node_within, some_leaves}
use Rattle.pm_prefix.proofs.Begins.{begins_zero_first}
use Rattle.pm_prefix.proofs.Ranks.{begun_above, begun_mono}
use Rattle.pm_prefix.proofs.ShapeNodes.{AreUnits}
use Rattle.pm_prefix.proofs.ShapeUnits.{nodes_of_begun, units_of_begun}
use Rattle.pm_prefix.proofs.TableLaws.{few_units}

module _ (p : Prefix) (is : IsPrefix p) where
  pub nodes_of : HasNodes (whole p)
  nodes_of = nodes_of_begun p.forest.now.counts (whole p) is.begun

  pub units_of : AreUnits (whole p)
  units_of = units_of_begun p.forest.now.counts (whole p) is.begun

  pub few_nodes : length (whole p).roots + record_count (whole p) ≤ 1048576
  few_nodes = few_units p.forest.now.counts (whole p) is.begun

  -- The table

  pub before_most : (x : ℕ) → x ≤ leaf_count (whole p) → begun_before (whole p) p.n x ≤ 1048576
  before_most x l = omega (arith, count_le (begins (whole p) p.n) x, is.most)

  pub some_before : (x : ℕ) → x < leaf_count (whole p) → 0 < begun_before (whole p) p.n (x + 1)
  some_before x l =
      let first = begins_zero_first (whole p) nodes_of p.n (omega arith) in
      let more = begun_above (whole p) p.n 0 (x + 1) first (omega arith) in
      omega arith

  pub ends_of : (v : ℕ) → v < node_count (whole p) → let i = interval_of (whole p) v in
      (i.from ≤ leaf_count (whole p)) × (i.until ≤ leaf_count (whole p))
      × (begun_before (whole p) p.n i.from ≤ begun_before (whole p) p.n i.until)
  ends_of v l =
      let within = node_within (whole p) nodes_of v l in
      let some = some_leaves (whole p) nodes_of v l in
      let more = begun_mono (whole p) p.n (interval_of (whole p) v).from
      (interval_of (whole p) v).until (omega arith) in
      (omega arith, omega arith, omega arith)

  pub ends_in : (v : ℕ) → v < node_count (whole p) → {from until : ℕ}
      → interval_of (whole p) v ≡ record { from = from; until = until }
      → (from ≤ leaf_count (whole p)) × (until ≤ leaf_count (whole p))
      × (begun_before (whole p) p.n from ≤ begun_before (whole p) p.n until)
  ends_in v l {from} {until} e = rw e at (ends_of v l)

  -- Faces

  pub base_corners : (f : ℕ) → f < length (whole p).bases → {bases : List Face} {x : Face}
      → bases ≡ (whole p).bases → x ≡ get_or bases f x
      → HasCorners (whole p) x × (x ≡ get_or (whole p).bases f no_face_corners)
  base_corners f l {bases} {x} same read =
      let at : x ≡ get_or (whole p).bases f no_face_corners =
      read ∙ ap (λ bs. get_or bs f x) same ∙ get_or_default (whole p).bases f x no_face_corners l in
      let fits : BaseFits (whole p).roots x =
      rw at (All-get_or (BaseFits (whole p).roots) (whole p).bases f no_face_corners l
      units_of.bases) in
      (record { a = fits.a; b = fits.b; c = fits.c }, at)

-- Roots and heads from their parts
module _ (h : Hierarchy) (n : ℕ) where
  pub root_parts : (v : ℕ) {roots : List Root} {r : Root} {place : List ℤ} {width input : ℕ}
      → v < length h.roots → roots ≡ h.roots → r ≡ get_or roots v r
      → place ≡ r.place.x ∷ r.place.y ∷ r.place.z ∷ []
      → width ≡ width_in h n (interval_of h v) → input ≡ input_in h n (interval_of h v)
      → next_root place width input ≡ root_in h n v
  unfolding root_in
  root_parts v {roots} {r} {place} {width} {input} l same read place_is width_is input_is =
      let at : r ≡ get_or h.roots v no_root =
      read ∙ ap (λ rs. get_or rs v r) same ∙ get_or_default h.roots v r no_root l in
      rw (place_is, width_is, input_is, at) refl

  pub there : (f : ℕ) (o : Option NewFace) → is_some (new_face_in h n f o) ≡ is_some o
  there f None = refl
  there f (Some x) = refl

  pub head_parts : (k : ℕ) {x : Record} {t u : List ℤ} {width t_input u_input presence : ℕ}
      → x ≡ record_at h k → width ≡ width_in h n (interval_of h (t_of h k))
      → t ≡ x.t.place.x ∷ x.t.place.y ∷ x.t.place.z ∷ []
      → t_input ≡ input_in h n (interval_of h (t_of h k))
      → u ≡ x.u.place.x ∷ x.u.place.y ∷ x.u.place.z ∷ []
      → u_input ≡ input_in h n (interval_of h (u_of h k))
      → presence ≡ one_if (is_some x.left) + 2 * one_if (is_some x.right)
      → ◌≡◌ {A = Head} (record {
        s = x.s;
        width = width;
        t = t;
        t_input = t_input;
        u = u;
        u_input = u_input;
        presence = presence;
      }) (head_of (record_in h n k))
  unfolding record_in
  head_parts k {x} {t} {u} {width} {t_input} {u_input} {presence} is w t_is ti u_is ui some =
      rw (
        t_is,
        u_is,
        some,
        is,
        w,
        ti,
        ui,
        there (first_face h k) (record_at h k).left,
        there (first_face h k + one_if (is_some (record_at h k).left)) (record_at h k).right,
      ) refl
