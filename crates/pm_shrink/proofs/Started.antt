-- What a `Shrink` holds before the first collapse.
use Rattle.std.proofs.Common.{◌≡◌, true, ℕ, ◌-◌, ◌*◌, ◌<◌, ◌≤◌, cond, List, [], ◌∷◌, ◌++◌}
use Rattle.std.proofs.Common.{length, map}
use Rattle.std.proofs.lemmas.Grind.{common_steps}
use Rattle.std.proofs.Common.{take, get_or, Option, Some, None, inl, inr, refl, sym, ap, ◌∙◌, subst}
use Rattle.std.proofs.Common.{arith}
use Rattle.std.specs.Prelude.{is_some, IfSome}
use Rattle.std.specs.List.{count_by}
use Rattle.std.proofs.Math.ListN.{replicate}
use Rattle.std.proofs.Math.Seq.{take-append_seam}
use Rattle.std.proofs.lemmas.List.{length-map, length-append, length-replicate, get_or-append_right}
use Rattle.std.proofs.lemmas.List.{get_or-map, get_or-replicate, get_or_past}
use Rattle.std.proofs.lemmas.List.Sums.{sum_by-cons}
use Rattle.std.proofs.lemmas.Bool.{cases_lt}
use Rattle.std.proofs.lemmas.Option.{none-some}
use Rattle.pm_base.specs.declared.limits.TheConstants.{MOST_FACES, MOST_SIDES}
use Rattle.pm_base.specs.Place.{Place}
use Rattle.pm_base.specs.declared.mesh.Corners.{Corners}
use Rattle.pm_base.specs.Meshes.{Mesh, IsWellFormed}
use Rattle.pm_base.specs.Sides.{Net, side_count, face_of, no_corners, Stands, net_of, twin_of}
use Rattle.pm_base.specs.Fans.{IsOrientedManifold}
use Rattle.pm_base.proofs.NetLaws.{mesh_side}
use Rattle.pm_base.proofs.Search.{option_cases}
use Rattle.pm_base.proofs.TwinLaws.{twin-is}
use Rattle.pm_links.specs.Lists.{Lists, IsSound}
use Rattle.pm_twins.specs.Table.{Table, AreTwinsOf, IsTableOf}
use Rattle.pm_runs.specs.Surfaces.{Surface, surface_of, net_of_surface}
use Rattle.pm_runs.proofs.Collapsed.{input-alike}
use Rattle.pm_runs.specs.Counts.{live_count_of}
use Rattle.pm_runs.proofs.Live.{input-sound}
use Rattle.pm_runs.proofs.Living.{first_live_count}
use Rattle.pm_runs.proofs.Manifolds.{manifold-same}
use Rattle.pm_runs.proofs.Proper.{input-proper}
use Rattle.pm_shrink.specs.Shrinking.{IsKept}
use Rattle.pm_shrink.specs.FaceRows.{side_from}
use Rattle.pm_shrink.specs.Tables.{Tables, surface_in, IsAcross, IsShrink}
use Rattle.pm_shrink.proofs.AllFaces.{net_there}
use Rattle.pm_shrink.proofs.CornerTables.{AreListed}

all_counted : (fs : List Corners) → count_by is_some (map Some fs) ≡ length fs
all_counted [] = refl
all_counted (f ∷ fs) =
    omega (arith, sum_by-cons (λ k. cond (is_some k) 1 0) (Some f) (map Some fs), all_counted fs)

-- Every side stands, and runs from a point.
pub side_there : (m : Mesh) → IsWellFormed m → (e : ℕ) → e < 3 * length m.faces
    → Stands (net_of_surface (surface_of m)) e
    × ((net_of_surface (surface_of m)).from e < length m.points)
side_there m formed e l =
    subst (λ (n : Net). Stands n e × (n.from e < length m.points)) (sym (net_there m))
    (mesh_side m formed e l)

-- The places with room for later ones.
abbrev pub roomy_places : Mesh → List (Option Place)
roomy_places m = map Some m.points ++ replicate (2 * length m.points - length m.points) None

taken_places : (m : Mesh) → take (length m.points) (roomy_places m) ≡ map Some m.points
taken_places m = grind (arith, common_steps, length-map, replicate, take-append_seam)

-- The lists hold each corner of a mesh, with a list for each vertex that can come.
pub record HoldCorners (m : Mesh) (corners : Lists) : Type 0 where
  pub items : corners.items ≡ 3 * length m.faces
  pub heads : length corners.lists ≡ 2 * length m.points
  pub sound : IsSound corners
  pub each : AreListed (map Some m.faces) (3 * length m.faces) corners

-- The tables of a mesh with these lists of corners and twins.
abbrev pub start_tables : Mesh → Lists → List (Option ℕ) → Tables
start_tables m corners across = record {
  faces = map Some m.faces;
  across = across;
  corners = corners;
  places = roomy_places m;
  next = length m.points;
  face_count = length m.faces;
}

pub surface_there : (m : Mesh) (corners : Lists) (across : List (Option ℕ))
    → surface_in (start_tables m corners across) ≡ surface_of m
surface_there m corners across = grind (arith, common_steps, taken_places)

fresh_places : (m : Mesh) (v : ℕ) → length m.points ≤ v → get_or (roomy_places m) v None ≡ None
fresh_places m v le =
    grind (
      arith,
      common_steps,
      get_or-append_right,
      length-map,
      cases_lt (v - length m.points) (2 * length m.points - length m.points),
      get_or-replicate,
      get_or_past,
      length-replicate,
    )

-- The twins of a net, where they are asked for.
record AreTwins (n : Net) (twins : List (Option ℕ)) : Type 0 where
  sides : length twins ≡ 3 * n.faces
  each : (e : ℕ) → Stands n e → get_or twins e None ≡ twin_of n e

twins_there : (n : Net) (twins : List (Option ℕ)) → AreTwinsOf n twins → AreTwins n twins
twins_there n twins are = record { sides = are.sides; each = λ e stands. are.each e stands.is_side }

-- Each side in the table is one of the net.
pub twins_low : (n : Net) (twins : List (Option ℕ)) → AreTwinsOf n twins → n.faces ≤ MOST_FACES
    → (e : ℕ) → IfSome (get_or twins e None) (λ g. g < MOST_SIDES)
twins_low n twins are few e =
    elim (option_cases (get_or twins e None)) [
      | inl none ↦ subst (λ (o : Option ℕ). IfSome o (λ g. g < MOST_SIDES)) (sym none) tt
      | inr (g, is) ↦
          let low : e < side_count n = grind (arith, common_steps, get_or_past, none-some) in
          let side = (twin-is n e g (sym (are.each e low) ∙ is)).stands.is_side in
          subst (λ (o : Option ℕ). IfSome o (λ k. k < MOST_SIDES)) (sym is)
          (omega (arith, side, few))
    ]

module _ (m : Mesh) (formed : IsWellFormed m) (manifold : IsOrientedManifold (net_of m.faces)) where
  net : Net
  net = net_of_surface (surface_of m)

  kept_there : (corners : Lists) → HoldCorners m corners
      → IsKept (record { surface = surface_of m; corners = corners.lists })
  kept_there corners held = record {
    short = omega (arith, length-map m.faces Some, formed.faces);
    room = omega (
      arith,
      length-map m.points Some,
      all_counted m.faces,
      formed.faces,
      formed.points,
    );
    surface = input-sound m formed;
    proper = input-proper m manifold;
    manifold = manifold-same (net_of m.faces) (net_of_surface (surface_of m)) (input-alike m)
        manifold;
    corners = λ v. record {
      each = λ e. (
        λ h. (let at = (held.each v e).0 h in ((side_there m formed e at.0).0, at.1)),
        λ (stands, at). (held.each v e).1
            (omega (arith, stands.is_side, length-map m.faces Some), at),
      );
      once = held.sound.once v;
    };
  }

  pub started : {twins : Table} {corners : Lists}
      → IsTableOf (net_of m.faces) (length m.points) twins → HoldCorners m corners
      → IsShrink (start_tables m corners twins.twins)
  started {twins} {corners} table held =
      let all : length (map Some m.faces) ≡ length m.faces = length-map m.faces Some in
      let room : length (roomy_places m) ≡ 2 * length m.points =
      grind (arith, common_steps, length-append, length-map, length-replicate, replicate) in
      let there : surface_in (start_tables m corners twins.twins) ≡ surface_of m =
      surface_there m corners twins.twins in
      record {
        kept = subst (λ (s : Surface). IsKept (record { surface = s; corners = corners.lists }))
            (sym there) (kept_there corners held);
        twins = subst (λ (s : Surface). IsAcross s twins.twins) (sym there)
            (let t = subst (λ (n : Net). AreTwins n twins.twins) (sym (net_there m))
            (twins_there (net_of m.faces) twins.twins table.twins) in
            record { sides = t.sides; each = t.each });
        roomy = record {
          count = sym (all_counted m.faces);
          made = ap (λ (s : Surface). length s.places) there ∙ length-map m.points Some;
          room = omega (arith, ap live_count_of there, first_live_count m);
          most = omega (arith, formed.points);
          fresh = fresh_places m;
        };
        items = omega (arith, held.items);
        heads = omega (arith, held.heads);
      }

  -- Of the faces as they are stored.
  module _ {faces : List (Option Corners)} (are : faces ≡ map Some m.faces) where
    pub corners_there : (e : ℕ) → e < 3 * length faces
        → is_some (get_or faces (face_of e) None) ≡ true
    corners_there =
        subst (λ (fs : List (Option Corners)). (e : ℕ) → e < 3 * length fs
        → is_some (get_or fs (face_of e) None) ≡ true) (sym are)
        (λ e l. ap is_some
        (get_or-map Some m.faces (face_of e) no_corners None
        (omega (arith, length-map m.faces Some))))

    pub corners_within : (e : ℕ) → e < 3 * length faces → side_from faces e < length m.points
    corners_within =
        subst (λ (fs : List (Option Corners)). (e : ℕ) → e < 3 * length fs
        → side_from fs e < length m.points) (sym are)
        (λ e l. (side_there m formed e (omega (arith, length-map m.faces Some))).1)
