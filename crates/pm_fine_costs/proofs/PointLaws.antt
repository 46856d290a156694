-- The planes of points, beside those round a vertex.
use Rattle.std.proofs.Common.{◌≡◌, ◌≢◌, ℕ, ◌+◌, ◌<◌, ◌≤◌, Some, List, [], ◌++◌, length}
use Rattle.std.proofs.Common.{length-append, get_or, set, get_or-set_same, get_or-set_other}
use Rattle.std.proofs.Common.{inl, inr, refl, sym, ap, ◌∙◌, arith}
use Rattle.std.proofs.lemmas.Bool.{cases_eq}
use Rattle.std.proofs.lemmas.List.{append_assoc, length-map}
use Rattle.pm_base.specs.Geometry.{Direction}
use Rattle.pm_base.specs.Place.{Place, place_of}
use Rattle.pm_base.specs.Meshes.{Mesh, IsWellFormed}
use Rattle.pm_quadric.specs.Planes.{Plane}
use Rattle.pm_quadric.specs.Sums.{Sums, plus_sums, sums_of, StandsFor}
use Rattle.pm_quadric.proofs.QuadricLaws.{count_is, sums_joined}
use Rattle.pm_runs.specs.Surfaces.{surface_of}
use Rattle.pm_runs.specs.Planes.{point_at}
use Rattle.pm_fine.specs.declared.fine_quadric.TheConstants.{MOST_FINE_PLANES}
use Rattle.pm_fine.specs.Normals.{halved, doubled}
use Rattle.pm_fine.specs.FinePlanes.{point_planes}
use Rattle.pm_fine_costs.specs.declared.pair.BothQuadrics.{BothQuadrics}
use Rattle.pm_fine_costs.specs.FinePolicy.{planes_round, brought_at}
use Rattle.pm_fine_costs.specs.FineCosts.{no_quadrics, with_point}
use Rattle.pm_fine_costs.proofs.CornerCounts.{round_few}

module _ (m : Mesh) (v : ℕ) where
  abbrev round : (Direction → Direction) → List Plane
  round w = planes_round w (surface_of m) v

  -- There is room for three more.
  pub point_fits :
      IsWellFormed m → (w : Direction → Direction) (q : Sums) → StandsFor q (round w) →
      q.count + 3 ≤ MOST_FINE_PLANES
  point_fits formed w q is =
      omega (
        arith,
        count_is q (round w) is,
        round_few (surface_of m) v w,
        length-map m.faces Some,
        formed.faces,
      )

  pub both_fit :
      IsWellFormed m → (q : Sums) → StandsFor q (round doubled ++ round halved) →
      q.count + 3 ≤ MOST_FINE_PLANES
  both_fit formed q is =
      omega (
        arith,
        count_is q (round doubled ++ round halved) is,
        length-append (round doubled) (round halved),
        round_few (surface_of m) v doubled,
        round_few (surface_of m) v halved,
        length-map m.faces Some,
        formed.faces,
      )

  module _
      (q r : BothQuadrics) (ps : List Place) (same : ps ≡ m.points)
      (is : r ≡ with_point q (get_or ps v (place_of []))) where
    abbrev here : List Plane
    here = point_planes (point_at m v)

    abbrev there : List Place → Sums
    there l = sums_of (point_planes (get_or l v (place_of [])))

    pub point_brought :
        StandsFor q.brought (round halved) → StandsFor r.brought (brought_at m v)
    point_brought before =
        ap (λ (x : BothQuadrics). x.brought) is
        ∙ ap (λ (l : List Place). plus_sums q.brought (there l)) same
        ∙ sums_joined q.brought (sums_of here) (round halved) here before refl

    pub point_all :
        StandsFor q.all (round doubled ++ round halved) →
        StandsFor r.all (round doubled ++ brought_at m v)
    point_all before =
        ap (λ (x : BothQuadrics). x.all) is
        ∙ ap (λ (l : List Place). plus_sums q.all (there l)) same
        ∙ sums_joined q.all (sums_of here) (round doubled ++ round halved) here before refl
        ∙ ap sums_of (append_assoc (round doubled) (round halved) here)

-- The vertices below i have their points.
abbrev pub HavePoints : List BothQuadrics → List BothQuadrics → List Place → ℕ → Type 0
HavePoints old new points i =
    (v : ℕ) → v < i →
    get_or new v no_quadrics ≡ with_point (get_or old v no_quadrics) (get_or points v (place_of []))

-- The others have what they had.
abbrev pub HaveNone : List BothQuadrics → List BothQuadrics → ℕ → Type 0
HaveNone old new i = (v : ℕ) → i ≤ v → get_or new v no_quadrics ≡ get_or old v no_quadrics

module _
    (old now more : List BothQuadrics) (points : List Place) (i : ℕ) (p : Place)
    (within : i < length now) (at : p ≡ get_or points i (place_of []))
    (is : more ≡ set now i (with_point (get_or now i no_quadrics) p)) where
  abbrev added : BothQuadrics
  added = with_point (get_or now i no_quadrics) p

  other : (v : ℕ) → v ≢ i → get_or more v no_quadrics ≡ get_or now v no_quadrics
  other v ne =
      ap (λ (l : List BothQuadrics). get_or l v no_quadrics) is
      ∙ get_or-set_other now i v added no_quadrics ne

  pub one_more :
      HavePoints old now points i → HaveNone old now i → HavePoints old more points (i + 1)
  one_more have none v l =
      elim (cases_eq v i) [
        | inl same ↦
            ap (λ (l : List BothQuadrics). get_or l v no_quadrics) is
            ∙ ap (λ (k : ℕ). get_or (set now i added) k no_quadrics) same
            ∙ get_or-set_same now i added no_quadrics within
            ∙ ap (λ (q : BothQuadrics). with_point q p) (none i (omega arith))
            ∙ ap (with_point (get_or old i no_quadrics)) at
            ∙ ap (λ (k : ℕ). with_point (get_or old k no_quadrics)
            (get_or points k (place_of []))) (sym same)
        | inr ne ↦ other v ne ∙ have v (omega arith)
      ]

  pub others_none : HaveNone old now i → HaveNone old more (i + 1)
  others_none none v l =
      other v (λ same. absurd (omega arith)) ∙ none v (omega arith)
