-- Laws of facets, one after the other.
use Rattle.std.proofs.Common.{◌≡◌, ℕ, suc, ◌+◌, ◌-◌, ◌*◌, ◌<◌, ◌≤◌, sym, List, []}
use Rattle.std.proofs.Common.{◌∷◌, ◌++◌, Bool, refl, Result, Ok, Err, arith}
use Rattle.pm_base.specs.declared.mesh.Corners.{Corners}
use Rattle.pm_base.specs.Place.{Place}
use Rattle.stl_read.specs.declared.fault.Refused.{Refused}
use Rattle.stl_read.specs.declared.fault.StlFail.{StlFail}
use Rattle.stl_read.specs.declared.fault.StlFail.TheVariants as fails
use Rattle.stl_read.specs.Meaning.{Explains}
use Rattle.stl_read.specs.Refusals.{◌>>=◌}
use Rattle.stl_read.specs.Vertices.{Triangles, Facet, marked_after, with_facet}
use Rattle.stl_read.specs.Binary.{facet_at, has_attributes, with_facets}

module _ (bytes : List ℕ) (points : List Place) (faces : List Corners) (attributes i count : ℕ)
    (whole : Result Triangles Refused)
    (so : with_facets bytes
    (record { points = points; faces = faces; attributes = attributes }) (84 + 50 * i) (count - i)
    ≡ whole) where
  -- What the facets so far give.
  abbrev given : Triangles
  given = record { points = points; faces = faces; attributes = attributes }

  -- One facet more, of those that are left.
  one_more : (r : Result Facet Refused) (marked : Bool) → i < count
      → facet_at bytes (84 + 50 * i) points ≡ r → has_attributes bytes (84 + 50 * i) ≡ marked
      → (r >>= λ f. with_facets bytes (with_facet given f marked) (84 + 50 * i + 50)
      (count - (i + 1))) ≡ whole
  one_more r marked below is has =
      let left : count - i ≡ suc (count - (i + 1)) = omega arith in
      rw (left, is, has) at so

  pub facets_next : (more : List Place) (f : Corners) (n : ℕ) → i < count
      → facet_at bytes (84 + 50 * i) points ≡ Ok (record { corners = f; points = more })
      → n ≡ marked_after attributes (has_attributes bytes (84 + 50 * i))
      → with_facets bytes (record { points = more; faces = faces ++ f ∷ []; attributes = n })
      (84 + 50 * (i + 1)) (count - (i + 1)) ≡ whole
  facets_next more f n below is has =
      let at : 84 + 50 * (i + 1) ≡ 84 + 50 * i + 50 = omega arith in
      rw (at, has) (one_more (Ok (record { corners = f; points = more })) _ below is refl)

  facets_stop : (e : Refused) → i < count → facet_at bytes (84 + 50 * i) points ≡ Err e
      → whole ≡ Err e
  facets_stop e below is = sym (one_more (Err e) _ below is refl)

  pub facets_fail : (e : StlFail) → i < count
      → Explains (facet_at bytes (84 + 50 * i) points) e → Explains whole e
  facets_fail (fails.Fault why) below is = facets_stop why below is
  facets_fail fails.OutOfMemory below is = tt

  pub facets_end : count ≤ i
      → whole ≡ Ok (record { points = points; faces = faces; attributes = attributes })
  facets_end all =
      let left : count - i ≡ 0 = omega arith in
      sym (rw left at so)
