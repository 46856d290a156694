-- The planes of the input's vertices, corner by corner.
use Rattle.std.proofs.Common.{◌≡◌, ◌≢◌, ℕ, ◌+◌, ◌*◌, ◌<◌, ◌≤◌, Bool, true, false, eqb, ◌&&◌}
use Rattle.std.proofs.Common.{Option, Some, None, List, [], ◌∷◌, ◌++◌}
use Rattle.std.proofs.Common.{zero, suc, ◌-◌, length, length-append, append-nil, get_or, set}
use Rattle.std.proofs.Common.{get_or-set_same}
use Rattle.std.proofs.Common.{get_or-set_other, inl, inr, refl, sym, ap, ◌∙◌, subst, arith}
use Rattle.std.specs.Prelude.{is_none}
use Rattle.std.specs.Option.{option_map}
use Rattle.std.specs.List.{filter, flat_map, range_with_len}
use Rattle.std.proofs.lemmas.Bool.{cases_eq, eq-eqb, ne_eqb, and_from, and_right}
use Rattle.std.proofs.lemmas.Grind.{flat_map-append}
use Rattle.std.proofs.lemmas.List.{length-map}
use Rattle.std.proofs.lemmas.List.Elements.{filter-append}
use Rattle.std.proofs.lemmas.List.Sums.{length-filter, count_by-le-length}
use Rattle.std.proofs.lemmas.List.FromFn.{length-range_with_len}
use Rattle.pm_base.specs.declared.ids.Side.{Side}
use Rattle.pm_base.specs.Geometry.{Direction}
use Rattle.pm_base.specs.Meshes.{Mesh, IsWellFormed}
use Rattle.pm_base.specs.Sides.{Net, Stands, side_count, stands, net_of, twin_of}
use Rattle.pm_base.proofs.NetLaws.{mesh_side}
use Rattle.pm_base.proofs.Numbers.{numbers_next}
use Rattle.pm_base.proofs.SideNumbers.{none_numbered}
use Rattle.pm_base.proofs.TwinLaws.{stands_is_true}
use Rattle.pm_quadric.specs.Planes.{Plane}
use Rattle.pm_quadric.specs.Sums.{Sums, plus_sums, sums_of, StandsFor}
use Rattle.pm_quadric.proofs.QuadricLaws.{count_is, sums_joined}
use Rattle.pm_runs.specs.Surfaces.{Surface, surface_of, net_of_surface}
use Rattle.pm_fine.specs.declared.fine_quadric.TheConstants.{MOST_FINE_PLANES}
use Rattle.pm_fine.specs.Normals.{halved, doubled}
use Rattle.pm_shrink.proofs.AllFaces.{net_there}
use Rattle.pm_twins.specs.Table.{Table, IsTableOf}
use Rattle.pm_fine_costs.specs.declared.corner.Corner.{Corner}
use Rattle.pm_fine_costs.specs.declared.pair.BothQuadrics.{BothQuadrics}
use Rattle.pm_fine_costs.specs.FinePolicy.{corner_planes, planes_round}
use Rattle.pm_fine_costs.specs.CornerPlanes.{corner_of, normals_of, weighed, planes_with}
use Rattle.pm_fine_costs.specs.FineCosts.{no_quadrics}
use Rattle.pm_fine_costs.proofs.CornerLaws.{planes_weighed}
use Rattle.pm_fine_costs.proofs.TakenLaws.{corner_few, all_few}
use Rattle.pm_fine_costs.proofs.CornerCounts.{round_few}
use Rattle.pm_fine_costs.proofs.PlaneSums.{plus-paired}
use Rattle.pm_quadric.proofs.Expansion.{sums-append}

-- Whether a side of the mesh is open, by the table of twins.
pub open_is :
    (mesh : Mesh) (t : Table) (e g : ℕ) (r : Option Side) (b : Bool) →
    IsTableOf (net_of mesh.faces) (length mesh.points) t → g < 3 * length mesh.faces →
    b ≡ is_none r → option_map (λ s. s.0) r ≡ get_or t.twins g None →
    b ≡ is_none (twin_of (net_of_surface (surface_of mesh)) g)
open_is mesh t e g r b table low none is =
    none ∙ none_numbered r
    ∙ ap is_none (is ∙ table.twins.each g low
    ∙ ap (λ (n : Net). twin_of n g) (sym (net_there mesh)))

module _ (mesh : Mesh) where
  abbrev s : Surface
  s = surface_of mesh

  abbrev m : Net
  m = net_of_surface s

  abbrev is_round : ℕ → ℕ → Bool
  is_round v e = stands m e && eqb (m.from e) v

  -- The planes at a vertex of the first n corners.
  abbrev pub planes_below : (Direction → Direction) → ℕ → ℕ → List Plane
  planes_below w v n = flat_map (corner_planes w s v) (filter (is_round v) (range_with_len 0 n))

  below_more : (w : Direction → Direction) (v n : ℕ) →
      planes_below w v (n + 1) ≡
      planes_below w v n ++ flat_map (corner_planes w s v) (filter (is_round v) (n ∷ []))
  below_more w v n =
      let f : ℕ → List Plane = corner_planes w s v in
      ap (λ (l : List ℕ). flat_map f (filter (is_round v) l)) (numbers_next n)
      ∙ ap (flat_map f) (filter-append (is_round v) (range_with_len 0 n) (n ∷ []))
      ∙ flat_map-append f (filter (is_round v) (range_with_len 0 n)) (filter (is_round v) (n ∷ []))

  below_here : (w : Direction → Direction) (v n : ℕ) → is_round v n ≡ true →
      planes_below w v (n + 1) ≡ planes_below w v n ++ corner_planes w s v n
  below_here w v n t =
      let one : filter (is_round v) (n ∷ []) ≡ n ∷ [] = rw t refl in
      below_more w v n
      ∙ ap (λ (l : List ℕ). planes_below w v n ++ flat_map (corner_planes w s v) l) one
      ∙ ap (λ (l : List Plane). planes_below w v n ++ l) (append-nil (corner_planes w s v n))

  below_other : (w : Direction → Direction) (v n : ℕ) → is_round v n ≡ false →
      planes_below w v (n + 1) ≡ planes_below w v n
  below_other w v n t =
      let none : filter (is_round v) (n ∷ []) ≡ [] = rw t refl in
      below_more w v n
      ∙ ap (λ (l : List ℕ). planes_below w v n ++ flat_map (corner_planes w s v) l) none
      ∙ append-nil (planes_below w v n)

  pub below_few : (w : Direction → Direction) (v n : ℕ) → length (planes_below w v n) ≤ 3 * n
  below_few w v n =
      let all = all_few (corner_planes w s v) (corner_few w s v)
      (filter (is_round v) (range_with_len 0 n)) in
      let some = length-filter (is_round v) (range_with_len 0 n) in
      let most = count_by-le-length (is_round v) (range_with_len 0 n) in
      let len = length-range_with_len 0 n in
      omega (arith, all, some, most, len)

  pub below_all : (w : Direction → Direction) (v n : ℕ) → n ≡ 3 * length mesh.faces →
      planes_below w v n ≡ planes_round w s v
  unfolding planes_round
  below_all w v n is =
      let sides : 3 * length mesh.faces ≡ side_count m =
      (let len = length-map mesh.faces Some in omega arith) in
      ap (planes_below w v) (is ∙ sides)

  below_grows : (w : Direction → Direction) (v n : ℕ) →
      length (planes_below w v n) ≤ length (planes_below w v (n + 1))
  below_grows w v n =
      let more = flat_map (corner_planes w s v) (filter (is_round v) (n ∷ [])) in
      omega (arith, ap length (below_more w v n), length-append (planes_below w v n) more)

  below_later : (w : Direction → Direction) (v n k : ℕ) →
      length (planes_below w v n) ≤ length (planes_below w v (n + k))
  below_later w v n zero =
      let same : n + 0 ≡ n = omega arith in
      omega (arith, ap (λ (j : ℕ). length (planes_below w v j)) same)
  below_later w v n (suc k) =
      let one : n + k + 1 ≡ n + suc k = omega arith in
      omega (
        arith,
        below_later w v n k,
        below_grows w v (n + k),
        ap (λ (j : ℕ). length (planes_below w v j)) one,
      )

  -- Three for each face of the mesh at most.
  pub below_most : (w : Direction → Direction) (v n : ℕ) → n < 3 * length mesh.faces →
      length (planes_below w v n) ≤ 3 * length mesh.faces
  below_most w v n low =
      let end : n + (3 * length mesh.faces - n) ≡ 3 * length mesh.faces = omega arith in
      omega (
        arith,
        below_later w v n (3 * length mesh.faces - n),
        ap length (below_all w v (n + (3 * length mesh.faces - n)) end),
        round_few s v w,
        length-map mesh.faces Some,
      )

  module _ (formed : IsWellFormed mesh) (n : ℕ) (low : n < 3 * length mesh.faces) where
    side_stands : Stands m n
    side_stands = subst (λ (k : Net). Stands k n) (sym (net_there mesh))
        (mesh_side mesh formed n low).0

    -- One corner more.
    pub corner_more :
        (w : Direction → Direction) (v u : ℕ) (old new sum : Sums) →
        u ≡ (net_of mesh.faces).from n → StandsFor old (planes_below w v n) →
        (v ≡ u → new ≡ plus_sums old sum) → (v ≢ u → new ≡ old) →
        StandsFor sum (corner_planes w s (m.from n) n) → StandsFor new (planes_below w v (n + 1))
    corner_more w v u old new sum at before here other planes =
        let from : m.from n ≡ u = ap (λ (k : Net). k.from n) (net_there mesh) ∙ sym at in
        elim (cases_eq v u) [
          | inl is ↦
              let same : m.from n ≡ v = from ∙ sym is in
              let t = and_from (stands m n) (eqb (m.from n) v) (stands_is_true m n side_stands)
              (eq-eqb (m.from n) v same) in
              here is
              ∙ sums_joined old sum (planes_below w v n) (corner_planes w s v n) before
              (planes ∙ ap (λ (k : ℕ). sums_of (corner_planes w s k n)) same)
              ∙ ap sums_of (sym (below_here w v n t))
          | inr ne ↦
              let t = and_right (stands m n) (eqb (m.from n) v)
              (ne_eqb (m.from n) v (λ k. ne (sym k ∙ from))) in
              other ne ∙ before ∙ ap sums_of (sym (below_other w v n t))
        ]

    pub below_fits :
        (w : Direction → Direction) (v : ℕ) (old : Sums) → StandsFor old (planes_below w v n) →
        old.count + 3 ≤ MOST_FINE_PLANES
    below_fits w v old before =
        let count = count_is old (planes_below w v n) before in
        let few = below_few w v n in
        let faces = formed.faces in
        omega arith

    pub both_fit :
        (v : ℕ) (old : Sums) →
        StandsFor old (planes_below doubled v n ++ planes_below halved v n) →
        old.count + 6 ≤ MOST_FINE_PLANES
    both_fit v old before =
        omega (
          arith,
          count_is old (planes_below doubled v n ++ planes_below halved v n) before,
          length-append (planes_below doubled v n) (planes_below halved v n),
          below_most doubled v n low,
          below_most halved v n low,
          formed.faces,
        )

    -- The sums of the planes below, with those of one corner more.
    module _ (w : Direction → Direction) (v u : ℕ) (sum : Sums)
        (at : u ≡ (net_of mesh.faces).from n)
        (planes : StandsFor sum (corner_planes w s (m.from n) n)) where
      abbrev old : Sums
      old = sums_of (planes_below w v n)

      sums_here : v ≡ u → plus_sums old sum ≡ sums_of (planes_below w v (n + 1))
      sums_here is =
          corner_more w v u old (plus_sums old sum) sum at refl (λ same. refl)
          (λ ne. absurd (ne is)) planes

      sums_other : v ≢ u → old ≡ sums_of (planes_below w v (n + 1))
      sums_other ne =
          corner_more w v u old old sum at refl (λ is. absurd (ne is)) (λ off. refl) planes

    -- Both quadrics of a vertex.
    abbrev plain : Corner → Sums
    plain k = sums_of (planes_with (weighed halved (normals_of k)) k.at)

    abbrev weighty : Corner → Sums
    weighty k = sums_of (planes_with (weighed doubled (normals_of k)) k.at)

    abbrev with_corner : BothQuadrics → Corner → BothQuadrics
    with_corner q k = record {
      brought = plus_sums q.brought (plain k);
      all = plus_sums q.all (plus_sums (weighty k) (plain k));
    }

    module _
        (items more : List BothQuadrics) (u v : ℕ) (k : Corner) (within : u < length items)
        (at : u ≡ (net_of mesh.faces).from n) (corner : k ≡ corner_of s n)
        (set_is : more ≡ set items u (with_corner (get_or items u no_quadrics) k)) where
      abbrev added : BothQuadrics
      added = with_corner (get_or items u no_quadrics) k

      item_here : v ≡ u → get_or more v no_quadrics ≡ added
      item_here is =
          ap (λ (l : List BothQuadrics). get_or l v no_quadrics) set_is
          ∙ ap (λ (j : ℕ). get_or (set items u added) j no_quadrics) is
          ∙ get_or-set_same items u added no_quadrics within

      item_other : v ≢ u → get_or more v no_quadrics ≡ get_or items v no_quadrics
      item_other ne =
          ap (λ (l : List BothQuadrics). get_or l v no_quadrics) set_is
          ∙ get_or-set_other items u v added no_quadrics ne

      plain_is : StandsFor (plain k) (corner_planes halved s (m.from n) n)
      plain_is = ap plain corner ∙ ap sums_of (sym (planes_weighed s n halved))

      weighty_is : StandsFor (weighty k) (corner_planes doubled s (m.from n) n)
      weighty_is = ap weighty corner ∙ ap sums_of (sym (planes_weighed s n doubled))

      pub brought_more :
          StandsFor (get_or items v no_quadrics).brought (planes_below halved v n) →
          StandsFor (get_or more v no_quadrics).brought (planes_below halved v (n + 1))
      brought_more before =
          corner_more halved v u (get_or items v no_quadrics).brought
          (get_or more v no_quadrics).brought (plain k) at before
          (λ is. ap (λ (q : BothQuadrics). q.brought) (item_here is)
          ∙ ap (λ (j : ℕ). plus_sums (get_or items j no_quadrics).brought (plain k)) (sym is))
          (λ ne. ap (λ (q : BothQuadrics). q.brought) (item_other ne)) plain_is

      abbrev first : List Plane
      first = planes_below doubled v n

      abbrev second : List Plane
      second = planes_below halved v n

      abbrev first_more : List Plane
      first_more = planes_below doubled v (n + 1)

      abbrev second_more : List Plane
      second_more = planes_below halved v (n + 1)

      pub all_more :
          StandsFor (get_or items v no_quadrics).all
          (planes_below doubled v n ++ planes_below halved v n) →
          StandsFor (get_or more v no_quadrics).all
          (planes_below doubled v (n + 1) ++ planes_below halved v (n + 1))
      all_more before =
          elim (cases_eq v u) [
            | inl is ↦
                ap (λ (q : BothQuadrics). q.all) (item_here is)
                ∙ ap (λ (j : ℕ). plus_sums (get_or items j no_quadrics).all
                (plus_sums (weighty k) (plain k))) (sym is)
                ∙ ap (λ (x : Sums). plus_sums x (plus_sums (weighty k) (plain k)))
                (before ∙ sums-append first second)
                ∙ plus-paired (sums_of first) (sums_of second) (weighty k) (plain k)
                ∙ ap (λ (x : Sums). plus_sums x (plus_sums (sums_of second) (plain k)))
                (sums_here doubled v u (weighty k) at weighty_is is)
                ∙ ap (plus_sums (sums_of first_more))
                (sums_here halved v u (plain k) at plain_is is)
                ∙ sym (sums-append first_more second_more)
            | inr ne ↦
                ap (λ (q : BothQuadrics). q.all) (item_other ne) ∙ before
                ∙ sums-append first second
                ∙ ap (λ (x : Sums). plus_sums x (sums_of second))
                (sums_other doubled v u (weighty k) at weighty_is ne)
                ∙ ap (plus_sums (sums_of first_more))
                (sums_other halved v u (plain k) at plain_is ne)
                ∙ sym (sums-append first_more second_more)
          ]
