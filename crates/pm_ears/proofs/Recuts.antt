-- All polygons cut anew, one after the other.
use Rattle.std.proofs.Common.{◌≡◌, ℕ, ◌+◌, ◌≤◌, true, false}
use Rattle.std.proofs.lemmas.Grind.{common_steps}
use Rattle.std.proofs.Common.{List, [], ◌∷◌, ◌++◌, length, take, drop, refl, sym, ap}
use Rattle.std.proofs.Common.{◌∙◌, subst, inl, inr, arith, length-append}
use Rattle.std.specs.List.{All}
use Rattle.std.proofs.lemmas.Bool.{cases_Bool, and_parts, cond-true, cond-false}
use Rattle.std.proofs.lemmas.List.Elements.{All-head, All-tail, All-append}
use Rattle.std.proofs.lemmas.List.Elements.{All-take, All-drop, filter-append}
use Rattle.pm_base.specs.declared.mesh.Corners.{Corners}
use Rattle.pm_base.specs.Place.{Place}
use Rattle.pm_ears.specs.declared.cut.CutKind.TheVariants as kinds
use Rattle.pm_ears.specs.declared.recut.Polygon.{Polygon}
use Rattle.pm_ears.specs.Laws.{RecutsAreAsMany, UprightFansStay}
use Rattle.pm_ears.specs.Recutting.{fan_at, pieces_over}
use Rattle.pm_ears.specs.Recutting.{names_three, gives_way, stays_overlapping}
use Rattle.pm_ears.specs.Recutting.{ears_over, put_at, with_recut, recut_after}
use Rattle.pm_ears.specs.Recutting.{overlapping_count, IsPolygonWithin}
use Rattle.pm_ears.proofs.Putting.{put_long}
use Rattle.pm_ears.proofs.RecutLaws.{ears_long, fan_fits}

-- One polygon more.
pub recut_next : (places : List Place) (faces cut : List Corners) (ps : List Polygon) (p : Polygon)
    → recut_after places faces cut (ps ++ p ∷ [])
    ≡ with_recut places faces (recut_after places faces cut ps) p
recut_next places faces cut [] p = refl
recut_next places faces cut (q ∷ ps) p =
    recut_next places faces (with_recut places faces cut q) ps p

-- What holds of each triangle, and of those that a fan gives way to where it holds of the fan,
-- holds of each after polygons are cut anew.
module _ (places : List Place) (faces : List Corners) (Q : Corners → Type 0)
    (each : All Q faces)
    (given : (fan : List Corners) → names_three fan ≡ true → All Q fan
    → All Q (ears_over places fan)) where
  one_holds : (cut : List Corners) (p : Polygon) → All Q cut → All Q (with_recut places faces cut p)
  unfolding with_recut gives_way
  one_holds cut p all =
      let fan = fan_at faces p in
      let ears = ears_over places fan in
      elim (cases_Bool (gives_way places fan)) [
        | inl e ↦
            let three = (and_parts _ _ e).1 in
            let new = given fan three
            (All-take Q p.triangles (drop p.first faces) (All-drop Q p.first faces each)) in
            let put : All Q (put_at p.first ears cut) =
            All-append Q (take p.first cut) (ears ++ drop (p.first + length ears) cut)
            (All-take Q p.first cut all)
            (All-append Q ears (drop (p.first + length ears) cut) new
            (All-drop Q (p.first + length ears) cut all)) in
            subst (All Q) (sym (cond-true _ _ _ e)) put
        | inr e ↦ subst (All Q) (sym (cond-false _ _ _ e)) all
      ]

  pub all_hold : (cut : List Corners) (ps : List Polygon) → All Q cut
      → All Q (recut_after places faces cut ps)
  all_hold cut [] all = all
  all_hold cut (p ∷ ps) all = all_hold (with_recut places faces cut p) ps (one_holds cut p all)

-- As many triangles stay.
one_long : (places : List Place) (faces cut : List Corners) (p : Polygon)
    → p.first + p.triangles ≤ length faces → length cut ≡ length faces
    → length (with_recut places faces cut p) ≡ length faces
unfolding with_recut
one_long places faces cut p within long =
    grind (arith, common_steps, cond-false, cond-true, ears_long, fan_fits, put_long)

after_long : (places : List Place) (faces cut : List Corners) (ps : List Polygon)
    → All (IsPolygonWithin (length faces)) ps → length cut ≡ length faces
    → length (recut_after places faces cut ps) ≡ length faces
after_long places faces cut [] within long = long
after_long places faces cut (p ∷ ps) within long =
    let first = All-head (IsPolygonWithin (length faces)) p ps within in
    after_long places faces (with_recut places faces cut p) ps
    (All-tail (IsPolygonWithin (length faces)) p ps within)
    (one_long places faces cut p first long)

pub recut_long : (places : List Place) (faces : List Corners) (ps : List Polygon)
    → All (IsPolygonWithin (length faces)) ps
    → length (recut_after places faces faces ps) ≡ length faces
recut_long places faces ps within = after_long places faces faces ps within refl

pub recuts_are_as_many : RecutsAreAsMany
recuts_are_as_many places polygons faces within = recut_long places faces polygons within

-- A fan of which no triangle is turned over stays, and isn't told.
fan_stays : (places : List Place) (fan : List Corners) → (pieces_over places fan).kind ≡ kinds.Fan
    → (gives_way places fan ≡ false) × (stays_overlapping places fan ≡ false)
unfolding gives_way stays_overlapping
fan_stays places fan e = grind (arith, common_steps)

IsUprightAt : List Place → List Corners → Polygon → Type 0
IsUprightAt places faces p = (pieces_over places (fan_at faces p)).kind ≡ kinds.Fan

after_stays : (places : List Place) (faces cut : List Corners) (ps : List Polygon)
    → All (IsUprightAt places faces) ps → recut_after places faces cut ps ≡ cut
unfolding with_recut IsUprightAt
after_stays places faces cut [] all = refl
after_stays places faces cut (p ∷ ps) all =
    let fan = fan_at faces p in
    let first = (fan_stays places fan (All-head (IsUprightAt places faces) p ps all)).0 in
    ap (λ c. recut_after places faces c ps)
    (cond-false _ (put_at p.first (ears_over places fan) cut) cut first)
    ∙ after_stays places faces cut ps (All-tail (IsUprightAt places faces) p ps all)

none_told : (places : List Place) (faces : List Corners) (ps : List Polygon)
    → All (IsUprightAt places faces) ps → overlapping_count places ps faces ≡ 0
unfolding IsUprightAt
none_told places faces [] all = refl
none_told places faces (p ∷ ps) all =
    let first =
    (fan_stays places (fan_at faces p) (All-head (IsUprightAt places faces) p ps all)).1 in
    rw first (none_told places faces ps (All-tail (IsUprightAt places faces) p ps all))

pub upright_fans_stay : UprightFansStay
unfolding IsUprightAt
upright_fans_stay places polygons faces all =
    (after_stays places faces faces polygons all, none_told places faces polygons all)

-- One polygon more is cut anew, or stays.
pub one_gives : (places : List Place) (faces cut ts new : List Corners) (ps : List Polygon)
    (p : Polygon) → cut ≡ recut_after places faces faces ps
    → gives_way places (fan_at faces p) ≡ true → ts ≡ ears_over places (fan_at faces p)
    → new ≡ put_at p.first ts cut → new ≡ recut_after places faces faces (ps ++ p ∷ [])
unfolding with_recut
one_gives places faces cut ts new ps p is gives ears put =
    grind (arith, common_steps, cond-true, recut_next)

pub one_stays : (places : List Place) (faces cut : List Corners) (ps : List Polygon) (p : Polygon)
    → cut ≡ recut_after places faces faces ps → gives_way places (fan_at faces p) ≡ false
    → cut ≡ recut_after places faces faces (ps ++ p ∷ [])
unfolding with_recut
one_stays places faces cut ps p is stays = grind (arith, common_steps, cond-false, recut_next)

pub ears_fit : (places : List Place) (faces cut ts : List Corners) (p : Polygon)
    → gives_way places (fan_at faces p) ≡ true → ts ≡ ears_over places (fan_at faces p)
    → p.first + p.triangles ≤ length faces → length cut ≡ length faces
    → p.first + length ts ≤ length cut
ears_fit places faces cut ts p gives are within long =
    grind (arith, common_steps, ears_long, fan_fits)

-- It is told, or not.
told_after : (places : List Place) (faces : List Corners) (ps : List Polygon) (p : Polygon)
    → overlapping_count places (ps ++ p ∷ []) faces
    ≡ overlapping_count places ps faces + overlapping_count places (p ∷ []) faces
told_after places faces ps p = grind (arith, common_steps, filter-append, length-append)

pub one_told : (places : List Place) (faces : List Corners) (n m : ℕ) (ps : List Polygon)
    (p : Polygon) → n ≡ overlapping_count places ps faces
    → stays_overlapping places (fan_at faces p) ≡ true → m ≡ n + 1
    → m ≡ overlapping_count places (ps ++ p ∷ []) faces
one_told places faces n m ps p is told more =
    let one : overlapping_count places (p ∷ []) faces ≡ 1 = rw told refl in
    omega (arith, is, more, one, told_after places faces ps p)

pub one_untold : (places : List Place) (faces : List Corners) (n : ℕ) (ps : List Polygon)
    (p : Polygon) → n ≡ overlapping_count places ps faces
    → stays_overlapping places (fan_at faces p) ≡ false
    → n ≡ overlapping_count places (ps ++ p ∷ []) faces
one_untold places faces n ps p is untold =
    let one : overlapping_count places (p ∷ []) faces ≡ 0 = rw untold refl in
    omega (arith, is, one, told_after places faces ps p)
