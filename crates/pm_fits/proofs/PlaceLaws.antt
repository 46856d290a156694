-- The places of nodes are in range, which the rules of shape look at.
use Rattle.std.proofs.Common.{◌≡◌, ℕ, ◌-◌, ◌/◌, ◌%◌, ◌<◌, ◌≤◌, Bool, true, false, not}
use Rattle.std.proofs.Common.{◌&&◌, ◌||◌, List, length, get_or, take, [], None, inl, inr, refl}
use Rattle.std.proofs.Common.{subst, arith}
use Rattle.std.proofs.lemmas.Grind.{common_steps}
use Rattle.std.proofs.lemmas.Bool.{and_parts, or_parts, cases_lt, cases_eq, leb-true}
use Rattle.std.proofs.lemmas.List.{get_or_default}
use Rattle.std.specs.Prelude.{ℤ, unsigned_abs}
use borrow.Author.Differences.{ints}
use Rattle.pm_base.specs.Place.{Place, IsPlace, is_place, place_of}
use Rattle.pm_forest.specs.declared.parts.Root.{Root}
use Rattle.pm_forest.specs.declared.parts.Head.{Head}
use Rattle.pm_forest.specs.declared.parts.Counts.{Counts}
use Rattle.pm_forest.specs.Forest.{Hierarchy, record_at, record_count, node_count}
use Rattle.pm_forest.specs.Places.{no_root, place_of_node}
use Rattle.pm_forest.specs.Rules.{HasShape, root_fault, head_fault, head_is_bad, head_of, counts_of}
use Rattle.pm_forest.specs.Rules.{split_is_bad, presence_is_bad}
use Rattle.pm_forest.proofs.HierarchyLaws.{place-root, place-t, place-u}
use Rattle.pm_forest.proofs.Prefix.{cut}
use Rattle.pm_forest.proofs.ShapeLaws.{record_fits}
use Rattle.pm_forest.proofs.UnitLaws.{AllFit-at, passed}
use Rattle.pm_fit.specs.Fit.{IsSpot}
use Rattle.pm_fits.specs.Fits.{raised, spot_of}

not_false : (b : Bool) → not b ≡ false → b ≡ true
not_false true e = refl
not_false false e = absurd cc

root_judged : (c : Counts) (before : List Root) (r : Root) → root_fault c before r ≡ None
    → is_place r.place ≡ true
unfolding root_fault
root_judged c before r fits = not_false _ (passed (not (is_place r.place)) _ _ fits).0

head_judged : (h : Hierarchy) (d : Head) → head_is_bad h d ≡ false
    → (is_place (place_of d.t) ≡ true) × (is_place (place_of d.u) ≡ true)
unfolding head_is_bad
head_judged h d fits =
    let places = (or_parts (split_is_bad h d.s d.width || presence_is_bad d.presence)
    (not (is_place (place_of d.t) && is_place (place_of d.u))) fits).1 in
    and_parts _ _ (not_false _ places)

module _ (h : Hierarchy) (shape : HasShape h) where
  root_in_range : (v : ℕ) → v < length h.roots → is_place (get_or h.roots v no_root).place ≡ true
  root_in_range v l =
      let r = get_or h.roots v no_root in
      let c = counts_of h in
      root_judged c (take v h.roots) r
      (AllFit-at (root_fault c) [] h.roots v r shape.roots l (get_or_default h.roots v no_root r l))

  children_in_range : (k : ℕ) → k < record_count h
      → (is_place (record_at h k).t.place ≡ true) × (is_place (record_at h k).u.place ≡ true)
  unfolding head_fault
  children_in_range k l =
      let d = head_of (record_at h k) in
      head_judged (cut h k) d
      (passed (head_is_bad (cut h k) d) _ _ (record_fits h shape k l).head).0

  place_in_range : (v : ℕ) → v < node_count h → is_place (place_of_node h v) ≡ true
  place_in_range v l =
      elim (cases_lt v (length h.roots)) [
        | inl root ↦
            let r = get_or h.roots v no_root in
            subst (λ (p : Place). is_place p ≡ true)
            (place-root h v r root (get_or_default h.roots v no_root r root)) (root_in_range v root)
        | inr after ↦
            let k = (v - length h.roots) / 2 in
            let both = children_in_range k (omega arith) in
            elim (cases_eq ((v - length h.roots) % 2) 0) [
              | inl even ↦ subst (λ (p : Place). is_place p ≡ true) (place-t h v after even) both.0
              | inr odd ↦ subst (λ (p : Place). is_place p ≡ true) (place-u h v after odd) both.1
            ]
      ]

is_place-true : (p : Place) → is_place p ≡ true → IsPlace p
is_place-true p e = grind (arith, common_steps, and_parts, leb-true)

raised-le : (c : ℤ) → unsigned_abs c ≤ 32767 → raised c ≤ 65534
raised-le c l = omega (arith, ints)

pub spot_small : (h : Hierarchy) → HasShape h → (v : ℕ) → v < node_count h → IsSpot (spot_of h v)
unfolding spot_of
spot_small h shape v l =
    let p : Place = place_of_node h v in
    let places = is_place-true p (place_in_range h shape v l) in
    record {
      x = raised-le p.x places.0;
      y = raised-le p.y places.1;
      z = raised-le p.z places.2;
    }
