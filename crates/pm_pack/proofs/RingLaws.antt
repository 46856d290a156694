-- The ring of sides round a node.
use Rattle.std.proofs.Common.{◌≡◌, ◌≢◌, ◌⊎◌, ℕ, zero, suc, ◌+◌, ◌-◌, ◌<◌, ◌≤◌, List, [], ◌∷◌, ◌++◌}
use Rattle.std.proofs.Common.{length}
use Rattle.std.proofs.Common.{inl, inr, drop, get_or, refl, sym, ◌∙◌, ap, arith, append_assoc}
use Rattle.std.proofs.Common.{true, false, if◌then◌else◌, ◌==◌}
use Rattle.std.proofs.lemmas.Bool.Decides.{eqb_tells}
use Rattle.std.proofs.lemmas.List.{append-nil}
use Rattle.std.proofs.Math.ListN.{drop_of_length-le}
use Rattle.pm_pack.specs.declared.ring.Spoke.{Spoke}
use Rattle.pm_pack.specs.declared.past.Node.{Node}
use Rattle.pm_pack.specs.declared.plane.Way.{Way}
use Rattle.pm_pack.specs.Pasts.{is_parting, edge_in}
use Rattle.pm_pack.specs.Planes.{both, cross, way_along, normal_from, node_at}
use Rattle.pm_pack.specs.Hints.{input_beside}
use Rattle.pm_pack.specs.Rings.{Faces, spoke_at, turned, ring_from, owned, owner, shared}
use Rattle.pm_pack.specs.Rings.{side_before, back_from}

-- The rest of a ring.
more-left : (most start side : ℕ) (f : Faces) → 0 < side
    → ring_from (suc most) f start side
    ≡ spoke_at f side ∷ ring_from most f start (turned f start side)
unfolding ring_from
more-left most start side f some =
    elim (eqb_tells side 0) [
      | inl none ↦ absurd (omega (arith, some, none.1))
      | inr other ↦ rw (other.0) refl
    ]

none-left : (most start : ℕ) (f : Faces) → ring_from most f start 0 ≡ []
unfolding ring_from
none-left zero start f = refl
none-left (suc most) start f = refl

-- What is left of a ring of which so many sides are there.
pub ring-more : (done : List Spoke) (all : List Spoke) (n most start side : ℕ) (f : Faces)
    → n < most → 0 < side → done ++ ring_from (most - n) f start side ≡ all
    → (done ++ spoke_at f side ∷ []) ++ ring_from (most - (n + 1)) f start (turned f start side)
    ≡ all
ring-more done all n most start side f few some e =
    let left : most - n ≡ suc (most - (n + 1)) = omega arith in
    append_assoc done (spoke_at f side ∷ []) _
    ∙ (ap (λ (l : List Spoke). done ++ l) (sym (more-left (most - (n + 1)) start side f some))
    ∙ rw left at e)

pub ring-ends : (done all : List Spoke) (most start side : ℕ) (f : Faces) → side ≡ 0
    → done ++ ring_from most f start side ≡ all → done ≡ all
ring-ends done all most start side f none e =
    sym (append-nil done)
    ∙ (ap (λ (l : List Spoke). done ++ l) (sym (none-left most start f)) ∙ rw none at e)

pub ring-full : (done all : List Spoke) (most start side : ℕ) (f : Faces) → most ≡ 0
    → done ++ ring_from most f start side ≡ all → done ≡ all
unfolding ring_from
ring-full done all most start side f none e =
    sym (append-nil done) ∙ rw none at e

-- Back round a node.
back-left : (most start side : ℕ) (f : Faces) → side_before f side ≢ 0
    → side_before f side ≢ start
    → back_from (suc most) f start side ≡ back_from most f start (side_before f side)
unfolding back_from
back-left most start side f some other =
    elim (eqb_tells (side_before f side) 0) [
      | inl none ↦ absurd (some (none.1))
      | inr more ↦
          elim (eqb_tells (side_before f side) start) [
            | inl same ↦ absurd (other (same.1))
            | inr on ↦ rw (more.0, on.0) refl
          ]
    ]

back-border : (most start side : ℕ) (f : Faces) → side_before f side ≡ 0
    → back_from most f start side ≡ side
unfolding back_from
back-border zero start side f none = refl
back-border (suc most) start side f none =
    elim (eqb_tells (side_before f side) 0) [
      | inl here' ↦ rw (here'.0) refl
      | inr more ↦ absurd (more.1 none)
    ]

back-round : (most start side : ℕ) (f : Faces) → side_before f side ≡ start
    → back_from most f start side ≡ side
unfolding back_from
back-round zero start side f same = refl
back-round (suc most) start side f same =
    elim (eqb_tells (side_before f side) 0) [
      | inl here' ↦ rw (here'.0) refl
      | inr more ↦
          elim (eqb_tells (side_before f side) start) [
            | inl here' ↦ rw (more.0, here'.0) refl
            | inr on ↦ absurd (on.1 same)
          ]
    ]

pub back-more : (all n most start side before : ℕ) (f : Faces) → n < most
    → before ≡ side_before f side → before ≢ 0 → before ≢ start
    → back_from (most - n) f start side ≡ all
    → back_from (most - (n + 1)) f start before ≡ all
back-more all n most start side before f few is some other e =
    let left : most - n ≡ suc (most - (n + 1)) = omega arith in
    rw is
    (sym (back-left (most - (n + 1)) start side f (rw is at some) (rw is at other))
    ∙ rw left at e)

pub back-ends : (all most start side before : ℕ) (f : Faces) → before ≡ side_before f side
    → (before ≡ 0) ⊎ ((before ≢ 0) × (before ≡ start)) → back_from most f start side ≡ all
    → side ≡ all
back-ends all most start side before f is (inl none) e =
    sym (back-border most start side f (sym is ∙ none)) ∙ e
back-ends all most start side before f is (inr same) e =
    sym (back-round most start side f (sym is ∙ same.1)) ∙ e

pub back-full : (all most start side : ℕ) (f : Faces) → most ≡ 0
    → back_from most f start side ≡ all → side ≡ all
unfolding back_from
back-full all most start side f none e = rw none at e

-- One more side of a ring that is shared.
pub shared-one : (f : Faces) (end t u : ℕ) (ring : List Spoke) (i : ℕ) (d : Spoke)
    → i < length ring
    → shared f end t u (drop i ring)
    ≡ shared (owned f (get_or ring i d).side (owner (get_or ring i d).leaf end t u)) end t u
    (drop (suc i) ring)
unfolding shared
shared-one f end t u [] i d l = absurd (omega (arith, l))
shared-one f end t u (s ∷ ring) zero d l = refl
shared-one f end t u (s ∷ ring) (suc i) d l =
    let less : i < length ring = omega (arith, l) in shared-one f end t u ring i d less

pub shared-more : (f new all : Faces) (end t u node : ℕ) (ring : List Spoke) (i : ℕ)
    (d : Spoke) → i < length ring → node ≡ owner (get_or ring i d).leaf end t u
    → new ≡ owned f (get_or ring i d).side node
    → shared f end t u (drop i ring) ≡ all → shared new end t u (drop (i + 1) ring) ≡ all
shared-more f new all end t u node ring i d l under is e =
    let n : i + 1 ≡ suc i = omega arith in
    rw (n, is, under) (sym (shared-one f end t u ring i d l) ∙ e)

pub shared-all : (f all : Faces) (end t u : ℕ) (ring : List Spoke) (i : ℕ) → length ring ≤ i
    → shared f end t u (drop i ring) ≡ all → f ≡ all
unfolding shared
shared-all f all end t u ring i done e = rw (drop_of_length-le ring done) at e

-- One more side of a ring on which no new face stands.
pub edge-one : (f : Faces) (own other : Node) (ring : List Spoke) (i : ℕ) (d : Spoke)
    → i < length ring
    → edge_in f own other (drop i ring)
    ≡ (if is_parting f own other (get_or ring i d) then (get_or ring i d).side
    else edge_in f own other (drop (suc i) ring))
unfolding edge_in
edge-one f own other [] i d l = absurd (omega (arith, l))
edge-one f own other (s ∷ ring) zero d l = refl
edge-one f own other (s ∷ ring) (suc i) d l =
    let less : i < length ring = omega (arith, l) in edge-one f own other ring i d less

pub edge-here : (f : Faces) (own other : Node) (all : ℕ) (ring : List Spoke) (i : ℕ) (d : Spoke)
    → i < length ring
    → is_parting f own other (get_or ring i d) ≡ true → edge_in f own other (drop i ring) ≡ all
    → (get_or ring i d).side ≡ all
edge-here f own other all ring i d l yes' e =
    let one = edge-one f own other ring i d l in sym (rw yes' at one) ∙ e

pub edge-more : (f : Faces) (own other : Node) (all : ℕ) (ring : List Spoke) (i : ℕ) (d : Spoke)
    → i < length ring
    → is_parting f own other (get_or ring i d) ≡ false → edge_in f own other (drop i ring) ≡ all
    → edge_in f own other (drop (i + 1) ring) ≡ all
edge-more f own other all ring i d l no' e =
    let n : i + 1 ≡ suc i = omega arith in
    let one = edge-one f own other ring i d l in
    rw n (sym (rw no' at one) ∙ e)

pub edge-none : (f : Faces) (own other : Node) (all : ℕ) (ring : List Spoke) (i : ℕ)
    → length ring ≤ i
    → edge_in f own other (drop i ring) ≡ all → 0 ≡ all
unfolding edge_in
edge-none f own other all ring i done e = rw (drop_of_length-le ring done) at e

-- One more way of a ring.
pub normal-one : (nodes : List Node) (s : Node) (sum before : Way) (ring : List Spoke) (i : ℕ)
    (d : Spoke) → i < length ring
    → normal_from nodes s sum before (drop i ring)
    ≡ normal_from nodes s (both sum (cross before (way_along nodes s (get_or ring i d))))
    (way_along nodes s (get_or ring i d)) (drop (suc i) ring)
unfolding normal_from
normal-one nodes s sum before [] i d l = absurd (omega (arith, l))
normal-one nodes s sum before (x ∷ ring) zero d l = refl
normal-one nodes s sum before (x ∷ ring) (suc i) d l =
    let less : i < length ring = omega (arith, l) in
    normal-one nodes s sum before ring i d less

pub normal-more : (nodes : List Node) (s : Node) (sum before next way all : Way)
    (ring : List Spoke) (i : ℕ) (d : Spoke) → i < length ring
    → way ≡ way_along nodes s (get_or ring i d) → next ≡ both sum (cross before way)
    → normal_from nodes s sum before (drop i ring) ≡ all
    → normal_from nodes s next way (drop (i + 1) ring) ≡ all
normal-more nodes s sum before next way all ring i d l is on e =
    let n : i + 1 ≡ suc i = omega arith in
    rw (n, on, is) (sym (normal-one nodes s sum before ring i d l) ∙ e)

pub normal-all : (nodes : List Node) (s : Node) (sum before all : Way) (ring : List Spoke)
    (i : ℕ) → length ring ≤ i → normal_from nodes s sum before (drop i ring) ≡ all → sum ≡ all
unfolding normal_from
normal-all nodes s sum before all ring i done e = rw (drop_of_length-le ring done) at e

-- One more side of a ring that leads to no leaf.
pub beside-one : (nodes : List Node) (other : ℕ) (ring : List Spoke) (i : ℕ) (d : Spoke)
    → i < length ring → input_beside nodes (drop i ring) other
    ≡ (if (node_at nodes (get_or ring i d).node).width == 1
    then (node_at nodes (get_or ring i d).node).input
    else input_beside nodes (drop (suc i) ring) other)
unfolding input_beside
beside-one nodes other [] i d l = absurd (omega (arith, l))
beside-one nodes other (s ∷ ring) zero d l = refl
beside-one nodes other (s ∷ ring) (suc i) d l =
    let less : i < length ring = omega (arith, l) in beside-one nodes other ring i d less

pub beside-here : (nodes : List Node) (other all : ℕ) (ring : List Spoke) (i : ℕ) (d : Spoke)
    (n : Node) → i < length ring → n ≡ node_at nodes (get_or ring i d).node
    → n.width == 1 ≡ true → input_beside nodes (drop i ring) other ≡ all → n.input ≡ all
beside-here nodes other all ring i d n l is yes' e =
    let leaf : (node_at nodes (get_or ring i d).node).width == 1 ≡ true = rw (sym is) yes' in
    let one = beside-one nodes other ring i d l in rw is (sym (rw leaf at one) ∙ e)

pub beside-more : (nodes : List Node) (other all : ℕ) (ring : List Spoke) (i : ℕ) (d : Spoke)
    (n : Node) → i < length ring → n ≡ node_at nodes (get_or ring i d).node
    → n.width == 1 ≡ false → input_beside nodes (drop i ring) other ≡ all
    → input_beside nodes (drop (i + 1) ring) other ≡ all
beside-more nodes other all ring i d n l is no' e =
    let wide : (node_at nodes (get_or ring i d).node).width == 1 ≡ false = rw (sym is) no' in
    let next : i + 1 ≡ suc i = omega arith in
    let one = beside-one nodes other ring i d l in rw next (sym (rw wide at one) ∙ e)

pub beside-none : (nodes : List Node) (other all : ℕ) (ring : List Spoke) (i : ℕ)
    → length ring ≤ i → input_beside nodes (drop i ring) other ≡ all → other ≡ all
unfolding input_beside
beside-none nodes other all ring i done e = rw (drop_of_length-le ring done) at e
