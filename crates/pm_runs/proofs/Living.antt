-- Which vertices are live after a run, and what they keep.
use Rattle.std.proofs.Common.{◌≡◌, ◌≢◌, ℕ, zero, suc, ◌+◌, ◌<◌, ◌≤◌, true, false, Some, None, List}
use Rattle.std.proofs.lemmas.Grind.{common_steps}
use Rattle.std.proofs.Common.{[], ◌∷◌, length, ◌⊎◌, inl, inr, refl, sym, ap, ◌∙◌, arith}
use Rattle.std.specs.Prelude.{is_some, slice_set}
use Rattle.std.proofs.lemmas.Bool.{cases_eq, cond-false, ne_eqb}
use Rattle.std.proofs.lemmas.List.{get_or-set_other}
use Rattle.pm_base.specs.Place.{Place}
use Rattle.pm_base.specs.declared.log.Collapse.{Collapse}
use Rattle.pm_base.specs.Meshes.{Mesh}
use Rattle.pm_quadric.specs.Planes.{Plane}
use Rattle.pm_runs.specs.Surfaces.{Surface, next_vertex, is_live, net_of_surface, surface_of}
use Rattle.pm_runs.specs.Surfaces.{IsSurface, collapsed}
use Rattle.pm_runs.specs.Pairs.{Joined}
use Rattle.pm_runs.specs.Planes.{joined_planes, planes_from}
use Rattle.pm_runs.specs.Runs.{after_entry, surface_from, IsStep, AreSteps}
use Rattle.pm_runs.specs.Counts.{live_count_of, IsSpared}
use Rattle.pm_base.proofs.Sides.{stands_next}
use Rattle.pm_base.specs.Sides.{next}
use Rattle.pm_runs.proofs.Live.{corner_live, live_below, new_live, old_live, gone_first}
use Rattle.pm_runs.proofs.Live.{gone_second, next-after, collapse-sound}
use Rattle.pm_runs.proofs.Logs.{step-new}
use Rattle.pm_runs.proofs.Present.{present-append, present-some, present-set, all_present}

-- Both ends of a pair that some face holds are live.
pub joined_live : (s : Surface) → IsSurface s → (a b : ℕ) → Joined (net_of_surface s) a b
    → (is_live s a ≡ true) × (is_live s b ≡ true)
joined_live s sound a b j =
    elim j [
      | inl (e, r) ↦ (
        ap (is_live s) (sym r.begins)
            ∙ corner_live s sound e r.stands,
        ap (is_live s) (sym r.ends)
            ∙ corner_live s sound (next e) (stands_next (net_of_surface s) e r.stands),
      )
      | inr (e, r) ↦ (
        ap (is_live s) (sym r.ends)
            ∙ corner_live s sound (next e) (stands_next (net_of_surface s) e r.stands),
        ap (is_live s) (sym r.begins) ∙ corner_live s sound e r.stands,
      )
    ]

spared-more : (v : ℕ) (c : Collapse) (cs : List Collapse) → (v ≢ c.t) × (v ≢ c.u) → IsSpared v cs
    → IsSpared v (c ∷ cs)
spared-more v c cs first rest zero d l = first
spared-more v c cs first rest (suc k) d l = rest k d (omega arith)

spared-first : (v : ℕ) (c : Collapse) (cs : List Collapse) → IsSpared v (c ∷ cs)
    → (v ≢ c.t) × (v ≢ c.u)
spared-first v c cs spared = spared 0 c (omega arith)

spared-rest : (v : ℕ) (c : Collapse) (cs : List Collapse) → IsSpared v (c ∷ cs) → IsSpared v cs
spared-rest v c cs spared k d l = spared (suc k) d (omega arith)

abbrev pub WasOrCame : Surface → List Collapse → ℕ → Type 0
WasOrCame s cs v = (is_live s v ≡ true) ⊎ ((next_vertex s ≤ v) × (v < next_vertex s + length cs))

module _ (s : Surface) (sound : IsSurface s) (c : Collapse) (step : IsStep s c) where
  abbrev after : Surface
  after = after_entry s c

  pub first_dead : is_live after c.t ≡ false
  first_dead = let l = live_below s c.t (joined_live s sound c.t c.u step.legal.joined).0 in
      ap is_some (gone_first s c.t c.u c.place l)

  pub second_dead : is_live after c.u ≡ false
  second_dead = let l = live_below s c.u (joined_live s sound c.t c.u step.legal.joined).1 in
      ap is_some (gone_second s c.t c.u c.place l)

  low_first : c.t < next_vertex s
  low_first = live_below s c.t (joined_live s sound c.t c.u step.legal.joined).0

  low_second : c.u < next_vertex s
  low_second = live_below s c.u (joined_live s sound c.t c.u step.legal.joined).1

  pub came : (cs : List Collapse) (v : ℕ) → WasOrCame after cs v → (v ≢ c.t) × (v ≢ c.u)
      × WasOrCame s (c ∷ cs) v
  came cs v way =
      grind (
        arith,
        common_steps,
        first_dead,
        low_first,
        low_second,
        second_dead,
        next-after s c.t c.u c.place,
        old_live s c.t c.u c.place v,
      )

  pub comes : (cs : List Collapse) (v : ℕ) → v ≢ c.t → v ≢ c.u → WasOrCame s (c ∷ cs) v
      → WasOrCame after cs v
  comes cs v n_t n_u way =
      let n = next-after s c.t c.u c.place in
      elim (cases_eq v (next_vertex s)) [
        | inl is ↦ inl (ap (is_live after) is ∙ new_live s c.t c.u c.place)
        | inr n_s ↦ elim way [
          | inl live ↦ inl (old_live s c.t c.u c.place v n_s n_t n_u ∙ live)
          | inr (low, high) ↦ inr (omega arith, omega arith)
        ]
      ]

pub live-from : (s : Surface) → IsSurface s → (cs : List Collapse) → AreSteps s cs → (v : ℕ)
    → is_live (surface_from s cs) v ≡ true → WasOrCame s cs v × IsSpared v cs
live-from s sound [] steps v live = (inl live, λ k d l. absurd (omega arith))
live-from s sound (c ∷ cs) steps v live =
    let (way, spared) = live-from (after_entry s c) (collapse-sound s sound c.t c.u c.place) cs
    steps.1 v live in
    let (n_t, n_u, w) = came s sound c steps.0 cs v way in
    (w, spared-more v c cs (n_t, n_u) spared)

pub from-live : (s : Surface) → IsSurface s → (cs : List Collapse) → AreSteps s cs → (v : ℕ)
    → WasOrCame s cs v → IsSpared v cs → is_live (surface_from s cs) v ≡ true
from-live s sound [] steps v way spared =
    elim way [ inl live ↦ live | inr (low, high) ↦ absurd (omega arith) ]
from-live s sound (c ∷ cs) steps v way spared =
    from-live (after_entry s c) (collapse-sound s sound c.t c.u c.place) cs steps.1 v
    (comes s sound c steps.0 cs v (spared-first v c cs spared).0 (spared-first v c cs spared).1
    way) (spared-rest v c cs spared)

-- What a vertex stands for never changes.
pub planes-stay : (planes : ℕ → List Plane) (s : Surface) (cs : List Collapse) → AreSteps s cs
    → (v : ℕ) → v < next_vertex s → planes_from planes cs v ≡ planes v
planes-stay planes s [] steps v l = refl
planes-stay planes s (c ∷ cs) steps v l =
    let new = step-new s c steps.0 in
    let n = next-after s c.t c.u c.place in
    let other : v ≢ c.s = λ is. absurd (omega arith) in
    planes-stay (joined_planes planes c) (after_entry s c) cs steps.1 v (omega arith)
    ∙ cond-false _ _ _ (ne_eqb v c.s other)

-- Each step takes one live vertex away.
pub live_fewer : (s : Surface) (a b : ℕ) (place : Place) → is_live s a ≡ true → is_live s b ≡ true
    → a ≢ b → suc (live_count_of (collapsed s a b place)) ≡ live_count_of s
live_fewer s a b place la lb n =
    grind (arith, common_steps, get_or-set_other, present-append, present-set, present-some)

pub first_live_count : (m : Mesh) → live_count_of (surface_of m) ≡ length m.points
first_live_count m = all_present m.points

pub live-count-from : (s : Surface) → IsSurface s → (cs : List Collapse) → AreSteps s cs
    → length cs + live_count_of (surface_from s cs) ≡ live_count_of s
live-count-from s sound [] steps = omega arith
live-count-from s sound (c ∷ cs) steps =
    let rest = live-count-from (after_entry s c) (collapse-sound s sound c.t c.u c.place) cs
    steps.1 in
    let (live_t, live_u) = joined_live s sound c.t c.u steps.0.legal.joined in
    let apart = steps.0.ordered in
    let one = live_fewer s c.t c.u c.place live_t live_u (λ is. absurd (omega arith)) in
    omega arith

-- A run never merges the last vertex.
pub some_left : (s : Surface) → IsSurface s → (cs : List Collapse) → AreSteps s cs
    → 0 < live_count_of s → 0 < live_count_of (surface_from s cs)
some_left s sound [] steps some = some
some_left s sound (c ∷ cs) steps some =
    some_left (after_entry s c) (collapse-sound s sound c.t c.u c.place) cs steps.1
    (let more = present-append (slice_set (slice_set s.places c.t None) c.u None)
    (Some c.place ∷ []) in let last = present-some c.place [] in omega arith)
