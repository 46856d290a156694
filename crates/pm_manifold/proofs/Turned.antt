-- The walk to the next border side, in plain words.
use Rattle.std.proofs.Common.{◌≡◌, ℕ, ◌*◌, ◌<◌, Bool, true, Option, Some, None, refl, sym, ap, ◌∙◌}
use Rattle.std.proofs.Common.{arith}
use Rattle.std.proofs.lemmas.Grind.{common_steps}
use Rattle.std.proofs.Common.{subst}
use Rattle.std.specs.Prelude.{option_map}
use Rattle.std.proofs.lemmas.Option.{none-some, same_Some}
use Rattle.pm_base.specs.Sides.{next}
use Rattle.pm_forest.specs.Forest.{Hierarchy}
use Rattle.pm_forest.specs.Fronts.{IsFront}
use Rattle.pm_forest.specs.Faces.{face_count}
use Rattle.pm_beyond.specs.Walks.{StandsBeyond, beyond_of}
use Rattle.pm_beyond.specs.Valid.{IsValid}
use Rattle.pm_beyond.proofs.Found.{beyond-found}
use Rattle.pm_beyond.proofs.Standing.{forest_of, closed-front}
use Rattle.pm_firm.proofs.ShownNets.{stands-from, beyond-from}
use Rattle.pm_manifold.specs.Measure.{is_border_side, turn_at, next_border}
use Rattle.pm_manifold.specs.Laws as law
use Rattle.pm_manifold.specs.Laws.{TurnsTo, stops, goes}
use Rattle.pm_manifold.proofs.BorderSides.{stands_as, border-parts}
use Rattle.pm_manifold.proofs.NextBorders.{Leads, at, then, IsGood, good, keeps, injective}
use Rattle.pm_manifold.proofs.NextBorders.{turn-parts, start, leads, after}

module _ (h : Hierarchy) (valid : IsValid h) (T : ℕ → Bool) (front : IsFront h T) where
  abbrev IsGoodSide : ℕ → Type 0
  IsGoodSide e = IsGood h valid T front e

  -- what stands beyond a side of a shown face is what is found
  as_found : (e : ℕ) → IsGoodSide e → (r : Option ℕ) → StandsBeyond h T e r → beyond_of h T e ≡ r
  as_found e g r s =
      stands_as h valid T front e r g.low g.shown
      (beyond-from h (forest_of h valid) T front valid.no_side_twice e r g.low g.shown s)

  found : (e : ℕ) → IsGoodSide e → (r : Option ℕ) → beyond_of h T e ≡ r → StandsBeyond h T e r
  found e g r is = grind (arith, common_steps, beyond-found, forest_of, stands-from)

  prepend : {a b c : ℕ} → IsGoodSide a → Leads (turn_at h T) a b → TurnsTo h T b c → TurnsTo h T a c
  prepend g at t = t
  prepend {c = d} g (then {b = b} {c = c} w e) t =
      let (k, some, is) = turn-parts h valid T front b c e in
      let gb = good (turn_at h T) (IsGood h valid T front) (keeps h valid T front)
      (injective h valid T front) g w in
      prepend g w (goes (found b gb (Some k) some) (subst (λ i. TurnsTo h T i d) is t))

  -- Such a walk comes to one side.
  one_end : {a b c : ℕ} → IsGoodSide a → TurnsTo h T a b → TurnsTo h T a c → b ≡ c
  one_end g (stops s) (stops t) = refl
  one_end {a = a} g (stops s) (goes {g = k} t w) =
      absurd (none-some k (sym (as_found a g None s) ∙ as_found a g (Some k) t))
  one_end {a = a} g (goes {g = k} s v) (stops t) =
      absurd (none-some k (sym (as_found a g None t) ∙ as_found a g (Some k) s))
  one_end {a = a} {c = d} g (goes {g = k} s v) (goes {g = l} t w) =
      let same : l ≡ k = same_Some l k (sym (as_found a g (Some l) t) ∙ as_found a g (Some k) s) in
      let next_good =
      keeps h valid T front a (next k) g (ap (option_map next) (as_found a g (Some k) s)) in
      one_end next_good v (subst (λ i. TurnsTo h T (next i) d) same w)

  module _ (e : ℕ) (l : e < 3 * face_count h) (b : is_border_side h T e ≡ true) where
    pub turned : TurnsTo h T (next e) (next_border h T e)
    turned =
        let p = after h valid T front e l b in
        let q = border-parts h valid T front (next_border h T e) p.0 p.1 in
        prepend (start h valid T front e l b) (leads h valid T front e l b)
        (stops (stands-from h (forest_of h valid) T front valid.no_side_twice (next_border h T e)
        None p.0 q.0 q.1))

    pub only : (g : ℕ) → TurnsTo h T (next e) g → g ≡ next_border h T e
    only g t = one_end (start h valid T front e l b) t turned

pub turned_to : law.NextBordersAreTurnedTo
turned_to h valid T closed e l b g = grind (arith, common_steps, closed-front, only, turned)
