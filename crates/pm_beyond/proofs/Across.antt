-- The way across a record's face, from one outer side to the other.
use Rattle.std.proofs.Common.{◌≡◌, ◌≢◌, ℕ, ◌*◌, ◌<◌, eqb, cond, Option, Some, None, ◌⊎◌, inl, inr}
use Rattle.std.proofs.lemmas.Grind.{common_steps}
use Rattle.std.proofs.Common.{arith}
use Rattle.std.proofs.lemmas.Bool.{eq-eqb, ne_eqb, cases_Bool, cond-true, cond-false}
use Rattle.std.proofs.lemmas.Option.{none-some, same_Some}
use Rattle.pm_base.specs.Sides.{face_of, next}
use Rattle.pm_base.proofs.Sides.{face_of-next}
use Rattle.pm_forest.specs.Forest.{Hierarchy}
use Rattle.pm_forest.specs.Faces.{face_count, inner_of, record_of}
use Rattle.pm_forest.proofs.Sides.{next-differs, next_next-differs, inner-face, three_sides}
use Rattle.pm_beyond.specs.Walks.{IsOuter, across_at, across}

module _ (h : Hierarchy) where
  -- The two outer sides of a face lead to each other.
  abbrev Cross : ℕ → ℕ → ℕ → Type 0
  Cross i e o = ((e ≡ next i) × (o ≡ next (next i))) ⊎ ((e ≡ next (next i)) × (o ≡ next i))

  across_parts : (e o : ℕ) (r : Option ℕ) → across_at h e r ≡ Some o → (k : ℕ) × (r ≡ Some k)
      × Cross (inner_of h k (face_of e)) e o
  across_parts e o None a = absurd (none-some o a)
  across_parts e o (Some k) a =
      grind (
        arith,
        common_steps,
        cond-false,
        cond-true,
        eq-eqb,
        inner-face,
        ne_eqb,
        none-some,
        same_Some,
        three_sides,
      )

  pub across_cases : (e o : ℕ) → across h e ≡ Some o → (k : ℕ) × (record_of h e ≡ Some k)
      × Cross (inner_of h k (face_of e)) e o
  unfolding across
  across_cases e o a = across_parts e o (record_of h e) a

  pub across-outer : (k e : ℕ) → IsOuter h k e → (o : ℕ) × (across h e ≡ Some o)
  unfolding across
  across-outer k e p =
      let i = inner_of h k (face_of e) in
      rw p.0 (rw (cond-false _ None (cond (eqb e (next i)) (Some (next (next i))) (Some (next i)))
      (ne_eqb e i p.1))
      (elim (cases_Bool (eqb e (next i))) [
        | inl c ↦ (next (next i), cond-true _ (Some (next (next i))) (Some (next i)) c)
        | inr c ↦ (next i, cond-false _ (Some (next (next i))) (Some (next i)) c)
      ]))

  pub across-face : (e o : ℕ) → across h e ≡ Some o → face_of o ≡ face_of e
  across-face e o a = grind (arith, common_steps, across_cases, face_of-next, inner-face)

  pub across-is_outer : (e o : ℕ) → across h e ≡ Some o → (k : ℕ) × IsOuter h k e × IsOuter h k o
  across-is_outer e o a =
      grind (arith, common_steps, across-face, across_cases, next-differs, next_next-differs)

  pub across_back : (e o : ℕ) → across h e ≡ Some o → across h o ≡ Some e
  across_back e o a =
      grind (
        arith,
        common_steps,
        across-face,
        across-is_outer,
        across-outer,
        across_cases,
        next-differs,
        same_Some,
      )

  pub across-differs : (e o : ℕ) → across h e ≡ Some o → o ≢ e
  across-differs e o a = grind (arith, common_steps, across_cases, next-differs)

  -- Sides of the mesh lead to sides of the mesh.
  pub across-lt : (c o : ℕ) → c < 3 * face_count h → across h c ≡ Some o → o < 3 * face_count h
  across-lt c o l x = let f = across-face c o x in omega arith

  -- A face has two outer sides.
  pub two_outer : (c o c' : ℕ) → across h c ≡ Some o → (k : ℕ) → IsOuter h k c'
      → face_of c' ≡ face_of c → (c' ≡ c) ⊎ (c' ≡ o)
  two_outer c o c' x k outer same =
      grind (arith, common_steps, across_cases, inner-face, same_Some, three_sides)
