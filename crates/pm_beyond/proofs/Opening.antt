-- A hierarchy is judged from the last record down.
use Rattle.std.proofs.Common.{◌≡◌, ◌≢◌, ℕ, zero, suc, ◌*◌, ◌<◌, ◌≤◌, Some, ◌⊎◌, inl, inr, sym, ◌∙◌}
use Rattle.std.proofs.lemmas.Grind.{common_steps}
use Rattle.std.proofs.Common.{subst, arith}
use Rattle.std.proofs.lemmas.Bool.{cases_Bool, cases_eq, cases_lt, lt-ltb, both_ways}
use Rattle.pm_base.specs.Sides.{face_of, NoSideTwice}
use Rattle.pm_base.proofs.Search.{Decided, search_below}
use Rattle.pm_forest.specs.Forest.{Hierarchy, record_count}
use Rattle.pm_forest.specs.Fronts.{below}
use Rattle.pm_forest.specs.Faces.{face_count, inner_of, record_of}
use Rattle.pm_forest.specs.Rules.{HasShape}
use Rattle.pm_forest.proofs.Ancestors.{below-front}
use Rattle.pm_forest.proofs.Shown.{shown_record}
use Rattle.pm_forest.proofs.ShapeLaws.{shape_of_nodes, shape_is_forest}
use Rattle.pm_beyond.specs.Walks.{leaf_net, Beyond, beyond_of, expected}
use Rattle.pm_beyond.specs.Valid.{IsAsTold, IsValid, IsLastToFail}
use Rattle.pm_beyond.specs.Moves.{same_side}
use Rattle.pm_beyond.specs.OpeningLaws as law
use Rattle.pm_beyond.proofs.Reaching.{Beyond-unique}
use Rattle.pm_beyond.proofs.Found.{beyond-found}
use Rattle.pm_beyond.proofs.AnswerLaws.{same_side-parts, same_side-from}

module _ (h : Hierarchy) (shape : HasShape h) (once : NoSideTwice (leaf_net h)) where
  -- Just when record k is the last one split, its own sides are shown, so what stands beyond them
  -- is found.
  found : (k e : ℕ) → e < 3 * face_count h → record_of h e ≡ Some k
      → Beyond h (below (suc k)) e (beyond_of h (below (suc k)) e)
  found k e l own =
      beyond-found h (shape_is_forest h shape) once (below (suc k))
      (below-front h (shape_of_nodes h shape) (suc k)) e l
      (shown_record h (below (suc k)) e k own ∙ lt-ltb k (suc k) (omega arith))

  told-found : (k e : ℕ) → IsAsTold h k → e < 3 * face_count h → record_of h e ≡ Some k
      → beyond_of h (below (suc k)) e ≡ expected h e
  told-found k e told l own =
      Beyond-unique h (shape_is_forest h shape) once (below (suc k)) e _ _ (found k e l own)
      (elim (cases_eq e (inner_of h k (face_of e))) [
        | inl is ↦ told.1 e l (own, is)
        | inr other ↦
            told.0 e l (own, other)
      ])

  pub found-told : (k : ℕ)
      → ((e : ℕ) → e < 3 * face_count h → record_of h e ≡ Some k
      → beyond_of h (below (suc k)) e ≡ expected h e) → IsAsTold h k
  found-told k all = grind (arith, common_steps, found k)

  -- Side e is one of record k's and something else stands beyond it than is expected.
  abbrev Differs : ℕ → ℕ → Type 0
  Differs k e = (record_of h e ≡ Some k) × (beyond_of h (below (suc k)) e ≢ expected h e)

  differs? : (k e : ℕ) → Decided (Differs k e)
  differs? k e = grind (arith, common_steps, same_side-from, same_side-parts)

  told? : (k : ℕ) → Decided (IsAsTold h k)
  told? k =
      elim (search_below (Differs k) (differs? k) (3 * face_count h)) [
        | inl (e, l, d) ↦ inr (λ told. d.1 (told-found k e told l d.0))
        | inr none ↦
            inl (found-told k (λ e l own.
            let b = beyond_of h (below (suc k)) e in
            elim (cases_Bool (same_side b (expected h e))) [
              | inl t ↦ same_side-parts b (expected h e) t
              | inr t ↦ absurd
                  (none e l (own, λ is. both_ways _ t (same_side-from b (expected h e) is)))
            ]))
      ]

  abbrev ToldFrom : ℕ → Type 0
  ToldFrom n = (j : ℕ) → n ≤ j → j < record_count h → IsAsTold h j

  last_to_fail : (n : ℕ) → n ≤ record_count h → ToldFrom n
      → ToldFrom 0 ⊎ ((k : ℕ) × IsLastToFail h k)
  last_to_fail zero l told = inl told
  last_to_fail (suc n) l told =
      elim (told? n) [
        | inr fails ↦ inr (n, record { is_record = l; fails = fails; later = λ j a b. told j a b })
        | inl here ↦
            last_to_fail n (omega arith)
            (λ j a b. elim (cases_eq j n) [
              | inl is ↦ subst (IsAsTold h) (sym is) here
              | inr other ↦
                  told j (omega arith) b
            ])
      ]

  pub valid-from_told : ((k : ℕ) → k < record_count h → IsAsTold h k) → IsValid h
  valid-from_told told = record {
    shape = shape;
    no_side_twice = once;
    outer = λ k l. (told k l).0;
    inner = λ k l. (told k l).1;
  }

  valid_or_fails : IsValid h ⊎ ((k : ℕ) × IsLastToFail h k)
  valid_or_fails =
      elim (last_to_fail (record_count h) (omega arith) (λ j a b. absurd (omega arith))) [
        | inl told ↦ inl (valid-from_told (λ k l. told k (omega arith) l))
        | inr fails ↦ inr fails
      ]

pub told_found : law.ToldIsFound
told_found h shape once k l =
    (λ told e m own. told-found h shape once k e told m own, found-told h shape once k)

pub told_valid : law.ValidWhereTold
told_valid h shape once =
    (λ valid k l. (valid.outer k l, valid.inner k l), valid-from_told h shape once)

pub one_fails : law.ValidOrOneFails
one_fails h shape once = (
  valid_or_fails h shape once,
  λ j k last. (
    λ valid. last.fails (valid.outer j last.is_record, valid.inner j last.is_record),
    λ other.
        elim (cases_lt j k) [
          | inl a ↦ absurd (other.fails (last.later k a other.is_record))
          | inr a ↦ elim (cases_eq j k) [
            | inl is ↦ is
            | inr n ↦
                absurd (last.fails (other.later j (omega arith) last.is_record))
          ]
        ],
  ),
)
