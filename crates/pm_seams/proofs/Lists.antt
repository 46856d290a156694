-- Lists of faces, one after the other.
use Rattle.std.proofs.Common.{◌≡◌, ℕ, ◌+◌, ◌-◌, ◌*◌, ◌/◌, ◌%◌, List, ◌++◌, length, length-append}
use Rattle.std.proofs.lemmas.Grind.{common_steps}
use Rattle.std.proofs.Common.{inl, inr, sym, ap, ◌∙◌, arith}
use Rattle.std.proofs.Math.Path.{fun_ext}
use Rattle.std.specs.Prelude.{slice_index_or}
use Rattle.std.proofs.Math.ListN.{get_or-append}
use Rattle.std.proofs.Math.Seq.{get_or-append_right}
use Rattle.std.proofs.lemmas.Bool.{cases_lt, cond-true, cond-false, lt-ltb, le-ltb}
use Rattle.pm_base.specs.declared.mesh.Corners.{Corners}
use Rattle.pm_base.specs.Sides.{corner_in, no_corners, net_of}
use Rattle.pm_seams.specs.Joined.{together}
use Rattle.pm_seams.specs.Laws as law

module _ (fs gs : List Corners) where
  abbrev n : ℕ
  n = length fs

  corner : (e : ℕ) → (net_of (fs ++ gs)).from e ≡ (together (net_of fs) (net_of gs)).from e
  corner e =
      elim (cases_lt e (3 * length fs)) [
        | inl low ↦
            ap (λ f. corner_in f (e % 3)) (get_or-append fs gs no_corners (e / 3) (omega arith))
            ∙ sym (cond-true _ _ _ (lt-ltb e (3 * length fs) low))
        | inr high ↦
            let face : e / 3 - length fs ≡ (e - 3 * length fs) / 3 = omega arith in
            let place : e % 3 ≡ (e - 3 * length fs) % 3 = omega arith in
            let later = get_or-append_right fs gs (e / 3) no_corners (omega arith) in
            ap (λ f. corner_in f (e % 3)) later
            ∙ ap (λ i. corner_in (slice_index_or gs i no_corners) (e % 3)) face
            ∙ ap (corner_in (slice_index_or gs ((e - 3 * length fs) / 3) no_corners)) place
            ∙ sym (cond-false _ _ _ (le-ltb e (3 * length fs) high))
      ]

  pub both : net_of (fs ++ gs) ≡ together (net_of fs) (net_of gs)
  both = grind (arith, common_steps, corner, fun_ext, length-append)

pub lists_together : law.ListsArePutTogether
lists_together = both
