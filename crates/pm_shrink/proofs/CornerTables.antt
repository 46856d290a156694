-- The lists of corners by vertex, as they are built.
use Rattle.std.proofs.Common.{◌≡◌, ◌↔◌, ℕ, ◌+◌, ◌<◌, true, eqb, Option, List, ◌∷◌, length, inl, inr}
use Rattle.std.proofs.Common.{sym, ap, ◌∙◌, arith}
use Rattle.std.proofs.lemmas.Bool.{or_cases, or_left, eqb-true, eq-eqb, cases_eq}
use Rattle.pm_base.specs.declared.mesh.Corners.{Corners}
use Rattle.pm_links.specs.Lists.{Lists, list_of, has, with_first}
use Rattle.pm_links.proofs.Members.{has_tail}
use Rattle.pm_links.proofs.Calls.{after_push}
use Rattle.pm_shrink.specs.FaceRows.{side_from}

-- The first n corners are in the lists of their vertices, and no other ones.
abbrev pub AreListed : List (Option Corners) → ℕ → Lists → Type 0
AreListed faces n lists =
    (v e : ℕ) → (has (list_of lists v) e ≡ true) ↔ ((e < n) × (side_from faces e ≡ v))

pub listed-more : (faces : List (Option Corners)) (n head : ℕ) (lists more : Lists)
    → head ≡ side_from faces n → head < length lists.lists → more ≡ with_first lists head n →
    AreListed faces n lists → AreListed faces (n + 1) more
listed-more faces n head lists more is low pushed listed v e =
    let p = after_push lists more head n low pushed in
    elim (cases_eq v head) [
      | inl at ↦
          let list_is : list_of more v ≡ n ∷ list_of lists head =
          ap (list_of more) at ∙ p.gained in (
            λ h. elim (or_cases (eqb n e) (has (list_of lists head) e)
                (ap (λ k. has k e) (sym list_is) ∙ h)) [
                  | inl t ↦ (let same =
                      eqb-true n e t in
                      (omega (arith, same), ap (side_from faces) (sym same) ∙ sym is ∙ sym at))
                  | inr t ↦ (let old =
                      (listed head e).0 t in (omega (arith, old.0), old.1 ∙ sym at))
                ],
            λ (l, from). ap (λ k. has k e) list_is ∙ elim (cases_eq n e) [
              | inl same ↦ or_left (eqb n e) (has (list_of lists head) e) (eq-eqb n e same)
              | inr ne ↦ has_tail n (list_of lists head) e
                  ((listed head e).1 (omega arith, from ∙ at))
            ],
          )
      | inr other ↦
          let list_is : list_of more v ≡ list_of lists v = p.others v other in (
            λ h. (let old = (listed v e).0 (ap (λ k. has k e) (sym list_is) ∙ h) in
                (omega (arith, old.0), old.1)),
            λ (l, from). ap (λ k. has k e) list_is
                ∙ (listed v e).1 (
                  elim (cases_eq n e) [
                    | inl same ↦
                        absurd (other (sym from ∙ ap (side_from faces) (sym same) ∙ sym is))
                    | inr ne ↦
                        omega arith
                  ],
                  from,
                ),
          )
    ]
