-- A face that goes in a legal collapse has a twin at one of its two other sides.
use Rattle.std.proofs.Common.{arith}
use Rattle.std.proofs.lemmas.Grind.{common_steps}
use Rattle.std.proofs.Common.{◌≡◌, ℕ, inl, inr, refl, ◌∙◌}
use Rattle.pm_base.specs.Sides.{Net, next, third, HasNoTwin, IsBorder, twin_of}
use Rattle.pm_base.proofs.Search.{option_cases}
use Rattle.pm_base.proofs.TwinLaws.{twin-is, twin-none}
use Rattle.pm_runs.specs.Pairs.{Runs, IsPair}
use Rattle.pm_runs.specs.Merged.{IsLinkable}
use Rattle.pm_runs.proofs.Sides.{runs_next, runs_last}

module _ (m : Net) (t u : ℕ) (link : IsLinkable m t u) where
  -- sides p to q of a face whose two other sides have no twin
  both_alone : (e p q : ℕ) → Runs m e p q → HasNoTwin m (next e) → HasNoTwin m (next (next e))
      → IsBorder m p → IsBorder m q → ((p ≡ t) × (q ≡ u)) → ⊥
  both_alone e p q r a b bp bq (pt, qu) =
      grind (arith, common_steps, option_cases, twin-is, twin-none)

  pub not_alone : (e p q : ℕ) → IsPair t u p q → Runs m e p q → HasNoTwin m (next e)
      → HasNoTwin m (next (next e)) → ⊥
  not_alone e p q pair r a b =
      let n = runs_next m e p q (third m e) r refl in
      let l = runs_last m e p q (third m e) r refl in
      let bp : IsBorder m p =
      (next (next e), record { stands = l.stands; alone = b }, inr l.ends) in
      let bq : IsBorder m q = (next e, record { stands = n.stands; alone = a }, inl n.begins) in
      elim pair [
        | inl k ↦ both_alone e p q r a b bp bq k
        | inr (pu, qt) ↦
            elim (option_cases (twin_of m e)) [
              | inl none ↦
                  link.single e
                  (inr (record { stands = r.stands; begins = r.begins ∙ pu; ends = r.ends ∙ qt }))
                  (twin-none m e none) a b
              | inr (g, is) ↦
                  let w = twin-is m e g is in
                  link.border (
                    bq.0,
                    bq.1,
                    elim bq.2 [
                      | inl i ↦ inl (i ∙ qt)
                      | inr i ↦
                          inr (i ∙ qt)
                    ],
                  )
                  (bp.0, bp.1, elim bp.2 [ inl i ↦ inl (i ∙ pu) | inr i ↦ inr (i ∙ pu) ]) (
                    g,
                    record {
                      stands = w.stands;
                      begins = w.begins ∙ r.ends ∙ qt;
                      ends =
                          w.ends ∙ r.begins ∙ pu;
                    },
                  )
                  (e, record { stands = r.stands; begins = r.begins ∙ pu; ends = r.ends ∙ qt })
            ]
      ]
