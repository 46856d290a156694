-- What the least side that repeats an earlier one says of sides and faces.
use Rattle.std.proofs.Common.{◌≡◌, ◌≢◌, ℕ, ◌<◌, ◌≤◌, Option, Some, None, inl, inr, refl}
use Rattle.std.proofs.Common.{sym, subst, arith}
use Rattle.std.proofs.lemmas.Grind.{common_steps}
use Rattle.std.proofs.lemmas.Bool.{cases_eq, cases_lt}
use Rattle.pm_base.specs.declared.ids.Side.{Side}
use Rattle.pm_base.specs.Sides.{Net, side_count, face_of, NoSideTwice}
use Rattle.pm_base.proofs.Sides.{face_cases}
use Rattle.pm_twins.specs.Faults.{IsFirstRepeating}
use Rattle.pm_twins.specs.Whole.{IsWhole}
use Rattle.pm_twins.proofs.Whole.{to_within}
use Rattle.pm_twins.specs.Stamping.{IsLeastRepeat, IsRepeat}

module _ (m : Net) (vertices : ℕ) (whole : IsWhole m vertices) where
  -- Two sides of one face run from different vertices.
  one_face : (e g : ℕ) → e < side_count m → face_of e ≡ face_of g → e ≢ g → m.from e ≢ m.from g
  one_face e g l f ne is = grind (arith, common_steps, face_cases)

  -- All vertices are gone through, and no side is a repeat.
  no_repeat : (n e : ℕ) → vertices ≤ n → IsLeastRepeat m n None → e < side_count m
      → IsRepeat m e → ⊥
  no_repeat n e all known l r =
      let end = to_within m vertices whole e l in
      known.least e l (omega (arith, end, all)) r

  pub none_twice : {n : ℕ} {repeat : Option Side} → vertices ≤ n → IsLeastRepeat m n repeat
      → repeat ≡ None → NoSideTwice m
  none_twice {n} {repeat} all known is e g te tg from ends =
      let none : IsLeastRepeat m n None =
      subst (λ (r : Option Side). IsLeastRepeat m n r) is known in
      elim (cases_eq e g) [
        | inl same ↦ same
        | inr ne ↦ elim (cases_lt e g) [
          | inl lt ↦ absurd (no_repeat n g all none tg.is_side (e, lt, from, ends))
          | inr le ↦ absurd (no_repeat n e all none te.is_side
              (g, omega (arith, le, ne), sym from, sym ends))
        ]
      ]

  -- Side g is the least repeat.
  pub first_repeating : {n : ℕ} {repeat : Option Side} (g : Side) → vertices ≤ n
      → IsLeastRepeat m n repeat → repeat ≡ Some g → IsFirstRepeating m (face_of g.0)
  first_repeating {n} {repeat} g all known is =
      let least : IsLeastRepeat m n (Some g) =
      subst (λ (r : Option Side). IsLeastRepeat m n r) is known in
      let (l, (earlier, before, from, ends)) = least.is_one in
      let apart : face_of earlier ≢ face_of g.0 = grind (arith, common_steps, one_face) in
      record {
        in_range = omega (arith, l);
        repeats = record {
          side = g.0;
          earlier = earlier;
          of_face = refl;
          before = omega (arith, before, apart);
          from = from;
          to = ends;
        };
        least = λ h low r.
            let of_face = r.of_face in
            let first = r.before in
            let less : r.side < g.0 = omega (arith, of_face, low) in
            let in_range : r.side < side_count m = omega (arith, less, l) in
            let within = to_within m vertices whole r.side in_range in
            let up_to = least.least r.side in_range (omega (arith, within, all))
            (r.earlier, omega (arith, first, of_face), r.from, r.to) in
            omega (arith, up_to, less);
      }
