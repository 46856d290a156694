-- The same sides are on the border under other numbers.
use Rattle.std.proofs.Common.{ℕ, ◌*◌, ◌<◌, refl, sym, subst, arith}
use Rattle.std.proofs.lemmas.Grind.{common_steps}
use Rattle.pm_base.specs.Sides.{Net, next, to, IsTwin, IsBorderSide}
use Rattle.pm_base.proofs.Sides.{next-lt}
use Rattle.pm_runs.specs.Pairs.{Runs}
use Rattle.pm_number.specs.Stages.{BeginsSide, Renames}
use Rattle.pm_number.proofs.Renamed.{at_to, stands-moved, stood-before, runs-moved, runs-before}

module _ (m n : Net) (side name : ℕ → ℕ) (names : Renames m n side name) where
  begins : (e : ℕ) → e < 3 * m.faces → BeginsSide m (m.from e)
  begins e l = (e, l, refl)

  twin-before :
      (e g : ℕ) → e < 3 * m.faces → g < 3 * m.faces → IsTwin n (side e) (side g) → IsTwin m e g
  twin-before e g l low twin =
      let runs : Runs n (side g) (name (to m e)) (name (m.from e)) =
      grind (arith, common_steps, at_to, begins) in
      let p : BeginsSide m (to m e) = begins (next e) (next-lt m.faces e l) in
      let q : BeginsSide m (m.from e) = begins e l in
      let was = runs-before m n side name names g (to m e) (m.from e) low p q runs in
      record { stands = was.stands; begins = was.begins; ends = was.ends }

  twin-moved : (e g : ℕ) → e < 3 * m.faces → IsTwin m e g → IsTwin n (side e) (side g)
  twin-moved e g l twin =
      grind (
        arith,
        common_steps,
        begins,
        at_to m n side name names e l,
        runs-moved m n side name names g (to m e) (m.from e),
      )

  pub border-moved : (e : ℕ) → IsBorderSide m e → IsBorderSide n (side e)
  border-moved e border =
      let l = border.stands.is_side in
      record {
        stands = stands-moved m n side name names e border.stands;
        alone = λ f twin.
            let (g, low, is) = names.back f twin.stands.is_side in
            border.alone g (twin-before e g l low (subst (IsTwin n (side e)) (sym is) twin));
      }

  pub border-before : (e : ℕ) → e < 3 * m.faces → IsBorderSide n (side e) → IsBorderSide m e
  border-before e l border = record {
    stands = stood-before m n side name names e l border.stands;
    alone = λ g twin. border.alone (side g) (twin-moved e g l twin);
  }
