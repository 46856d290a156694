use Rattle.std.proofs.Common.{◌≡◌, ℕ, List, subst, rules}
use Rattle.pm_commands.specs.declared.asked.Asked.TheVariants as asked
use Rattle.pm_commands.specs.declared.asked.Border.{Border}
use Rattle.pm_commands.specs.Simplified.{IsSimplifiedText}
use Rattle.pm_commands.specs.Stepwise.{SteppedRun, IsRunOf}
use Rattle.pm_making.specs.Making.{IsStreamOf}
use Rattle.vdpm_c.proofs.stepwise.vdpm_simplify_end.Goals as goal

pub returns-in-Ok-clause-done : goal.returns-in-Ok-clause-done
returns-in-Ok-clause-done c s has done =
    let same : c.into_inner.result ≡ s = search rules in (
      c.in-Ok.all,
      c.keep.ensures.kept done,
      subst (λ (r : SteppedRun). (border : Border) (text : List ℕ) → IsRunOf border text r
          → IsStreamOf (IsSimplifiedText border r.run.target r.digits)
          (asked.Simplify r.run.target r.digits border) r.digits text c.in-Ok.all) same
          c.in-Ok.ensures.made,
    )
