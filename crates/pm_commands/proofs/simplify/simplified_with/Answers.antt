use Rattle.std.proofs.Common.{Bool, List, sym, subst}
use Rattle.pm_keeping.specs.Keeping.{kept_in}
use Rattle.pm_commands.specs.Simplified.{IsKeptWith}
use Rattle.pm_commands.proofs.simplify.simplified_with.Goals as goal

pub returns-clause-simplified : goal.returns-clause-simplified
returns-clause-simplified c =
    c.simplified_keeping.ensures.simplified c.args.border
    (subst (λ (flags : List Bool). IsKeptWith c.args.border c.args.surface (kept_in flags))
    (sym c.deref.ensures.value) c.in_ok-kept.ensures.keeps)
