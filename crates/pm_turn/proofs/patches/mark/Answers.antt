use Rattle.std.proofs.Common.{◌<◌, sym, subst}
use Rattle.pm_turn.proofs.Tables.{tables_marked}
use Rattle.pm_turn.proofs.patches.mark.Goals as goal

pub returns-clause-value : goal.returns-clause-value
returns-clause-value c =
    let p = c.args.p.now in
    tables_marked p.elders.items p.parities.items p.odd.items c.args.root
    (subst (λ n. c.args.root < n) (sym c.requires.tables.odd_long) c.requires.root)
