use Rattle.std.proofs.Common.{◌≡◌, length, ap, ◌∙◌, None, arith}
use Rattle.std.proofs.lemmas.Bool.Decides.{nat_tests}
use Rattle.std.specs.Prelude.{replicate}
use Rattle.pm_deviation.specs.Tables.{spread_among}
use Rattle.pm_deviation.proofs.Children.{among-split, missing_all}
use Rattle.pm_deviation.proofs.axis_spreads.axis_spreads.Goals as goal

pub returns-then-is_empty : goal.returns-then-is_empty
returns-then-is_empty c spread have =
    let h = c.args.h.now in
    let ds = c.args.headings.now in
    let none : length ds ≡ 0 =
    grind (arith, nat_tests, c.if-is_empty.true, c.if-is_empty.ensures, c.is_empty.ensures) in
    missing_all h spread ds c.args.axis c.in_ok-table.table.items none have
    (c.in_ok-table.ensures ∙ ap (λ n. replicate n None) c.nodes.ensures.value)

pub see-requires-clause-headings : goal.see-requires-clause-headings
see-requires-clause-headings c = c.requires.headings

pub see-requires-clause-axis : goal.see-requires-clause-axis
see-requires-clause-axis c = c.requires.axis

pub see-requires-clause-missing : goal.see-requires-clause-missing
see-requires-clause-missing c =
    c.in_ok-table.ensures ∙ ap (λ n. replicate n None) c.nodes.ensures.value

pub grow-requires : goal.grow-requires
grow-requires c = c.see.ensures.len

pub returns : goal.returns
returns c spread have =
    let h = c.args.h.now in
    let ds = c.args.headings.now in
    let u = c.args.axis in
    let are = c.grow.ensures (spread_among h ds u) (among-split h c.invariant.ensures ds u)
    c.see.ensures.own in
    record { nodes = are.nodes; each = λ v l. are.each v l ∙ have u v }
