use Rattle.std.proofs.Common.{◌<◌, sym, subst, ap, ◌∙◌, Bool, false, ◌||◌, slice_index_or}
use Rattle.std.proofs.lemmas.List.{get_or_read}
use Rattle.pm_turn.proofs.Tables.{tables_under}
use Rattle.pm_turn.proofs.patches.put_under.Goals as goal

pub returns-clause-value : goal.returns-clause-value
returns-clause-value c =
    let p = c.args.p.now in
    let t = c.requires.tables in
    let pl = subst (λ n. c.args.high < n) (sym t.parities_long) c.requires.high in
    let ol = subst (λ n. c.args.low < n) (sym t.odd_long) c.requires.low in
    let ol2 = subst (λ n. c.args.high < n) (sym t.odd_long) c.requires.high in
    let a = get_or_read p.odd.items c.args.low c.index.result.now ol c.index.ensures false in
    let b = get_or_read p.odd.items c.args.high c.index-2.result.now ol2 c.index-2.ensures false in
    tables_under p.elders.items p.parities.items p.odd.items c.args.low c.args.high c.args.parity
    c.either-odd.result c.requires.high pl ol
    (c.either-odd.ensures ∙ ap (λ (x : Bool). x || c.index-2.result.now) a
    ∙ ap (λ (x : Bool). slice_index_or p.odd.items c.args.low false || x) b)
