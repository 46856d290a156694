use Rattle.std.proofs.Common.{◌∙◌, arith}
use Rattle.std.proofs.lemmas.List.{get_or_read}
use Rattle.pm_prefix.proofs.PrefixLaws.{before_most}
use Rattle.pm_prefix.proofs.units.Prefix.before.Goals as goal

pub returns-clause-value : goal.returns-clause-value
returns-clause-value c =
    let p = c.args.self.now in
    let is = c.requires.prefix in
    get_or_read p.begun.items c.args.x _ (omega (arith, is.len)) c.index.ensures 0
    ∙ is.each c.args.x c.requires.inside

pub returns-clause-most : goal.returns-clause-most
returns-clause-most c =
    let p = c.args.self.now in
    let is = c.requires.prefix in
    let value = get_or_read p.begun.items c.args.x _ (omega (arith, is.len)) c.index.ensures 0
    ∙ is.each c.args.x c.requires.inside in
    omega (arith, value, before_most p is c.args.x c.requires.inside)
