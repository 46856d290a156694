use Rattle.std.proofs.Common.{◌≡◌, ◌<◌, ◌∙◌, Some, None, sym, ap, arith}
use Rattle.std.specs.Ordering.{nat_cmp}
use Rattle.std.specs.BTreeMap.{get}
use Rattle.pm_fans.specs.Ends.{ends_key}
use Rattle.pm_fans.proofs.CutLaws.{many_none, many_some}
use Rattle.pm_fans.proofs.cutting.are_several.Goals as goal

pub returns-in-Some : goal.returns-in-Some
returns-in-Some c m ok noted =
    let key = ends_key c.args.p c.args.q in
    let low : c.args.q < 4294967296 = omega (arith, c.ranges.q.fits) in
    let is : get nat_cmp c.args.sides.now key ≡ Some c.in-Some.field-0.now =
    sym (c.in-Some.ensures.value ∙ ap (get nat_cmp c.args.sides.now) c.ends.ensures) in
    sym (many_some m ok c.args.p c.args.q low (get nat_cmp c.args.sides.now key)
    c.in-Some.field-0.now (noted key) is)

pub returns-in-None : goal.returns-in-None
returns-in-None c m ok noted =
    let key = ends_key c.args.p c.args.q in
    let low : c.args.q < 4294967296 = omega (arith, c.ranges.q.fits) in
    let is : get nat_cmp c.args.sides.now key ≡ None =
    sym (c.in-None.ensures.value ∙ ap (get nat_cmp c.args.sides.now) c.ends.ensures) in
    sym (many_none m ok c.args.p c.args.q low (get nat_cmp c.args.sides.now key) (noted key) is)
