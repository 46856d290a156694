use Rattle.std.proofs.Common.{◌∙◌, ℕ, filter, refl, subst, arith}
use Rattle.pm_front.specs.Corners.{is_not_between}
use Rattle.pm_front.specs.Members.{AreSameNumbers}
use Rattle.pm_front.proofs.RangeLaws.{out_first, out_there, out_next}
use Rattle.pm_front.proofs.members.take_out.Goals as goal

pub loop-number-init : goal.loop-number-init
loop-number-init c = record {
  bound = refl;
  list = out_first c.args.from c.args.members.now.list c.requires.once;
}

pub remove-requires : goal.remove-requires
remove-requires c =
    let n = c.loop-number.number in
    let low = c.loop-number.auto.number in
    out_there c.args.from n c.args.members.now.list c.loop-number.members.list (omega (arith, low))
    c.loop-number.invariant.list (c.requires.there n (omega (arith, low)) (omega arith))

pub loop-number-preserved : goal.loop-number-preserved
loop-number-preserved c = record {
  bound = c.remove.ensures.bound ∙ c.loop-number.invariant.bound;
  list = out_next c.args.from c.loop-number.number c.args.members.now.list
      c.loop-number.members.list (omega (arith, c.loop-number.auto.number))
      c.loop-number.invariant.list c.remove.new.self.list c.remove.ensures.list;
}

pub returns-clause-list : goal.returns-clause-list
returns-clause-list c =
    let l = c.loop-number.auto.number-end c.requires.ordered in
    subst (λ (n : ℕ). AreSameNumbers c.loop-number.members.list
    (filter (is_not_between c.args.from n) c.args.members.now.list))
    (omega (arith, c.loop-number-test.false, l)) c.loop-number.invariant.list
