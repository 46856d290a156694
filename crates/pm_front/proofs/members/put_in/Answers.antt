use Rattle.std.proofs.Common.{◌∙◌, ◌-◌, ◌++◌, ℕ, refl, subst, arith}
use Rattle.std.specs.List.{range_with_len}
use Rattle.pm_front.specs.Members.{AreSameNumbers}
use Rattle.pm_front.proofs.RangeLaws.{put_begins, put_absent, put_more}
use Rattle.pm_front.proofs.members.put_in.Goals as goal

pub loop-number-init : goal.loop-number-init
loop-number-init c = record {
  bound = refl;
  list = put_begins c.args.from c.args.members.now.list c.requires.once;
}

pub insert-requires-clause-absent : goal.insert-requires-clause-absent
insert-requires-clause-absent c =
    let n = c.loop-number.number in
    let low = c.loop-number.auto.number in
    put_absent c.args.from n c.args.members.now.list c.loop-number.members.list (omega (arith, low))
    c.loop-number.invariant.list (c.requires.absent n (omega (arith, low)) (omega arith))

pub loop-number-preserved : goal.loop-number-preserved
loop-number-preserved c = record {
  bound = c.insert.ensures.bound ∙ c.loop-number.invariant.bound;
  list = put_more c.args.from c.loop-number.number c.args.members.now.list
      c.loop-number.members.list (omega (arith, c.loop-number.auto.number))
      c.loop-number.invariant.list c.insert.new.self.list c.insert.ensures.list;
}

pub returns-clause-list : goal.returns-clause-list
returns-clause-list c =
    let l = c.loop-number.auto.number-end c.requires.ordered in
    subst (λ (n : ℕ). AreSameNumbers c.loop-number.members.list
    (range_with_len c.args.from (n - c.args.from) ++ c.args.members.now.list))
    (omega (arith, c.loop-number-test.false, l)) c.loop-number.invariant.list
