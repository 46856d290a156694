use Rattle.std.proofs.Common.{◌≡◌, length, arith}
use Rattle.pm_candidates.proofs.WaitingLaws.{roots_more, roots_all}
use Rattle.pm_candidates.proofs.candidates.add_roots.Goals as goal

pub loop-root-preserved : goal.loop-root-preserved
loop-root-preserved c =
    roots_more c.args.h.now c.invariant.ensures c.loop-root.root c.loop-root.waiting
    c.add_splitter.new.waiting c.loop-root.invariant c.add_splitter.ensures

pub returns : goal.returns
returns c =
    let all : c.loop-root.root ≡ length c.args.h.now.roots =
    omega (
      arith,
      c.loop-root.auto.root-end,
      c.loop-root-test.false,
      c.roots-root-end.ensures.value,
    ) in
    roots_all c.args.h.now c.invariant.ensures c.loop-root.root all c.loop-root.waiting
    c.loop-root.invariant
