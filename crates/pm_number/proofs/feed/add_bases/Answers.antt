use Rattle.std.proofs.Common.{◌≡◌, ◌∙◌, length, arith}
use Rattle.pm_number.specs.Tables.{run_by, hierarchy_by}
use Rattle.pm_number.proofs.FeedLaws.{base_len, expects_base, base_passes, base_taken}
use Rattle.pm_number.proofs.feed.add_bases.Goals as goal

pub add_base-requires : goal.add_base-requires
add_base-requires c =
    expects_base (hierarchy_by c.args.numbers.now) c.loop-i.i c.loop-i.invariant
    (omega (arith, base_len c.requires.numbers))

pub unreachable-requires : goal.unreachable-requires
unreachable-requires c =
    base_passes (run_by c.args.numbers.now) c.loop-i.i c.requires.numbers.run
    (omega (arith, base_len c.requires.numbers)) c.loop-i.invariant c.base.ensures
    c.in_default.ensures.fault

pub loop-i-preserved : goal.loop-i-preserved
loop-i-preserved c =
    c.in-Ok.ensures.taken
    ∙ base_taken (hierarchy_by c.args.numbers.now) c.loop-i.i c.loop-i.invariant
    (omega (arith, base_len c.requires.numbers)) c.base.ensures

pub returns : goal.returns
returns c =
    let end : c.loop-i.i ≡ length (hierarchy_by c.args.numbers.now).bases =
    omega (arith, base_len c.requires.numbers) in
    rw end at c.loop-i.invariant
