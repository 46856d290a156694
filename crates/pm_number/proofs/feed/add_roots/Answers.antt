use Rattle.std.proofs.Common.{◌≡◌, ◌∙◌, length, arith}
use Rattle.pm_number.specs.Tables.{run_by, hierarchy_by}
use Rattle.pm_number.proofs.FeedLaws.{root_len, expects_root, root_passes, root_taken}
use Rattle.pm_number.proofs.feed.add_roots.Goals as goal

pub add_root-requires : goal.add_root-requires
add_root-requires c =
    expects_root (hierarchy_by c.args.numbers.now) c.loop-i.i c.loop-i.invariant
    (omega (arith, root_len c.requires.numbers))

pub unreachable-requires : goal.unreachable-requires
unreachable-requires c =
    root_passes (run_by c.args.numbers.now) c.loop-i.i c.requires.numbers.run.merging
    (omega (arith, root_len c.requires.numbers)) c.root-width.ensures.on_grid c.loop-i.invariant
    c.root-width.ensures.value c.in_default.ensures.fault

pub loop-i-preserved : goal.loop-i-preserved
loop-i-preserved c =
    c.in-Ok.ensures.taken
    ∙ root_taken (hierarchy_by c.args.numbers.now) c.loop-i.i c.loop-i.invariant
    (omega (arith, root_len c.requires.numbers)) c.root-width.ensures.value

pub returns : goal.returns
returns c =
    let end : c.loop-i.i ≡ length (hierarchy_by c.args.numbers.now).roots =
    omega (arith, root_len c.requires.numbers) in
    rw end at c.loop-i.invariant
