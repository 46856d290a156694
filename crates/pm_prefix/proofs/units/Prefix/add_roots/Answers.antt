use Rattle.std.proofs.Common.{◌≡◌, ◌∙◌, length, sym, arith}
use Rattle.pm_forest.specs.Places.{no_root}
use Rattle.pm_prefix.specs.Tables.{whole, hierarchy_by}
use Rattle.pm_prefix.proofs.Parts.{root_count-first, root_at-first}
use Rattle.pm_prefix.proofs.FeedLaws.{expects_root, root_passes, root_taken}
use Rattle.pm_prefix.proofs.Feeding.{shaped}
use Rattle.pm_prefix.proofs.units.Prefix.add_roots.Goals as goal

pub add_root-requires : goal.add_root-requires
add_root-requires c =
    let p = c.args.self.now in
    let all = root_count-first (whole p) p.n in
    expects_root (hierarchy_by p) (shaped p c.requires.prefix) c.loop-v.v c.loop-v.invariant
    (omega arith)

pub unreachable-requires : goal.unreachable-requires
unreachable-requires c =
    let p = c.args.self.now in
    let all = root_count-first (whole p) p.n in
    root_passes (hierarchy_by p) (shaped p c.requires.prefix) c.loop-v.v c.loop-v.invariant
    (omega arith)
    (c.root-width.ensures ∙ sym (root_at-first (whole p) p.n c.loop-v.v no_root (omega arith)))
    c.in_default.ensures.fault

pub loop-v-preserved : goal.loop-v-preserved
loop-v-preserved c =
    let p = c.args.self.now in
    let all = root_count-first (whole p) p.n in
    c.in-Ok.ensures.taken
    ∙ root_taken (hierarchy_by p) (shaped p c.requires.prefix) c.loop-v.v c.loop-v.invariant
    (omega arith)
    (c.root-width.ensures ∙ sym (root_at-first (whole p) p.n c.loop-v.v no_root (omega arith)))

pub returns : goal.returns
returns c =
    let p = c.args.self.now in
    let all = root_count-first (whole p) p.n in
    let end : c.loop-v.v ≡ length (hierarchy_by p).roots = omega arith in
    rw end at c.loop-v.invariant
