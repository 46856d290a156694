use Rattle.std.proofs.Common.{◌≡◌, ◌∙◌, length, sym, arith}
use Rattle.pm_forest.specs.Faces.{no_face_corners}
use Rattle.pm_prefix.specs.Tables.{whole, hierarchy_by}
use Rattle.pm_prefix.proofs.Parts.{base_count-first, base_at-first}
use Rattle.pm_prefix.proofs.FeedLaws.{expects_base, base_passes, base_taken}
use Rattle.pm_prefix.proofs.Feeding.{shaped}
use Rattle.pm_prefix.proofs.units.Prefix.add_bases.Goals as goal

pub add_base-requires : goal.add_base-requires
add_base-requires c =
    let p = c.args.self.now in
    let all = base_count-first (whole p) p.n in
    expects_base (hierarchy_by p) (shaped p c.requires.prefix) c.loop-f.f c.loop-f.invariant
    (omega arith)

pub unreachable-requires : goal.unreachable-requires
unreachable-requires c =
    let p = c.args.self.now in
    let all = base_count-first (whole p) p.n in
    base_passes (hierarchy_by p) (shaped p c.requires.prefix) c.loop-f.f c.loop-f.invariant
    (omega arith)
    (c.base.ensures ∙ sym (base_at-first (whole p) p.n c.loop-f.f no_face_corners (omega arith)))
    c.in_default.ensures.fault

pub loop-f-preserved : goal.loop-f-preserved
loop-f-preserved c =
    let p = c.args.self.now in
    let all = base_count-first (whole p) p.n in
    c.in-Ok.ensures.taken
    ∙ base_taken (hierarchy_by p) (shaped p c.requires.prefix) c.loop-f.f c.loop-f.invariant
    (omega arith)
    (c.base.ensures ∙ sym (base_at-first (whole p) p.n c.loop-f.f no_face_corners (omega arith)))

pub returns : goal.returns
returns c =
    let p = c.args.self.now in
    let all = base_count-first (whole p) p.n in
    let end : c.loop-f.f ≡ length (hierarchy_by p).bases = omega arith in
    rw end at c.loop-f.invariant
