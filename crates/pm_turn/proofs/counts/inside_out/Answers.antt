use Rattle.std.proofs.Common.{◌≡◌, ℕ, Bool, length, slice_index_or, sym, ap, ◌∙◌, arith}
use Rattle.std.specs.Prelude.{◌==◌}
use Rattle.pm_base.specs.Counts.{count}
use Rattle.pm_base.specs.Sides.{net_of}
use Rattle.pm_turn.specs.Turning.{flag_of}
use Rattle.pm_turn.specs.Sums.{root_at, no_sums}
use Rattle.pm_turn.specs.Told.{is_inward}
use Rattle.pm_turn.proofs.Summing.{counted_more, counted_low}
use Rattle.pm_turn.proofs.Telling.{inward_counted}
use Rattle.pm_turn.proofs.counts.inside_out.Goals as goal

pub plus-inward-requires : goal.plus-inward-requires
plus-inward-requires c =
    let test : ℕ → Bool =
    λ r. is_inward (root_at c.args.roots.now r == r) (flag_of c.args.odd.now r)
    (slice_index_or c.args.sums.now r no_sums) in
    let low = counted_low test c.loop-face.face c.loop-face.inward c.loop-face.invariant in
    omega (arith, low, c.loop-face-test.true, c.loop-face.auto.face-end, c.requires.short)

pub loop-face-preserved : goal.loop-face-preserved
loop-face-preserved c =
    let test : ℕ → Bool =
    λ r. is_inward (root_at c.args.roots.now r == r) (flag_of c.args.odd.now r)
    (slice_index_or c.args.sums.now r no_sums) in
    counted_more test c.loop-face.face c.loop-face.inward c.plus-inward.result c.is_inward.result
    c.loop-face.invariant (sym c.is_inward.ensures) c.plus-inward.ensures

pub returns : goal.returns
returns c =
    let test : ℕ → Bool =
    λ r. is_inward (root_at c.args.roots.now r == r) (flag_of c.args.odd.now r)
    (slice_index_or c.args.sums.now r no_sums) in
    let end : c.loop-face.face ≡ length c.args.faces.now =
    omega (arith, c.loop-face-test.false, c.loop-face.auto.face-end) in
    inward_counted (net_of c.args.faces.now) c.args.places.now c.args.mates.now c.args.roots.now
    (flag_of c.args.odd.now) c.args.sums.now
    c.requires.traced c.requires.mated c.requires.sums c.loop-face.inward (c.loop-face.invariant
    ∙ ap (count test) end)
