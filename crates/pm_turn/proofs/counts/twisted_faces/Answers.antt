use Rattle.std.proofs.Common.{◌≡◌, ℕ, Bool, length, refl, ap, ◌∙◌, arith}
use Rattle.pm_base.specs.Counts.{count}
use Rattle.pm_base.specs.Sides.{net_of}
use Rattle.pm_turn.specs.Turning.{flag_of}
use Rattle.pm_turn.specs.Sums.{root_at, parity_at}
use Rattle.pm_turn.proofs.Summing.{counted_more, counted_low}
use Rattle.pm_turn.proofs.Telling.{twisted_counted}
use Rattle.pm_turn.proofs.counts.twisted_faces.Goals as goal

pub plus-twisted-requires : goal.plus-twisted-requires
plus-twisted-requires c =
    let low = counted_low (λ f. flag_of c.args.odd.now (root_at c.args.roots.now f))
    c.loop-face.face c.loop-face.twisted c.loop-face.invariant in
    omega (arith, low, c.loop-face-test.true, c.loop-face.auto.face-end, c.requires.short)

pub loop-face-preserved : goal.loop-face-preserved
loop-face-preserved c =
    let test : ℕ → Bool = λ f. flag_of c.args.odd.now (root_at c.args.roots.now f) in
    counted_more test c.loop-face.face c.loop-face.twisted c.plus-twisted.result
    (test c.loop-face.face) c.loop-face.invariant refl c.plus-twisted.ensures

pub returns : goal.returns
returns c =
    let test : ℕ → Bool = λ f. flag_of c.args.odd.now (root_at c.args.roots.now f) in
    let end : c.loop-face.face ≡ length c.args.faces.now =
    omega (arith, c.loop-face-test.false, c.loop-face.auto.face-end) in
    twisted_counted (net_of c.args.faces.now) (root_at c.args.roots.now)
    (parity_at c.args.roots.now) (flag_of c.args.odd.now) c.requires.traced c.loop-face.twisted
    (c.loop-face.invariant ∙ ap (count test) end)
