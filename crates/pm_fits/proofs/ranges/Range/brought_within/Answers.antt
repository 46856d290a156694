use Rattle.std.proofs.Common.{◌≡◌, FitsSigned, w32, to_z, of_z, refl, ◌∙◌, rules}
use mir.Syntax.{w128}
use Rattle.std.proofs.lemmas.Int.{to_z-of_z}
use Rattle.std.specs.Int.{int_min}
use Rattle.pm_fits.specs.declared.ranges.Range.{Range}
use Rattle.pm_fits.specs.Fits.{brought_within}
use Rattle.pm_fits.proofs.ClampLaws.{brought_fits}
use Rattle.pm_fits.proofs.ranges.Range.brought_within.Goals as goal

pub returns : goal.returns
returns c =
    let r : Range = c.args.self.now in
    let n = c.args.n in
    let least : FitsSigned w32 r.least = search rules in
    let greatest : FitsSigned w32 r.greatest = search rules in
    let low_read : to_z w128 (of_z w128 c.from.result) ≡ c.from.result = search rules in
    let high_read : to_z w128 (of_z w128 c.from-2.result) ≡ c.from-2.result = search rules in
    let min_read : to_z w128 (of_z w128 c.min.result) ≡ c.min.result = search rules in
    let max_read : to_z w128 (of_z w128 c.max.result) ≡ c.max.result = search rules in
    let n_read : to_z w128 (of_z w128 n) ≡ n = search rules in
    let low : to_z w128 (of_z w128 c.from.result) ≡ r.least =
    low_read ∙ (c.from.ensures ∙ to_z-of_z w32 r.least least) in
    let high : to_z w128 (of_z w128 c.from-2.result) ≡ r.greatest =
    high_read ∙ (c.from-2.ensures ∙ to_z-of_z w32 r.greatest greatest) in
    let min : to_z w128 (of_z w128 c.min.result) ≡ int_min r.greatest n =
    min_read ∙ (c.min.ensures.value ∙ rw (high, n_read) refl) in
    let max : to_z w128 (of_z w128 c.max.result) ≡ brought_within r n =
    max_read ∙ (c.max.ensures.value ∙ rw (low, min) refl) in
    rw max (to_z-of_z w32 (brought_within r n)
    (brought_fits w32 r.least r.greatest n least greatest))
