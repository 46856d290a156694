use Rattle.std.proofs.Common.{◌≡◌, true, FitsSigned, ◌∙◌, ap, rules}
use Rattle.std.specs.Prelude.{ℤ, pos, ◌-ℤ◌, ◌*ℤ◌, int_le, int_lt}
use Rattle.std.proofs.lemmas.Int.{to_z-of_z}
use mir.Syntax.{w128}
use Rattle.pm_fine.proofs.QuotientLaws.{quotient_only}
use Rattle.pm_fine.proofs.rounding.divided.Goals as goal

pub returns-then-rest-from : goal.returns-then-rest-from
returns-then-rest-from c =
    let fa = c.ranges.a in
    let fb = c.ranges.b in
    let fg = c.ranges.guess in
    let p = c.product.result in
    let r = c.rest-rest.result in
    let fp : FitsSigned w128 p = search rules in
    let fr : FitsSigned w128 r = search rules in
    let ep : p ≡ c.args.guess *ℤ c.args.b = simp to_z-of_z at c.product.ensures.value in
    let er : r ≡ c.args.a -ℤ p = simp to_z-of_z at c.rest-rest.ensures in
    let low : int_le (pos 0) r ≡ true = search rules in
    let high : int_lt r c.args.b ≡ true = search rules in
    simp to_z-of_z (quotient_only c.args.a c.args.guess c.args.b r
    (er ∙ ap (λ (k : ℤ). c.args.a -ℤ k) ep) c.requires low high)
