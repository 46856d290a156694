use Rattle.std.proofs.Common.{◌≡◌, ◌≤◌, ◌^◌, w32, to_z, of_z, refl, subst, ◌∙◌, lit<, rules, arith}
use mir.Syntax.{w128}
use Rattle.std.specs.Prelude.{ℤ, pos, ◌-ℤ◌, unsigned_abs}
use borrow.Author.Differences.{ints}
use Rattle.pm_base.proofs.ReadBack.{read_is}
use Rattle.pm_fit.specs.Fit.{fit_of}
use Rattle.pm_fits.specs.Fits.{moments_of, spot_of, fit_under}
use Rattle.pm_fits.proofs.fits.node_fit.Goals as goal

less_small : (z : ℤ) → unsigned_abs z ≤ 2 ^ 70 → unsigned_abs (z -ℤ pos 2097152) ≤ 2 ^ 71
less_small z l = omega (arith, ints)

pub returns : goal.returns
unfolding fit_under
returns c = λ ns are range.
    (let h = c.args.h.now in
    let v = c.args.node.0 in
    let best = fit_of (moments_of h ns v) (spot_of h v) in
    let fit : c.fit.result ≡ best =
    c.fit.ensures.value ∙ rw (c.moments-moments.ensures.value ns are, c.spot.ensures.value) refl in
    let small : unsigned_abs best ≤ 2 ^ 70 =
    subst (λ (z : ℤ). unsigned_abs z ≤ 2 ^ 70) fit c.fit.ensures.small in
    let wide : to_z w128 (of_z w128 c.fit.result) ≡ best =
    read_is w128 c.fit.result (2 ^ 70) c.fit.ensures.small (lit< tt) ∙ fit in
    let less : to_z w128 (of_z w128 (best -ℤ pos 2097152)) ≡ best -ℤ pos 2097152 =
    read_is w128 (best -ℤ pos 2097152) (2 ^ 71) (less_small best small) (lit< tt) in
    let read : to_z w32 (of_z w32 c.brought_within.result) ≡ c.brought_within.result =
    search rules in
    read ∙ (c.brought_within.ensures ∙ rw (wide, less, range) refl))
