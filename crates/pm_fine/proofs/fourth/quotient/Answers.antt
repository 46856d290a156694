use Rattle.std.proofs.Common.{◌≡◌, ◌≤◌, ◌+◌, ◌*◌, ℤ, unsigned_abs, w32, w64, FitsSigned}
use Rattle.std.proofs.Common.{ap, ◌∙◌, arith, rules}
use mir.Syntax.{w128}
use Rattle.std.specs.Int.{int_shr}
use Rattle.std.proofs.lemmas.Int.{fits_signed_from_abs, to_z-of_z}
use Rattle.pm_fine.specs.Rounded.{near}
use Rattle.pm_fine.proofs.fourth.quotient.Goals as goal

pub near-requires-clause-a_small : goal.near-requires-clause-a_small
near-requires-clause-a_small c =
    let fa = c.ranges.a in
    let r = c.short.result in
    let s : unsigned_abs r ≤ 262137 * (c.args.divisor + 1) =
    c.short.ensures.within (262137 * (c.args.divisor + 1)) (simp to_z-of_z c.requires.a_small) in
    let fw : FitsSigned w128 r = search rules in
    let fs : FitsSigned w64 r = fits_signed_from_abs w64 r (omega (arith, s, c.requires.kept)) in
    simp to_z-of_z (omega (arith, s, c.requires.kept))

pub overflow_cast-result : goal.overflow_cast-result
overflow_cast-result c =
    let fa = c.ranges.a in
    let r = c.short.result in
    let s : unsigned_abs r ≤ 262137 * (c.args.divisor + 1) =
    c.short.ensures.within (262137 * (c.args.divisor + 1)) (simp to_z-of_z c.requires.a_small) in
    let fw : FitsSigned w128 r = search rules in
    let fs : FitsSigned w64 r = fits_signed_from_abs w64 r (omega (arith, s, c.requires.kept)) in
    let q = c.near.result in
    let fq : FitsSigned w64 q = search rules in
    let n : unsigned_abs q ≤ 524274 =
    c.near.ensures.within 524274 (simp to_z-of_z (omega (arith, s, c.requires.some))) in
    rw (to_z-of_z w64 q fq) (fits_signed_from_abs w32 q (omega (arith, n)))

pub returns-clause-small : goal.returns-clause-small
returns-clause-small c =
    let fa = c.ranges.a in
    let r = c.short.result in
    let s : unsigned_abs r ≤ 262137 * (c.args.divisor + 1) =
    c.short.ensures.within (262137 * (c.args.divisor + 1)) (simp to_z-of_z c.requires.a_small) in
    let fw : FitsSigned w128 r = search rules in
    let fs : FitsSigned w64 r = fits_signed_from_abs w64 r (omega (arith, s, c.requires.kept)) in
    let q = c.near.result in
    let fq : FitsSigned w64 q = search rules in
    let n : unsigned_abs q ≤ 524274 =
    c.near.ensures.within 524274 (simp to_z-of_z (omega (arith, s, c.requires.some))) in
    let f : FitsSigned w32 q = fits_signed_from_abs w32 q (omega (arith, n)) in
    rw (to_z-of_z w64 q fq, to_z-of_z w32 q f) (omega (arith, n))

pub returns-clause-value : goal.returns-clause-value
returns-clause-value c =
    let fa = c.ranges.a in
    let r = c.short.result in
    let s : unsigned_abs r ≤ 262137 * (c.args.divisor + 1) =
    c.short.ensures.within (262137 * (c.args.divisor + 1)) (simp to_z-of_z c.requires.a_small) in
    let fw : FitsSigned w128 r = search rules in
    let fs : FitsSigned w64 r = fits_signed_from_abs w64 r (omega (arith, s, c.requires.kept)) in
    let q = c.near.result in
    let fq : FitsSigned w64 q = search rules in
    let n : unsigned_abs q ≤ 524274 =
    c.near.ensures.within 524274 (simp to_z-of_z (omega (arith, s, c.requires.some))) in
    let f : FitsSigned w32 q = fits_signed_from_abs w32 q (omega (arith, n)) in
    let e : q ≡ near r c.args.divisor = simp to_z-of_z at c.near.ensures.value in
    let es : r ≡ int_shr c.args.a c.args.digits = simp to_z-of_z at c.short.ensures.value in
    rw (to_z-of_z w64 q fq, to_z-of_z w32 q f) (e ∙ ap (λ (v : ℤ). near v c.args.divisor) es)
