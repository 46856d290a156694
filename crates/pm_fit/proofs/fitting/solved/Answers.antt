use Rattle.std.proofs.Common.{◌≡◌, true, ◌-◌, ◌^◌, ◌&&◌, to_z, of_z, ap, ◌∙◌, lit<, rules}
use mir.Syntax.{w128}
use Rattle.std.specs.Prelude.{ℤ}
use Rattle.pm_fine.specs.declared.matrix.Matrix.{Matrix}
use Rattle.pm_fine.specs.declared.matrix.Vector.{Vector}
use Rattle.pm_fine.specs.Fourth.{times_of, cofactors_of, determinant_of, is_within}
use Rattle.pm_fit.specs.declared.moments.Moments.{Moments}
use Rattle.pm_fit.specs.declared.moments.Spot.{Spot}
use Rattle.pm_fit.specs.Fit.{is_matrix_within, risen, solved}
use Rattle.pm_fit.proofs.ReadLaws.{read_as}
use Rattle.pm_fit.proofs.fitting.solved.Goals as goal

pub returns-clause-value : goal.returns-clause-value
unfolding solved
returns-clause-value c =
    let m : Moments = c.args.m.now in
    let p : Spot = c.args.place.now in
    let a : Matrix = c.args.a.now in
    let g : Vector = c.args.g.now in
    let test : (is_matrix_within (2 ^ 33) a && is_within (2 ^ 52 - 1) g) ≡ true = search rules in
    let det : to_z w128 (of_z w128 c.determinant-det.result) ≡ determinant_of a = search rules in
    let num : c.times.result ≡ times_of (cofactors_of a) g =
    c.times.ensures ∙ ap (λ (k : Matrix). times_of k g) c.cofactors-cofactors.ensures.value in
    rw test
    (read_as (2 ^ 70) _ _ (lit< tt) c.risen.ensures.small
    (c.risen.ensures.value
    ∙ (ap (λ (n : Vector). risen m p n (to_z w128 (of_z w128 c.determinant-det.result))) num
    ∙ ap (λ (d : ℤ). risen m p (times_of (cofactors_of a) g) d) det)))
