use Rattle.std.proofs.Common.{◌∙◌, ◌^◌, refl, lit<}
use mir.Syntax.{w128}
use Rattle.std.specs.Prelude.{◌+ℤ◌}
use Rattle.pm_base.proofs.ReadBack.{read_is}
use Rattle.pm_fine.specs.declared.matrix.Matrix.{Matrix}
use Rattle.pm_fit.specs.Fit.{ridged, ridge_of}
use Rattle.pm_fit.proofs.ReadLaws.{read_as}
use Rattle.pm_fit.proofs.fitting.with_ridge.Goals as goal

pub returns : goal.returns
unfolding ridged
returns c =
    let a : Matrix = c.args.a.now in
    let r = ridge_of a in
    let ridge =
    read_as (2 ^ 122) _ r (lit< tt) c.ridge-ridge.ensures.small c.ridge-ridge.ensures.value in
    let rxx = read_is w128 a.xx (2 ^ 120) c.requires.0 (lit< tt) in
    let rxy = read_is w128 a.xy (2 ^ 120) c.requires.1 (lit< tt) in
    let rxz = read_is w128 a.xz (2 ^ 120) c.requires.2 (lit< tt) in
    let ryy = read_is w128 a.yy (2 ^ 120) c.requires.3 (lit< tt) in
    let ryz = read_is w128 a.yz (2 ^ 120) c.requires.4 (lit< tt) in
    let rzz = read_is w128 a.zz (2 ^ 120) c.requires.5 (lit< tt) in
    let xx = read_as (2 ^ 123) _ (a.xx +ℤ r) (lit< tt) c.plus.ensures.small
    (c.plus.ensures.value ∙ rw (rxx, ridge) refl) in
    let yy = read_as (2 ^ 123) _ (a.yy +ℤ r) (lit< tt) c.plus-2.ensures.small
    (c.plus-2.ensures.value ∙ rw (ryy, ridge) refl) in
    let zz = read_as (2 ^ 123) _ (a.zz +ℤ r) (lit< tt) c.plus-3.ensures.small
    (c.plus-3.ensures.value ∙ rw (rzz, ridge) refl) in
    rw (xx, rxy, rxz, yy, ryz, zz) refl
