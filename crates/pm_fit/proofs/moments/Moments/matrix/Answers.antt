use Rattle.std.proofs.Common.{◌^◌, refl, lit<}
use Rattle.pm_fine.specs.declared.matrix.Matrix.{Matrix}
use Rattle.pm_fit.specs.Fit.{matrix_of}
use Rattle.pm_fit.proofs.ReadLaws.{read_as}
use Rattle.pm_fit.proofs.moments.Moments.matrix.Goals as goal

pub returns-clause-value : goal.returns-clause-value
unfolding matrix_of
returns-clause-value c =
    let k : Matrix = matrix_of c.args.self.now in
    let xx = read_as (2 ^ 120) _ k.xx (lit< tt) c.spread.ensures.small c.spread.ensures.value in
    let xy = read_as (2 ^ 120) _ k.xy (lit< tt) c.spread-2.ensures.small c.spread-2.ensures.value in
    let xz = read_as (2 ^ 120) _ k.xz (lit< tt) c.spread-3.ensures.small c.spread-3.ensures.value in
    let yy = read_as (2 ^ 120) _ k.yy (lit< tt) c.spread-4.ensures.small c.spread-4.ensures.value in
    let yz = read_as (2 ^ 120) _ k.yz (lit< tt) c.spread-5.ensures.small c.spread-5.ensures.value in
    let zz = read_as (2 ^ 120) _ k.zz (lit< tt) c.spread-6.ensures.small c.spread-6.ensures.value in
    rw (xx, xy, xz, yy, yz, zz) refl
