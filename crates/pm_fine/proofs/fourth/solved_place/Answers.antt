use Rattle.std.proofs.Common.{◌≡◌, true, ◌-◌, ◌^◌, FitsSigned, rules}
use mir.Syntax.{w128}
use Rattle.std.proofs.lemmas.Int.{to_z-of_z}
use Rattle.pm_base.specs.Place.{Place}
use Rattle.pm_fine.specs.declared.matrix.Matrix.{Matrix}
use Rattle.pm_fine.specs.declared.matrix.Vector.{Vector}
use Rattle.pm_fine.specs.Fourth.{is_within, quotients_place}
use Rattle.pm_fine.proofs.FourthPlaces.{solved_is}
use Rattle.pm_fine.proofs.fourth.solved_place.Goals as goal

pub cofactors-cofactors-requires : goal.cofactors-cofactors-requires
cofactors-cofactors-requires c = c.requires.matrix

pub determinant-det-requires : goal.determinant-det-requires
determinant-det-requires c = record {
  own = c.requires.matrix;
  cofactors = c.cofactors-cofactors.ensures.value;
  small = c.cofactors-cofactors.ensures.small;
}

pub times-n-requires : goal.times-n-requires
times-n-requires c =
    record { own = c.cofactors-cofactors.ensures.small; vector = c.reversed.ensures.small }

pub returns : goal.returns
returns c =
    let g : Vector = c.args.g.now in
    let m : Place = c.args.m in
    let n : Vector = c.times-n.result in
    let det = c.determinant-det.result in
    let k : Matrix = c.cofactors-cofactors.result in
    let o = c.quotients_place.result in
    let fits : FitsSigned w128 det = search rules in
    let test : is_within (2 ^ 52 - 1) g ≡ true = search rules in
    let eo : o ≡ quotients_place m c.args.reach n det =
    rw (← to_z-of_z w128 det fits) c.quotients_place.ensures in
    solved_is m c.args.reach c.args.a.now k g c.reversed.result n det o test
    c.cofactors-cofactors.ensures.value c.reversed.ensures.value c.times-n.ensures
    c.determinant-det.ensures.value eo
