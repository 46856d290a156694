use Rattle.std.proofs.Common.{◌∙◌, ap, refl, arith}
use Rattle.std.proofs.lemmas.Bool.{eq-eqb}
use Rattle.pm_number.specs.Numbering.{is_gone}
use Rattle.pm_number.proofs.tables.number_gone.Goals as goal

pub index_mut-requires : goal.index_mut-requires
index_mut-requires c =
    let f = c.in-Some.gone.face.0 in
    let inside = c.requires.inside f (ap (is_gone f) c.in-Some.is ∙ eq-eqb f f refl) in
    omega arith
