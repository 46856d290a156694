use Rattle.std.proofs.Common.{◌∙◌, ap}
use Rattle.pm_prefix.specs.Prefix.{face_in, base_in}
use Rattle.pm_prefix.specs.Tables.{whole}
use Rattle.pm_prefix.proofs.PrefixLaws.{base_corners}
use Rattle.pm_prefix.proofs.units.Prefix.base.Goals as goal

pub face-requires-clause-corners : goal.face-requires-clause-corners
face-requires-clause-corners c =
    (base_corners c.args.self.now c.requires.prefix c.args.f c.requires.inside
    c.bases.ensures.value c.get.ensures).0

pub returns : goal.returns
unfolding base_in
returns c =
    c.face.ensures
    ∙ ap (face_in (whole c.args.self.now) c.args.self.now.n c.args.f)
    (base_corners c.args.self.now c.requires.prefix c.args.f c.requires.inside
    c.bases.ensures.value c.get.ensures).1
