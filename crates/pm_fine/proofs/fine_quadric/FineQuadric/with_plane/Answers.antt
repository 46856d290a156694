use Rattle.std.proofs.Common.{◌∷◌, [], ap, arith}
use Rattle.pm_quadric.specs.Sums.{Sums}
use Rattle.pm_fine.proofs.fine_quadric.FineQuadric.with_plane.Goals as goal

pub plus-requires : goal.plus-requires
plus-requires c = omega (arith, c.requires, ap (λ (s : Sums). s.count) c.of_plane.ensures)

pub returns : goal.returns
returns c fs h = c.plus.ensures.lists (c.args.f.now ∷ []) fs c.of_plane.ensures h
