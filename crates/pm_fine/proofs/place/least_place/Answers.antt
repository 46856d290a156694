use Rattle.std.proofs.Common.{◌∷◌, sym, subst}
use Rattle.pm_base.specs.Place.{Place}
use Rattle.pm_quadric.specs.Planes.{squares_of}
use Rattle.pm_fine.specs.FinePlaces.{others_of, IsLeastOf}
use Rattle.pm_fine.proofs.LeastLaws.{first_least_is}
use Rattle.pm_fine.proofs.place.least_place.Goals as goal

pub returns-clause-least : goal.returns-clause-least
returns-clause-least c fs s =
    subst (λ (p : Place). IsLeastOf (squares_of fs) p
    (c.args.t ∷ others_of c.args.t c.args.u c.args.fourth))
    (sym (c.first_least.ensures.place fs s))
    (first_least_is (squares_of fs) c.args.t (others_of c.args.t c.args.u c.args.fourth))
