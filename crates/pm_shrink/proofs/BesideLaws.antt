-- Steps from one corner to the next round a vertex, across the side between them.
use Rattle.std.proofs.Common.{◌≡◌, ℕ, Option, Some, None, sym, ap, ◌∙◌}
use Rattle.std.specs.Prelude.{option_map, IfSome}
use Rattle.pm_base.specs.declared.ids.Side.{Side}
use Rattle.pm_base.specs.Sides.{Net, next, prev, Stands, IsTwin, twin_of}
use Rattle.pm_base.proofs.TwinLaws.{twin-is}
use Rattle.pm_base.proofs.Sides.{next-next-next, stands_next}
use Rattle.pm_runs.specs.Surfaces.{Surface, net_of_surface}
use Rattle.pm_runs.specs.Pairs.{IsPair}
use Rattle.pm_base.specs.Place.{Place}
use Rattle.pm_shrink.specs.Obstacles.{TurnsOver}
use Rattle.pm_shrink.specs.Walks.{TurnsAt}
use Rattle.pm_shrink.proofs.ObstacleLaws.{turns_here}

pub twin_told : (m : Net) (e : ℕ) (r : Option Side) → option_map (λ s. s.0) r ≡ twin_of m e
    → IfSome r (λ s. IsTwin m e s.0)
twin_told m e None is = tt
twin_told m e (Some s) is = twin-is m e s.0 (sym is)

pub left_corner : (m : Net) (e : ℕ) (r : Option Side) → IfSome r (λ g. IsTwin m (prev e) g.0)
    → IfSome r (λ g. Stands m g.0 × (m.from g.0 ≡ m.from e))
left_corner m e None found = tt
left_corner m e (Some g) found = (found.stands, found.begins ∙ ap m.from (next-next-next e))

pub right_corner : (m : Net) (e g : ℕ) → IsTwin m e g
    → Stands m (next g) × (m.from (next g) ≡ m.from e)
right_corner m e g w = (stands_next m g w.stands, w.ends)

pub turns_found : (s : Surface) (a b p q : ℕ) (place : Place) → IsPair a b p q → (r : Option Side) →
    IfSome r (λ e. Stands (net_of_surface s) e.0 × ((net_of_surface s).from e.0 ≡ p)
    × TurnsAt s q place e.0) →
    IfSome r (λ e. TurnsOver s a b place e.0)
turns_found s a b p q place pair None found = tt
turns_found s a b p q place pair (Some e) found =
    turns_here s a b p q place pair e.0 found
