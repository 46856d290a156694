-- A front of a firm hierarchy shows an oriented manifold.
use Rattle.std.proofs.Common.{◌≡◌, subst}
use Rattle.pm_base.specs.Counts.{set_of}
use Rattle.pm_firm.specs.Firm.{IsSurfaceShown, IsFirm}
use Rattle.pm_firm.proofs.FirmFronts.{firm_fronts}
use Rattle.pm_front.specs.State.{State, IsSoundFront}

pub shows_surface : (s : State) → IsSoundFront s.h s.flags → IsFirm s.h
    → IsSurfaceShown s.h (set_of s.flags)
shows_surface s sound firm = firm_fronts s.h firm (set_of s.flags) sound.closed

-- Of a front as contracts see it, which is as its type has it.
pub shows_viewed : (inside seen : State) → inside ≡ seen → IsSoundFront inside.h inside.flags
    → IsFirm seen.h → IsSurfaceShown seen.h (set_of seen.flags)
shows_viewed inside seen is sound =
    shows_surface seen (subst (λ (s : State). IsSoundFront s.h s.flags) is sound)
