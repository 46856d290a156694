-- The three directed sides of a face, and what stands across a side.
use Rattle.std.proofs.Common.{◌≡◌, ℕ, Option, Some, None, ap, subst, arith}
use Rattle.std.proofs.lemmas.Grind.{common_steps}
use Rattle.pm_base.specs.Sides.{Net, next, third, Stands, NoSideTwice, twin_of}
use Rattle.pm_base.proofs.Sides.{next-next-next, stands_next}
use Rattle.pm_base.proofs.TwinLaws.{twin-is, twin-one, twin-none, none-twin}
use Rattle.pm_runs.specs.Pairs.{Runs}
use Rattle.pm_runs.specs.Merged.{StandsAcross}

pub stands_back : (m : Net) (e : ℕ) → Stands m (next e) → Stands m e
stands_back m e st =
    subst (Stands m) (next-next-next e) (stands_next m (next (next e)) (stands_next m (next e) st))

pub runs_next : (m : Net) (e p q w : ℕ) → Runs m e p q → third m e ≡ w → Runs m (next e) q w
runs_next m e p q w r is = record { stands = stands_next m e r.stands; begins = r.ends; ends = is }

pub third_next : (m : Net) (e : ℕ) → third m (next e) ≡ m.from e
third_next m e = ap m.from (next-next-next e)

pub runs_last : (m : Net) (e p q w : ℕ) → Runs m e p q → third m e ≡ w → Runs m (next (next e)) w p
runs_last m e p q w r is = grind (arith, common_steps, next-next-next, stands_next)

pub twin-across : (m : Net) (e : ℕ) (r : Option ℕ) → twin_of m e ≡ r → StandsAcross m e r
twin-across m e None n = twin-none m e n
twin-across m e (Some g) is = twin-is m e g is

pub across-twin : (m : Net) → NoSideTwice m → (e : ℕ) (r : Option ℕ) → StandsAcross m e r
    → twin_of m e ≡ r
across-twin m once e None alone = none-twin m e alone
across-twin m once e (Some g) w = twin-one m once e g w
