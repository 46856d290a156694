-- What stands at the answers of readers.
use Rattle.std.proofs.Common.{◌≡◌, ◌↔◌, ℕ, true, List, Option, Some, None, refl, sym, ap, subst}
use Rattle.std.specs.Prelude.{option_map, IfSome, is_some}
use Rattle.pm_base.specs.declared.ids.Side.{Side}
use Rattle.pm_base.specs.Sides.{Net, Stands}
use Rattle.pm_links.specs.Lists.{has, first_of, after}
use Rattle.pm_links.proofs.Walking.{held_first, held_next}
use Rattle.pm_shrink.specs.Shrinking.{AreCornersAt}
use Rattle.std.proofs.lemmas.Bool.{false≢true}

if_number : (o : Option Side) (t : Option ℕ) (P : ℕ → Type 0) → option_map (λ c. c.0) o ≡ t
    → IfSome t P → IfSome o (λ (c : Side). P c.0)
if_number None t P is held = tt
if_number (Some c) t P is held = subst (λ (k : Option ℕ). IfSome k P) (sym is) held

if_held : (m : Net) (v : ℕ) (xs : List ℕ) → AreCornersAt m v xs → (t : Option ℕ)
    → IfSome t (λ e. has xs e ≡ true) → IfSome t (λ e. Stands m e × (m.from e ≡ v))
if_held m v xs are None held = tt
if_held m v xs are (Some e) held = (are.each e).0 held

pub first_stands : (m : Net) (v : ℕ) (xs : List ℕ) → AreCornersAt m v xs → (o : Option Side)
    → option_map (λ c. c.0) o ≡ first_of xs → IfSome o (λ c. Stands m c.0 × (m.from c.0 ≡ v))
first_stands m v xs are o is =
    if_number o (first_of xs) (λ e. Stands m e × (m.from e ≡ v)) is
    (if_held m v xs are (first_of xs) (held_first xs))

pub next_stands : (m : Net) (v x : ℕ) (xs : List ℕ) → AreCornersAt m v xs → (o : Option Side)
    → option_map (λ c. c.0) o ≡ first_of (after x xs)
    → IfSome o (λ c. Stands m c.0 × (m.from c.0 ≡ v))
next_stands m v x xs are o is =
    if_number o (first_of (after x xs)) (λ e. Stands m e × (m.from e ≡ v)) is
    (if_held m v xs are (first_of (after x xs)) (held_next x xs))

-- A side stands exactly where it is in the list of some vertex.
pub held_stands : (m : Net) (fan : ℕ → List ℕ) (e : ℕ) → ((v : ℕ) → AreCornersAt m v (fan v))
    → (head : Option ℕ) → ((v : ℕ) → (head ≡ Some v) ↔ (has (fan v) e ≡ true))
    → (is_some head ≡ true) ↔ Stands m e
held_stands m fan e are None at = (
  λ some. absurd (false≢true some),
  λ st. ap is_some ((at (m.from e)).1 (((are (m.from e)).each e).1 (st, refl))),
)
held_stands m fan e are (Some v) at = (λ some. (((are v).each e).0 ((at v).0 refl)).0, λ st. refl)
