-- What a side at hand tells of the border.
use Rattle.std.proofs.Common.{◌≡◌, ◌↔◌, ℕ, true, false, List, Option, Some, None, inl, inr, refl}
use Rattle.std.proofs.Common.{sym, ap, ◌∙◌}
use Rattle.std.specs.Prelude.{is_none, IfSome}
use Rattle.std.proofs.lemmas.Bool.{false≢true}
use Rattle.pm_base.specs.Sides.{Net, to, Stands, IsBorder, twin_of}
use Rattle.pm_base.proofs.Search.{option_cases}
use Rattle.pm_base.proofs.TwinLaws.{twin-is}
use Rattle.pm_links.specs.Lists.{has}
use Rattle.pm_shrink.specs.Obstacles.{IsBarred}
use Rattle.pm_shrink.specs.Shrinking.{AreCornersAt}
use Rattle.pm_shrink.proofs.FanLaws.{border-test}

pub rim_border : (m : Net) (e v : ℕ) → Stands m e × (m.from e ≡ v) → is_none (twin_of m e) ≡ true
    → IsBorder m v
rim_border m e v at none = (e, border-test m e at.0 none, inl at.1)

pub side_barred : (m : Net) (e : ℕ) → Stands m e → is_none (twin_of m e) ≡ false
    → IsBorder m (m.from e) → IsBorder m (to m e) → IsBarred m (m.from e) (to m e)
side_barred m e st some first second =
    elim (option_cases (twin_of m e)) [
      | inl none ↦ absurd (false≢true (sym some ∙ ap is_none none))
      | inr (g, is) ↦
          let w = twin-is m e g is in
          record {
            first = first;
            second = second;
            forth = (e, record { stands = st; begins = refl; ends = refl });
            back = (g, record { stands = w.stands; begins = w.begins; ends = w.ends });
          }
    ]

-- A number in the list of a vertex is that of a corner there.
pub held_at : (m : Net) (fan : ℕ → List ℕ) (e : ℕ) → ((v : ℕ) → AreCornersAt m v (fan v))
    → (head : Option ℕ) → ((v : ℕ) → (head ≡ Some v) ↔ (has (fan v) e ≡ true))
    → IfSome head (λ v. Stands m e × (m.from e ≡ v))
held_at m fan e are None at = tt
held_at m fan e are (Some v) at = ((are v).each e).0 ((at v).0 refl)
