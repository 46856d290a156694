use Rattle.std.proofs.Common.{◌≡◌, ◌∙◌, ◌↔◌, ℕ, true, Some, sym, subst}
use Rattle.pm_links.specs.Lists.{has}
use Rattle.pm_shrink.specs.Shrinking.{Shrinking, net_at, fan_at, AreCornersAt}
use Rattle.pm_shrink.proofs.ReaderLaws.{held_stands}
use Rattle.pm_shrink.proofs.shrink.Shrink.is_there.Goals as goal

pub returns : goal.returns
returns c =
    let heads = subst (λ (s : Shrinking). (v : ℕ) → (c.head_of.result ≡ Some v)
    ↔ (has (fan_at s v) c.args.side.0 ≡ true)) c.self.view_is c.head_of.ensures.value in
    let at = held_stands (net_at c.args.self.now) (fan_at c.args.self.now) c.args.side.0
    (subst (λ (s : Shrinking). (v : ℕ) → AreCornersAt (net_at s) v (fan_at s v)) c.self.view_is
    c.self.invariant.kept.corners) c.head_of.result heads in
    (λ yes. at.0 (sym c.is_some.ensures ∙ yes), λ st. c.is_some.ensures ∙ at.1 st)
