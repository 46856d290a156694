use Rattle.std.proofs.Common.{◌≡◌, ◌<◌, ℕ, Some, None, List, Option, length, slice_set, sym, ap}
use Rattle.std.proofs.Common.{◌∙◌, subst, arith}
use Rattle.std.specs.Option.{option_map}
use Rattle.pm_base.specs.declared.ids.Side.{Side}
use Rattle.pm_base.specs.Sides.{beside_side}
use Rattle.pm_fans.proofs.ChainLaws.{bare_count, bare-set}
use Rattle.pm_fans.proofs.ClosedWalks.{WalksBack, back_more}
use Rattle.pm_fans.proofs.chains.walk_back.Goals as goal

abbrev number : Option Side → Option ℕ
number r = option_map (λ s. s.0) r

pub next-side-requires : goal.next-side-requires
next-side-requires c =
    let p = c.requires.paired in
    let pair = sym c.get-in-loop-twin.ensures ∙ ap number c.in-None-Some.is-1 in
    omega (arith, (p.back c.loop-twin.side.0 c.in-None-Some.twin.0 pair).0, p.sides, p.short)

pub loop-twin-smaller : goal.loop-twin-smaller
loop-twin-smaller c =
    let w = c.loop-twin.invariant in
    let heads : List (Option ℕ) = c.loop-twin.heads in
    let low : c.loop-twin.side.0 < length heads =
    subst (λ n. c.loop-twin.side.0 < n) (sym w.long) w.in_range in
    let bare : beside_side heads c.loop-twin.side.0 ≡ None =
    sym c.get.ensures ∙ ap number c.in-None-Some.is-0 in
    subst (λ (hs : List (Option ℕ)). bare_count hs < bare_count heads) (sym c.set.ensures)
    (bare-set heads c.loop-twin.side.0 c.args.least.0 low bare)

pub loop-twin-preserved : goal.loop-twin-preserved
loop-twin-preserved c =
    let w = c.loop-twin.invariant in
    let glued : List (Option ℕ) = c.args.glued.now in
    let old : List (Option ℕ) = c.args.heads.now in
    let heads : List (Option ℕ) = c.loop-twin.heads in
    let least = c.args.least.0 in
    let bare : beside_side heads c.loop-twin.side.0 ≡ None =
    sym c.get.ensures ∙ ap number c.in-None-Some.is-0 in
    let pair : beside_side glued c.loop-twin.side.0 ≡ Some c.in-None-Some.twin.0 =
    sym c.get-in-loop-twin.ensures ∙ ap number c.in-None-Some.is-1 in
    subst (λ (hs : List (Option ℕ)). WalksBack glued old hs least c.next-side.result.0)
    (sym c.set.ensures)
    (subst (WalksBack glued old (slice_set heads c.loop-twin.side.0 (Some least)) least)
    (sym c.next-side.ensures.value)
    (back_more glued old heads least c.loop-twin.side.0 c.in-None-Some.twin.0 c.requires.paired
    c.requires.earlier w bare pair))
