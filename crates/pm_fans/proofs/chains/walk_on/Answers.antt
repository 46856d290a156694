use Rattle.std.proofs.Common.{◌≡◌, ◌<◌, ◌∙◌, ℕ, Some, List, Option, length, slice_set, sym, ap}
use Rattle.std.proofs.Common.{subst, arith}
use Rattle.std.specs.Option.{option_map}
use Rattle.pm_base.specs.declared.ids.Side.{Side}
use Rattle.pm_base.specs.Sides.{prev, beside_side}
use Rattle.pm_fans.proofs.ChainLaws.{bare_count, bare-set, prev_in}
use Rattle.pm_fans.proofs.OpenWalks.{WalksOn, on_begins, on_more}
use Rattle.pm_fans.proofs.chains.walk_on.Goals as goal

abbrev number : Option Side → Option ℕ
number r = option_map (λ s. s.0) r

pub loop-reached-init : goal.loop-reached-init
loop-reached-init c =
    on_begins c.args.glued.now c.args.heads.now c.args.first.0 c.requires.headed c.requires.in_range
    c.requires.not_glued c.requires.new c.requires.paired

pub set-requires-clause-there : goal.set-requires-clause-there
set-requires-clause-there c =
    let w = c.loop-reached.invariant in
    let f = w.free c.in-Some.side.0 (ap number c.in-Some.is) in
    omega (arith, w.long, f.in_range)

pub set-requires-clause-small : goal.set-requires-clause-small
set-requires-clause-small c =
    omega (arith, c.requires.in_range, c.requires.paired.sides, c.requires.paired.short)

pub prev-requires : goal.prev-requires
prev-requires c =
    let f = c.loop-reached.invariant.free c.in-Some.side.0 (ap number c.in-Some.is) in
    omega (arith, f.in_range, c.requires.paired.sides, c.requires.paired.short)

pub get-reached-requires : goal.get-reached-requires
get-reached-requires c =
    let f = c.loop-reached.invariant.free c.in-Some.side.0 (ap number c.in-Some.is) in
    subst (λ n. n < length c.args.glued.now) (sym c.prev.ensures.value)
    (prev_in c.args.glued.now c.requires.paired c.in-Some.side.0 f.in_range)

pub loop-reached-smaller : goal.loop-reached-smaller
loop-reached-smaller c =
    let w = c.loop-reached.invariant in
    let heads : List (Option ℕ) = c.loop-reached.heads in
    let f = w.free c.in-Some.side.0 (ap number c.in-Some.is) in
    subst (λ (hs : List (Option ℕ)). bare_count hs < bare_count heads) (sym c.set.ensures)
    (bare-set heads c.in-Some.side.0 c.args.first.0
    (subst (λ n. c.in-Some.side.0 < n) (sym w.long) f.in_range) f.bare)

pub loop-reached-preserved : goal.loop-reached-preserved
loop-reached-preserved c =
    let glued : List (Option ℕ) = c.args.glued.now in
    let old : List (Option ℕ) = c.args.heads.now in
    let heads : List (Option ℕ) = c.loop-reached.heads in
    let first = c.args.first.0 in
    let w : WalksOn glued old heads first (Some c.in-Some.side.0) =
    subst (WalksOn glued old heads first) (ap number c.in-Some.is) c.loop-reached.invariant in
    let next : number c.get-reached.result ≡ beside_side glued (prev c.in-Some.side.0) =
    c.get-reached.ensures ∙ ap (beside_side glued) c.prev.ensures.value in
    subst (λ (hs : List (Option ℕ)). WalksOn glued old hs first (number c.get-reached.result))
    (sym c.set.ensures)
    (subst (WalksOn glued old (slice_set heads c.in-Some.side.0 (Some first)) first) (sym next)
    (on_more glued old heads first c.in-Some.side.0 c.requires.paired c.requires.not_glued w))
