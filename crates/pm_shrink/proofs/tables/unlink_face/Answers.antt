use Rattle.std.proofs.Common.{sym, subst, arith}
use Rattle.pm_links.specs.Lists.{IsHeld}
use Rattle.pm_links.proofs.Calls.{after_unlink, held-unlink}
use Rattle.pm_shrink.proofs.tables.unlink_face.Goals as goal

pub unlink-requires : goal.unlink-requires
unlink-requires c =
    subst (IsHeld c.args.corners.now) (omega (arith, c.side.ensures.value)) c.requires.held.0

pub unlink-requires-2 : goal.unlink-requires-2
unlink-requires-2 c =
    let one = after_unlink c.args.corners.now c.unlink.new.self c.side.result.0
    c.unlink.ensures.lists in
    let second = subst (IsHeld c.args.corners.now) (sym c.side-2.ensures.value) c.requires.held.1 in
    held-unlink one c.side-2.result.0
    (λ e. absurd (omega (arith, e, c.side.ensures.value, c.side-2.ensures.value))) second

pub unlink-requires-3 : goal.unlink-requires-3
unlink-requires-3 c =
    let one = after_unlink c.args.corners.now c.unlink.new.self c.side.result.0
    c.unlink.ensures.lists in
    let two = after_unlink c.unlink.new.self c.unlink-2.new.self c.side-2.result.0
    c.unlink-2.ensures.lists in
    let third = subst (IsHeld c.args.corners.now) (sym c.side-3.ensures.value) c.requires.held.2 in
    held-unlink two c.side-3.result.0
    (λ e. absurd (omega (arith, e, c.side-2.ensures.value, c.side-3.ensures.value)))
    (held-unlink one c.side-3.result.0
    (λ e. absurd (omega (arith, e, c.side.ensures.value, c.side-3.ensures.value))) third)
