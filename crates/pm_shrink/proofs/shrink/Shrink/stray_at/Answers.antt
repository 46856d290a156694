use Rattle.std.proofs.Common.{◌∙◌, inl, inr, sym, ap}
use Rattle.std.specs.Prelude.{is_none}
use Rattle.std.proofs.lemmas.Bool.{false≢true}
use Rattle.pm_base.specs.Sides.{Net, twin_of}
use Rattle.pm_shrink.specs.Shrinking.{net_at}
use Rattle.pm_shrink.proofs.ObstacleLaws.{stray_first, stray_last}
use Rattle.pm_shrink.proofs.shrink.Shrink.stray_at.Goals as goal
use Rattle.pm_shrink.proofs.shrink.Shrink.stray_at.Goals.{else-is_border_side-via-then-is_border_side+else-is_stray-2}
use Rattle.pm_shrink.proofs.shrink.Shrink.stray_at.Goals.{else-is_border_side-via-else-is_border_side}

pub returns-then-is_stray : goal.returns-then-is_stray
returns-then-is_stray c =
    rw c.next_side.ensures.value
    (stray_first (net_at c.args.self.now) c.args.a c.args.b c.args.corner.0 c.requires.corner
    c.requires.at ((rw c.to.ensures.value at c.is_stray.ensures).0 c.if-is_stray.true))

pub returns-then-is_stray-2 : goal.returns-then-is_stray-2
returns-then-is_stray-2 c =
    rw c.prev_side-before.ensures.value
    (stray_last (net_at c.args.self.now) c.args.a c.args.b c.args.corner.0 c.requires.corner
    c.requires.at
    ((rw c.third.ensures.value at c.is_stray-then-is_border_side.ensures).0 c.if-is_stray-2.true))

pub returns : goal.returns
returns c = λ stray.
    let m : Net = net_at c.args.self.now in
    elim stray [
      | inl x ↦ false≢true
          (sym c.if-is_stray.false ∙ (rw c.to.ensures.value at c.is_stray.ensures).1 x)
      | inr (alone, x) ↦
          elim c.else-is_border_side.branch [
            | else-is_border_side-via-then-is_border_side+else-is_stray-2 w ↦
                false≢true (sym w.if-is_stray-2.false
                ∙ (rw w.third.ensures.value at w.is_stray-then-is_border_side.ensures).1 x)
            | else-is_border_side-via-else-is_border_side w ↦
                false≢true (sym w.if-is_border_side.false ∙ c.is_border_side.ensures
                ∙ ap (λ e. is_none (twin_of m e)) c.prev_side-before.ensures.value ∙ alone)
          ]
    ]
