use Rattle.pm_turn.proofs.TurnMore.{own_more}
use Rattle.pm_turn.proofs.turning.own_elders.Goals as goal

pub loop-face-preserved : goal.loop-face-preserved
loop-face-preserved c =
    let inv = c.loop-face.invariant in
    let (long, each) = own_more c.loop-face.elders.items c.push.new.self.items c.loop-face.face
    inv.long inv.each c.in_ok-push.ensures.items in
    record { long = long; each = each }
