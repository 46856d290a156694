use Rattle.std.proofs.Common.{◌<◌, ◌≤◌, arith, length}
use Rattle.std.proofs.lemmas.List.{length-drop}
use Rattle.pm_coder.proofs.IntervalLaws.{left-wide}
use Rattle.pm_coder.proofs.decoder.Decoder.decode.Goals as goal

pub invariant_of-self : goal.invariant_of-self
invariant_of-self c =
    let long : 4 ≤ length c.in_ok-interval.ahead.now =
    rw (c.in_ok-interval.ensures.bytes, length-drop)
    (omega (arith, c.in_ok-interval.ensures.long)) in
    let i = c.self.inside.interval in
    let wide : i.low < i.high = omega (arith, c.self.invariant) in
    let most : i.high < 4294967296 = omega (arith, c.self.ranges) in (
      left-wide i _ _ _ _ c.narrowed-part.ensures c.in_ok-interval.ensures.interval
          wide most c.ranges.share.fits,
      long,
    )
