use Rattle.std.proofs.Common.{◌<◌, arith}
use Rattle.pm_coder.proofs.IntervalLaws.{left-wide}
use Rattle.pm_coder.proofs.encoder.Encoder.encode.Goals as goal

pub invariant_of-self-2 : goal.invariant_of-self-2
invariant_of-self-2 c =
    let i = c.self.inside.interval in
    let wide : i.low < i.high = omega (arith, c.self.invariant) in
    let most : i.high < 4294967296 = omega (arith, c.self.ranges) in
    left-wide i _ _ _ _ c.narrowed-part.ensures c.in_ok-self-inside.ensures.interval
    wide most c.ranges.share.fits
