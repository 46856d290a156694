use Rattle.std.proofs.Common.{◌≡◌, ℕ, ◌+◌, ◌-◌, take, drop, ap, arith}
use Rattle.pm_ears.proofs.recut.fan_at.Goals as goal

pub returns : goal.returns
returns c =
    let p = c.args.p in
    let n : (p.first + p.triangles) - p.first ≡ p.triangles = omega arith in
    ap (λ (k : ℕ). take k (drop p.first c.args.faces.now)) n
