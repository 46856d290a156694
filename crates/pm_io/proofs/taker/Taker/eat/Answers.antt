use Rattle.std.proofs.Common.{◌-◌, length, drop, ap, ◌∙◌, arith, length-take}
use Rattle.pm_io.proofs.Window.{eaten}
use Rattle.pm_io.proofs.taker.Taker.eat.Goals as goal

pub returns : goal.returns
returns c =
    let s = c.self.inside in
    eaten s.window.items s.from s.to c.args.n
    (omega (
      arith,
      c.requires,
      ap length c.self.view_is,
      length-take (s.to - s.from)
          (drop s.from s.window.items),
    )) ∙ ap (λ l. drop c.args.n l) c.self.view_is
