use Rattle.std.proofs.Common.{◌≡◌, ℕ, List, Option, length, subst, arith}
use Rattle.pm_base.specs.Sides.{Net, net_of}
use Rattle.pm_fans.specs.HeadKeys.{AreCollected}
use Rattle.pm_fans.proofs.NumberLaws.{keys_sorted}
use Rattle.pm_fans.proofs.numbers.head_keys.Goals as goal

pub returns : goal.returns
returns c =
    let m : Net = net_of c.args.faces.now in
    let heads : List (Option ℕ) = c.args.heads.now in
    let xs : List ℕ = c.loop-number.keys.items in
    let all : c.loop-number.number ≡ length heads =
    omega (arith, c.loop-number.auto.number-end, c.loop-number-test.false) in
    keys_sorted m c.args.glued.now heads xs c.sort_unstable.new.self.items
    (subst (λ n. AreCollected m c.args.glued.now heads n xs) all c.loop-number.invariant)
    c.sort_unstable.ensures.permutation c.sort_unstable.ensures.sorted
