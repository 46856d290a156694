use Rattle.std.proofs.Common.{◌≡◌, ◌+◌, ◌<◌, ◌∙◌, ℕ, List, [], ◌∷◌, ◌++◌, sym, ap, subst, arith}
use Rattle.pm_base.specs.Sides.{Net, net_of}
use Rattle.pm_fans.specs.HeadKeys.{order_key, AreCollected}
use Rattle.pm_fans.proofs.NumberLaws.{collected_more}
use Rattle.pm_fans.proofs.numbers.push_head_key.Goals as goal

pub returns : goal.returns
returns c =
    let m : Net = net_of c.args.faces.now in
    let xs : List ℕ = c.args.keys.now.items in
    let few : c.args.side.0 < 4194304 = omega (arith, c.requires.short, c.requires.in_range) in
    let items : c.push.new.self.items ≡ xs ++ order_key m c.args.glued.now c.args.side.0 ∷ [] =
    c.in_ok-push.ensures.items ∙ ap (λ k. xs ++ k ∷ []) c.key.ensures in
    subst (AreCollected m c.args.glued.now c.args.heads.now (c.args.side.0 + 1)) (sym items)
    (collected_more m c.args.glued.now c.args.heads.now c.args.side.0 xs c.requires.so_far few
    c.if-not-is_head.ensures)
