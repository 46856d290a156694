use Rattle.std.proofs.Common.{◌≡◌, ◌+◌, ◌/◌, replicate, ap, ◌∙◌}
use Rattle.pm_sets.specs.Bits.{flags_in}
use Rattle.pm_sets.proofs.BitLaws.{flags_new}
use Rattle.pm_sets.proofs.bits.Bits.new.Goals as goal

pub returns : goal.returns
returns c =
    let all : c.in_ok-words.words.items ≡ replicate (c.args.bound / 64 + 1) 0 =
    c.in_ok-words.ensures.items_if_clones_equal (λ y same. same) in
    ap (λ words. flags_in words c.args.bound) all ∙ flags_new c.args.bound (c.args.bound / 64 + 1)
