use Rattle.std.specs.Int.{w64}
use Rattle.std.proofs.lemmas.Nat.Bits.{bit_at_set_same, bit_at_set_other}
use Rattle.pm_sets.proofs.WordLaws.{bit_is_set, same_bit}
use Rattle.pm_sets.proofs.words.with_bit.Goals as goal

pub returns-clause-here : goal.returns-clause-here
returns-clause-here c =
    bit_is_set _ c.args.place (bit_at_set_same w64 c.args.word c.args.place c.requires)

pub returns-clause-others : goal.returns-clause-others
returns-clause-others c =
    λ j low apart. same_bit _ c.args.word j
    (bit_at_set_other w64 c.args.word c.args.place c.requires j apart)
