use Rattle.std.specs.Int.{w64}
use Rattle.std.proofs.lemmas.Nat.Bits.{bit_at_clear_same, bit_at_clear_other}
use Rattle.pm_sets.proofs.WordLaws.{bit_is_clear, same_bit}
use Rattle.pm_sets.proofs.words.without_bit.Goals as goal

pub returns-clause-here : goal.returns-clause-here
returns-clause-here c =
    bit_is_clear _ c.args.place (bit_at_clear_same w64 c.args.word c.args.place c.requires)

pub returns-clause-others : goal.returns-clause-others
returns-clause-others c =
    λ j low apart. same_bit _ c.args.word j
    (bit_at_clear_other w64 c.args.word c.args.place c.requires j low apart)
