use Rattle.std.proofs.Common.{◌/◌, true, arith}
use Rattle.pm_sets.proofs.BitLaws.{word_within, words_after, flags_after}
use Rattle.pm_sets.proofs.bits.Bits.insert.Goals as goal

pub index_mut-word-requires : goal.index_mut-word-requires
index_mut-word-requires c =
    let within =
    word_within c.self.inside.words.items c.self.inside.bound c.args.self.now c.self.invariant
    c.self.view_is (c.args.number / 64) (omega (arith, c.requires)) in
    omega (arith, within)

pub invariant_of-self : goal.invariant_of-self
invariant_of-self c =
    words_after c.self.inside.words.items c.self.inside.bound c.args.self.now c.self.invariant
    c.self.view_is c.args.number
    c.index_mut-word.result.now c.with_bit.result true c.requires c.index_mut-word.ensures.value
    c.with_bit.ensures.here c.with_bit.ensures.others

pub returns : goal.returns
returns c =
    flags_after c.self.inside.words.items c.self.inside.bound c.args.self.now c.self.invariant
    c.self.view_is c.args.number
    c.index_mut-word.result.now c.with_bit.result true c.requires c.index_mut-word.ensures.value
    c.with_bit.ensures.here c.with_bit.ensures.others
