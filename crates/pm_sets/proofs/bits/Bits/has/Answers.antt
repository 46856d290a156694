use Rattle.std.proofs.Common.{◌/◌, ◌∙◌, sym, arith}
use Rattle.pm_sets.proofs.BitLaws.{word_within, flag_read}
use Rattle.pm_sets.proofs.bits.Bits.has.Goals as goal

pub index-requires : goal.index-requires
index-requires c =
    let within =
    word_within c.self.inside.words.items c.self.inside.bound c.args.self.now c.self.invariant
    c.self.view_is (c.args.number / 64) (omega (arith, c.requires)) in
    omega (arith, within)

pub returns : goal.returns
returns c =
    c.has_bit.ensures
    ∙ sym (flag_read c.self.inside.words.items c.self.inside.bound c.args.self.now c.self.invariant
    c.self.view_is
    (c.args.number / 64) c.index.result.now (omega (arith, c.requires)) c.index.ensures
    c.args.number (omega arith))
