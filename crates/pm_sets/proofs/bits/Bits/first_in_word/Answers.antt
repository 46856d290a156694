use Rattle.std.proofs.Common.{◌/◌, ◌%◌, arith}
use Rattle.pm_sets.proofs.BitLaws.{word_within, gap_in_word, first_of_word}
use Rattle.pm_sets.proofs.bits.Bits.first_in_word.Goals as goal

pub index-requires : goal.index-requires
index-requires c =
    let within =
    word_within c.self.inside.words.items c.self.inside.bound c.args.self.now c.self.invariant
    c.self.view_is (c.args.at / 64) (omega (arith, c.requires)) in
    omega (arith, within)

pub returns-in_err-place-clause-none : goal.returns-in_err-place-clause-none
returns-in_err-place-clause-none c =
    let gap = gap_in_word c.self.inside.words.items c.self.inside.bound c.args.self.now
    c.self.invariant c.self.view_is (c.args.at / 64)
    c.index.result.now (omega (arith, c.requires)) c.index.ensures (c.args.at % 64) 64 (omega arith)
    c.in_err-place.ensures.none in
    rw c.from_residual.ensures (λ j low high. gap j (omega (arith, low)) high)

pub returns-clause-some : goal.returns-clause-some
returns-clause-some c =
    let place = c.in_ok-place.ensures in
    first_of_word c.self.inside.words.items c.self.inside.bound c.args.self.now c.self.invariant
    c.self.view_is (c.args.at / 64)
    c.index.result.now (omega (arith, c.requires)) c.index.ensures c.args.at c.in_ok-place.place
    (omega arith) place.below place.after place.there place.first
