use Rattle.std.proofs.Common.{arith}
use Rattle.pm_sets.proofs.BitLaws.{length_seen, word_within, gap_in_word, last_of_word}
use Rattle.pm_sets.proofs.bits.Bits.last_in_word.Goals as goal

pub index-requires : goal.index-requires
index-requires c =
    let within =
    word_within c.self.inside.words.items c.self.inside.bound c.args.self.now c.self.invariant
    c.self.view_is c.args.word c.requires in
    omega (arith, within)

pub returns-in_err-place-clause-none : goal.returns-in_err-place-clause-none
returns-in_err-place-clause-none c =
    let gap = gap_in_word c.self.inside.words.items c.self.inside.bound c.args.self.now
    c.self.invariant c.self.view_is c.args.word
    c.index.result.now c.requires c.index.ensures 0 64 (omega arith) c.in_err-place.ensures.none in
    rw c.from_residual.ensures (λ j low high. gap j (omega (arith, low)) high)

pub overflow_mul-result : goal.overflow_mul-result
overflow_mul-result c =
    let long = length_seen c.self.inside.words.items c.self.inside.bound c.args.self.now
    c.self.invariant c.self.view_is in
    omega (arith, long, c.self.invariant.few, c.requires)

pub overflow_add-result : goal.overflow_add-result
overflow_add-result c =
    let long = length_seen c.self.inside.words.items c.self.inside.bound c.args.self.now
    c.self.invariant c.self.view_is in
    omega (arith, long, c.self.invariant.few, c.requires, c.in_ok-place.ensures.below)

pub returns-clause-some : goal.returns-clause-some
returns-clause-some c =
    let place = c.in_ok-place.ensures in
    last_of_word c.self.inside.words.items c.self.inside.bound c.args.self.now c.self.invariant
    c.self.view_is c.args.word
    c.index.result.now c.requires c.index.ensures c.in_ok-place.place place.below place.there
    place.last
