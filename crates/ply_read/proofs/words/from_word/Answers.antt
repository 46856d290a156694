use Rattle.std.proofs.Common.{◌∙◌, sym, rules, arith}
use Rattle.std.proofs.lemmas.List.{take_rest}
use Rattle.ply_read.proofs.WordLaws.{from_word_at}
use Rattle.ply_read.proofs.words.from_word.Goals as goal

pub returns-then-not-is_space-clause-value : goal.returns-then-not-is_space-clause-value
returns-then-not-is_space-clause-value c =
    take_rest c.args.bytes.now c.loop-i.i
    ∙ sym (from_word_at c.args.bytes.now c.loop-i.i (omega arith) c.loop-i.invariant
    (search rules))
