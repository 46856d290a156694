use Rattle.std.proofs.Common.{rules}
use Rattle.pm_format.proofs.UnitWords.{some_head}
use Rattle.pm_format.proofs.units.take_head_words.Goals as goal

pub returns : goal.returns
returns c =
    some_head c.args.words.now c.in_ok-s.field-0 c.next_words.new.self c.signed_place.result
    c.signed_place-2.result (search rules) c.in_ok-s.ensures c.signed_place.ensures
    c.signed_place-2.ensures
