use Rattle.std.proofs.Common.{sym}
use Rattle.obj_prepare.proofs.JoiningLaws.{old_is_first, old_on}
use Rattle.obj_prepare.proofs.joining.first_at.Goals as goal

pub returns-in-Some-clause-first : goal.returns-in-Some-clause-first
returns-in-Some-clause-first c faces h named =
    old_is_first c.args.places.now faces c.args.v named c.args.firsts.now h c.place_key-key.result
    c.index-places-v.result c.requires.in_range c.index-places-v.is
    c.place_key-key.ensures.value c.place_key-key.ensures.place c.in-Some.field-0.now
    (sym c.in-Some.ensures.value)

pub returns-in-Some-clause-noted : goal.returns-in-Some-clause-noted
returns-in-Some-clause-noted c faces h named =
    old_on c.args.places.now faces c.args.v named c.args.firsts.now h c.place_key-key.result
    c.index-places-v.result c.requires.in_range c.index-places-v.is
    c.place_key-key.ensures.value c.place_key-key.ensures.place c.in-Some.field-0.now
    (sym c.in-Some.ensures.value)
