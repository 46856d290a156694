use Rattle.std.proofs.Common.{List, map, ap, ◌∙◌}
use Rattle.std.proofs.lemmas.List.{map_more, take_all}
use Rattle.pm_base.specs.Place.{Place}
use Rattle.obj_prepare.specs.Firsts.{place_key}
use Rattle.obj_prepare.proofs.apart.keys_of.Goals as goal

pub loop-place-preserved : goal.loop-place-preserved
loop-place-preserved c =
    rw (map_more place_key c.args.places.now c.loop-place.place-index c.place-item.result
    c.loop-place-test.true)
    (cc (
      c.in_ok-push.ensures.items,
      c.place_key.ensures.value,
      c.place-item.is,
      c.loop-place.invariant,
    ))

pub returns : goal.returns
returns c =
    c.loop-place.invariant
    ∙ ap (λ (ps : List Place). map place_key ps)
    (take_all c.loop-place.place-index c.args.places.now c.loop-place-test.false)
