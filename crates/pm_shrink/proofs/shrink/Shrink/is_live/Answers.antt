use Rattle.std.proofs.Common.{arith, ap, sym, ◌∙◌}
use Rattle.std.specs.Prelude.{is_some, None}
use Rattle.std.proofs.lemmas.List.{get_or_default}
use Rattle.pm_shrink.proofs.PlaceTables.{place_read}
use Rattle.pm_shrink.proofs.shrink.Shrink.is_live.Goals as goal

pub returns-then-v-len : goal.returns-then-v-len
returns-then-v-len c =
    rw (← c.self.view_is)
    (c.is_some.ensures
    ∙ ap is_some (c.index.ensures
    ∙ get_or_default c.self.inside.tables.places.items c.args.v c.index.result.now None
    (omega arith)
    ∙ sym (place_read c.self.inside.tables.places.items c.self.inside.tables.next c.args.v
    c.self.invariant.roomy.fresh)))
