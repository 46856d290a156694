use Rattle.std.proofs.Common.{◌∙◌, length, ap}
use Rattle.pm_base.specs.Counts.{set_of}
use Rattle.pm_forest.proofs.ShapeLaws.{shape_is_forest}
use Rattle.pm_front.specs.Shown.{kept_faces}
use Rattle.pm_front.specs.State.{State}
use Rattle.pm_front.proofs.KeptLaws.{kept-many}
use Rattle.pm_front.proofs.front_tables.FrontTables.kept_count.Goals as goal

pub returns : goal.returns
returns c =
    let h = c.self.inside.indexed in
    c.len.ensures
    ∙ kept-many h (shape_is_forest h c.self.invariant.shape) (set_of c.self.inside.flags.items)
    c.self.invariant.front c.self.inside.kept.list c.self.invariant.kept_list
    ∙ ap (λ (s : State). length (kept_faces s.h (set_of s.flags))) c.self.view_is
