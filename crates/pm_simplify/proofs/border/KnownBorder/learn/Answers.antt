use Rattle.std.proofs.Common.{◌∙◌, List, Bool, true, ap, sym, subst}
use Rattle.std.specs.Prelude.{slice_set}
use Rattle.pm_shrink.specs.Shrinking.{net_at}
use Rattle.pm_simplify.specs.KnownBorder.{AreOnBorder}
use Rattle.pm_simplify.proofs.KnownBorderLaws.{noted_ends}
use Rattle.pm_simplify.proofs.border.KnownBorder.learn.Goals as goal

pub returns-then-is_barred : goal.returns-then-is_barred
returns-then-is_barred c = λ on.
    let s = c.args.shrink.now in
    let p = c.vertex_at.result in
    let q = c.vertex_at-then-is_barred.result in
    let made = c.note-then-is_barred.ensures
    ∙ ap (λ (f : List Bool). slice_set f q true) c.note.ensures in
    subst (AreOnBorder s.surface) (sym made)
    (noted_ends s.surface c.args.self.now c.args.side.0 p q c.invariant.ensures.kept.surface
    c.requires c.vertex_at.ensures
    (c.vertex_at-then-is_barred.ensures ∙ ap (net_at s).from c.next.ensures.value)
    (c.is_barred.ensures c.if-is_barred.true) on)
