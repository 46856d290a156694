use Rattle.std.proofs.Common.{◌≡◌, ◌∙◌, ◌<◌, ◌*◌, ℕ, List, length, get_or, set, ap, arith}
use Rattle.std.proofs.Math.Seq.{map-set_same}
use Rattle.pm_base.specs.Sides.{face_of}
use Rattle.pm_shrink.specs.declared.faces.Row.{Row}
use Rattle.pm_shrink.specs.FaceRows.{Faces, across_of}
use Rattle.pm_shrink.specs.Writes.{side_number}
use Rattle.pm_shrink.proofs.FaceTables.{side_in, across_written}
use Rattle.pm_shrink.proofs.faces.FaceTable.set_across.Goals as goal

pub index_mut-requires : goal.index_mut-requires
index_mut-requires c =
    let low = side_in c.self.inside.rows.items c.args.side.0 c.self.view_is c.requires.there in
    omega (arith, c.face.ensures, low)

pub returns-clause-faces : goal.returns-clause-faces
returns-clause-faces c =
    map-set_same (λ (r : Row). r.corners) c.self.inside.rows.items c.face.result.0
    c.set_across.new.self c.index_mut.result.now
    (c.set_across.ensures.corners ∙ ap (λ (r : Row). r.corners) c.index_mut.ensures.value)
    ∙ ap (λ (t : Faces). t.faces) c.self.view_is

pub returns-clause-across : goal.returns-clause-across
returns-clause-across c =
    let rows : List Row = c.self.inside.rows.items in
    let e : ℕ = c.args.side.0 in
    let old : Row = c.index_mut.result.now in
    let low : e < 3 * length rows = side_in rows e c.self.view_is c.requires.there in
    let value : old ≡ get_or rows (face_of e) old =
    c.index_mut.ensures.value ∙ ap (λ (f : ℕ). get_or rows f old) c.face.ensures in
    ap (λ (f : ℕ). across_of (set rows f c.set_across.new.self)) c.face.ensures
    ∙ across_written rows e old c.set_across.new.self (side_number c.args.to) low value
    (c.set_across.ensures.here ∙ c.of.ensures) c.set_across.ensures.others
    ∙ ap (λ (t : Faces). set t.across e (side_number c.args.to)) c.self.view_is
