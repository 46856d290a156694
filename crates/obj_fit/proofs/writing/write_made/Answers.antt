use Rattle.std.proofs.lemmas.Result.{err_from_is_err_and}
use Rattle.pm_base.specs.Meshes.{mesh_of}
use Rattle.pm_base.specs.Canonical.{canonical_text}
use Rattle.pm_io.proofs.PutLaws.{puts_then, puts_stops, puts_same}
use Rattle.obj_fit.proofs.writing.write_made.Goals as goal

pub returns-in_err-put_all : goal.returns-in_err-put_all
returns-in_err-put_all g c =
    let p = err_from_is_err_and c.from_residual.result c.from_residual.ensures.1 in
    rw (p.1, p.2)
    (puts_stops g.K.Sink _ _ c.args.made.now.head.items
    (canonical_text 0 (mesh_of c.args.made.now.mesh)) _
    (puts_same g.K.Sink _ _ _ _ _ c.deref.ensures.value c.in_err-put_all.ensures))

pub returns-in_err-write_obj : goal.returns-in_err-write_obj
returns-in_err-write_obj g c =
    let p = err_from_is_err_and c.from_residual-in_err-write_obj.result
    c.from_residual-in_err-write_obj.ensures.1 in
    rw (p.1, p.2)
    (puts_then g.K.Sink _ _ _ c.args.made.now.head.items
    (canonical_text 0 (mesh_of c.args.made.now.mesh)) _ _
    (puts_same g.K.Sink _ _ _ _ _ c.deref.ensures.value c.in_ok-put_all.ensures)
    c.in_err-write_obj.ensures)

pub returns : goal.returns
returns g c =
    puts_then g.K.Sink _ _ _ c.args.made.now.head.items
    (canonical_text 0 (mesh_of c.args.made.now.mesh)) _ _
    (puts_same g.K.Sink _ _ _ _ _ c.deref.ensures.value c.in_ok-put_all.ensures)
    c.in_ok-write_obj.ensures
