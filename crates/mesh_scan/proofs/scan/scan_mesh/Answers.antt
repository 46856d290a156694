use Rattle.std.proofs.Common.{◌≡◌, [], rules}
use Rattle.std.proofs.lemmas.Result.{IfOk-weaker, IfErr-weaker}
use Rattle.obj_scan.specs.Fails.{scanned_of}
use Rattle.mesh_scan.proofs.MeaningLaws.{first_fails, mesh_gives, mesh_explains}
use Rattle.mesh_scan.proofs.scan.scan_mesh.Goals as goal

pub returns-in-Err-clause-err : goal.returns-in-Err-clause-err
returns-in-Err-clause-err g c =
    let empty : c.new-first.result.items ≡ [] = search rules in
    first_fails c.in-Err.fail _ (g.S.Source.left c.args.source.now) _
    (rw empty at c.in-Err.ensures.fails)

pub returns-clause-ok : goal.returns-clause-ok
returns-clause-ok g c =
    let had = c.in-Ok.ensures in
    let empty : c.new-first.result.items ≡ [] = search rules in
    IfOk-weaker c.scan_as.result _ _ (λ s e.
    mesh_gives c.in-Ok.ended c.gather.new.bytes.items (g.S.Source.left c.args.source.now) _
    had.few had.full (scanned_of s) (rw empty at had.ok) had.end
    (rw (c.format_by-format.ensures, c.deref.ensures.value) at e)) c.scan_as.ensures.ok

pub returns-clause-err : goal.returns-clause-err
returns-clause-err g c =
    let had = c.in-Ok.ensures in
    let empty : c.new-first.result.items ≡ [] = search rules in
    IfErr-weaker c.scan_as.result _ _ (λ e told.
    mesh_explains c.in-Ok.ended c.gather.new.bytes.items (g.S.Source.left c.args.source.now) _
    had.few had.full e _ (rw empty at had.ok) had.end
    (rw (c.format_by-format.ensures, c.deref.ensures.value) at told)) c.scan_as.ensures.err
