use Rattle.std.proofs.Common.{arith}
use Rattle.std.proofs.lemmas.Bool.Decides.{nat_tests}
use Rattle.pm_base.specs.Meshes.{mesh_of}
use Rattle.obj_scan.specs.Fails.{scanned_of}
use Rattle.obj_fit.proofs.MakeLaws.{laid_lent, laid_fans, laid_places, laid_few, laid_three}
use Rattle.obj_fit.proofs.MakeLaws.{makes_done}
use Rattle.obj_fit.proofs.ScaleLaws.{head_line_tells}
use Rattle.obj_fit.proofs.making.make_of.Goals as goal

pub prepare-requires : goal.prepare-requires
prepare-requires c =
    laid_lent c.args.size (scanned_of c.args.scan.now) c.in-Ok.laid c.deref.result.now
    c.deref-2.result.now c.requires.within c.in-Ok.ensures c.deref.ensures.value
    c.deref-2.ensures.value

pub returns-clause-made : goal.returns-clause-made
returns-clause-made c =
    makes_done c.args.size (scanned_of c.args.scan.now) c.in-Ok.laid c.deref.result.now
    c.deref-2.result.now (mesh_of c.in-Ok-prepare.prepared.mesh) c.in-Ok-prepare.prepared.notes
    c.as_slice.result.now c.in-Ok-head_line.head.items c.in-Ok-notes_of.notes.items
    c.in-Ok.ensures c.deref.ensures.value c.deref-2.ensures.value
    c.in-Ok-prepare.ensures.ok c.in-Ok-prepare.ensures.formed c.in-Ok-prepare.ensures.manifold
    c.as_slice.ensures (grind (arith, nat_tests, c.if-is_empty.false, c.is_empty.ensures))
    c.in-Ok-head_line.ensures c.in-Ok-notes_of.ensures

pub notes_of-requires-clause-fans : goal.notes_of-requires-clause-fans
notes_of-requires-clause-fans c =
    laid_fans c.args.size (scanned_of c.args.scan.now) c.in-Ok.laid c.requires.within
    c.in-Ok.ensures

pub notes_of-requires-clause-placed : goal.notes_of-requires-clause-placed
notes_of-requires-clause-placed c =
    laid_places c.args.size (scanned_of c.args.scan.now) c.in-Ok.laid c.in-Ok.ensures

pub notes_of-requires-clause-cut : goal.notes_of-requires-clause-cut
notes_of-requires-clause-cut c =
    laid_few c.args.size (scanned_of c.args.scan.now) c.in-Ok.laid c.requires.within
    c.in-Ok.ensures

pub notes_of-requires-clause-three_within : goal.notes_of-requires-clause-three_within
notes_of-requires-clause-three_within c =
    laid_three c.args.size (scanned_of c.args.scan.now) c.in-Ok.laid c.requires.within
    c.in-Ok.ensures

pub returns-clause-scale : goal.returns-clause-scale
returns-clause-scale c =
    head_line_tells c.in-Ok.laid.placing.fit c.in-Ok-head_line.head.items c.scale_of-scale.result
    c.in-Ok-head_line.ensures c.scale_of-scale.ensures
