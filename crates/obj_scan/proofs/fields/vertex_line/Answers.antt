use Rattle.std.proofs.Common.{◌∙◌, ap}
use Rattle.obj_lines.proofs.FinishLaws.{if_ok, if_err}
use Rattle.obj_scan.specs.Judged.{scanned_vertex_line}
use Rattle.obj_scan.proofs.IndexLaws.{three_fields}
use Rattle.obj_scan.proofs.fields.vertex_line.Goals as goal

pub returns-clause-ok : goal.returns-clause-ok
returns-clause-ok c =
    let three = three_fields _ _ _ _ _ _ _ c.in-Some.ensures c.in-Some-next_field.ensures
    c.in-Some-next_field-2.ensures in
    if_ok c.vertex_of.result _ _ (λ v is. ap (scanned_vertex_line c.args.vertices) three
    ∙ is) c.vertex_of.ensures.ok

pub returns-clause-fault : goal.returns-clause-fault
returns-clause-fault c =
    let three = three_fields _ _ _ _ _ _ _ c.in-Some.ensures c.in-Some-next_field.ensures
    c.in-Some-next_field-2.ensures in
    if_err c.vertex_of.result _ _ (λ e is. ap (scanned_vertex_line c.args.vertices) three
    ∙ is) c.vertex_of.ensures.fault
