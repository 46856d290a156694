use Rattle.std.proofs.Common.{ℕ, ◌≡◌, ◌<◌, ◌∙◌, length, Ok, ap, sym, subst, arith}
use Rattle.obj_read.specs.Fields.{fields}
use Rattle.obj_scan.specs.Judged.{in_line, polygon_line}
use Rattle.obj_scan.specs.Reading.{given}
use Rattle.std.specs.List.{All}
use Rattle.obj_scan.specs.Fails.{scanned_of}
use Rattle.obj_scan.proofs.ScanLaws.{polygon_scanning}
use Rattle.obj_scan.proofs.scanner.take_face.Goals as goal

pub returns-in-Ok-clause-ok : goal.returns-in-Ok-clause-ok
returns-in-Ok-clause-ok c =
    let vertices : c.len.result ≡ length c.args.scan.now.points.items =
    c.len.ensures ∙ c.args.scan.now.points.ok.0 in
    let faces : c.len-2.result ≡ length c.args.scan.now.faces.items =
    c.len-2.ensures ∙ c.args.scan.now.faces.ok.0 in
    let fs = fields c.args.text.now in
    let k = length c.args.scan.now.faces.items in
    let same = ap (λ n. polygon_line n k fs) (sym vertices)
    ∙ ap (λ n. polygon_line c.len.result n fs) (sym faces) in
    ap (λ r. given (scanned_of c.args.scan.now) c.args.line (in_line r))
    (same ∙ c.in_ok-face_line.ensures.ok) ∙ ap Ok (sym (c.in-Ok.ensures c.args.line))

pub returns-in-Ok-clause-scanning : goal.returns-in-Ok-clause-scanning
returns-in-Ok-clause-scanning c =
    let vertices : c.len.result ≡ length c.args.scan.now.points.items =
    c.len.ensures ∙ c.args.scan.now.points.ok.0 in
    let faces : c.len-2.result ≡ length c.args.scan.now.faces.items =
    c.len-2.ensures ∙ c.args.scan.now.faces.ok.0 in
    polygon_scanning (scanned_of c.args.scan.now) (scanned_of c.put_face.new.scan) c.args.line
    c.face_line.new.corners.items
    c.requires.scanning (subst (λ n. All (λ (c : ℕ). c < n) c.face_line.new.corners.items) vertices
    c.in_ok-face_line.ensures.within)
    (omega (arith, c.in_ok-face_line.ensures.room, faces)) (c.in-Ok.ensures c.args.line)
