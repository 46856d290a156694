use Rattle.std.proofs.Common.{sym}
use Rattle.std.proofs.lemmas.Result.{err_from_is_err_and}
use Rattle.pm_io.proofs.PutLaws.{through_then, through_stops, through_same}
use Rattle.pm_format.specs.Words.{spelled}
use Rattle.pm_format.specs.Stream.{head_words, new_face_words}
use Rattle.pm_format.proofs.TextLaws.{record_text}
use Rattle.pm_format.proofs.write.put_record.Goals as goal

pub returns-in_err-put_head : goal.returns-in_err-put_head
returns-in_err-put_head g c =
    let p = err_from_is_err_and c.from_residual.result c.from_residual.ensures.1 in
    let r = c.args.split.now in
    rw (p.1, p.2)
    (through_same g.K.Sink _ _ _ _ _ _ _ (sym (record_text r))
    (through_stops g.K.Sink _ _ _ _ (spelled (head_words r)) _ _ c.in_err-put_head.ensures))

pub returns-in_err-put_new_face : goal.returns-in_err-put_new_face
returns-in_err-put_new_face g c =
    let p = err_from_is_err_and c.from_residual-in_err-put_new_face.result
    c.from_residual-in_err-put_new_face.ensures.1 in
    let r = c.args.split.now in
    let left = through_stops g.K.Sink _ _ _ _ (spelled (new_face_words r.left))
    (spelled (new_face_words r.right)) _ c.in_err-put_new_face.ensures in
    rw (p.1, p.2)
    (through_same g.K.Sink _ _ _ _ _ _ _ (sym (record_text r))
    (through_then g.K.Sink _ _ _ _ _ _ (spelled (head_words r)) _ _ _ c.in_ok-put_head.ensures
    left))

pub returns : goal.returns
returns g c =
    let r = c.args.split.now in
    let faces = through_then g.K.Sink _ _ _ _ _ _ (spelled (new_face_words r.left))
    (spelled (new_face_words r.right)) _ _ c.in_ok-put_new_face.ensures
    c.put_new_face-2.ensures in
    through_same g.K.Sink _ _ _ _ _ _ _ (sym (record_text r))
    (through_then g.K.Sink _ _ _ _ _ _ (spelled (head_words r)) _ _ _ c.in_ok-put_head.ensures
    faces)
