use Rattle.std.proofs.Common.{◌<◌, ◌++◌, length, arith, sym, ◌∙◌, subst}
use Rattle.std.proofs.lemmas.List.{get_or_default}
use Rattle.std.proofs.lemmas.Result.{err_from_is_err_and}
use Rattle.pm_io.specs.Bytes.{GainsPart, GainsThrough}
use Rattle.pm_io.proofs.PageLaws.{line_through, line_through_part}
use Rattle.pm_io.proofs.PutLaws.{through_failed}
use Rattle.pm_forest.specs.Forest.{no_record, record_at}
use Rattle.pm_format.specs.Words.{spelled, AreWords}
use Rattle.pm_format.specs.Stream.{new_face_words, record_words}
use Rattle.pm_format.proofs.WordFits.{faces_are_words}
use Rattle.pm_format.proofs.write.put_records.Goals as goal

pub put_record-requires-clause-left : goal.put_record-requires-clause-left
put_record-requires-clause-left g c =
    let both = faces_are_words c.args.h.now c.invariant.ensures c.loop-k.k
    (omega (arith, c.records-k-end.ensures.value)) in
    subst (λ r. AreWords (new_face_words r.left)) (sym c.record_at.ensures) both.0

pub put_record-requires-clause-right : goal.put_record-requires-clause-right
put_record-requires-clause-right g c =
    let both = faces_are_words c.args.h.now c.invariant.ensures c.loop-k.k
    (omega (arith, c.records-k-end.ensures.value)) in
    subst (λ r. AreWords (new_face_words r.right)) (sym c.record_at.ensures) both.1

pub returns-in_err-put_record : goal.returns-in_err-put_record
returns-in_err-put_record g c =
    let p = err_from_is_err_and c.from_residual.result c.from_residual.ensures.1 in
    let records = c.args.h.now.records in
    let k = c.loop-k.k in
    let lt : k < length records = omega (arith, c.records-k-end.ensures.value) in
    let r = record_at c.args.h.now k in
    let part = subst (λ s. GainsPart (g.K.Sink.got c.loop-k.out) (g.K.Sink.got c.put_record.new.out)
    (c.loop-k.page ++ spelled (record_words s))) c.record_at.ensures
    c.in_err-put_record.ensures.err in
    let all = line_through_part (λ x. spelled (record_words x)) records k r _ _ _ _ _ lt
    (get_or_default records k no_record r lt) c.loop-k.invariant.text part in
    rw (p.1, p.2)
    (through_failed g.K.Sink c.args.out.now c.loop-k.out _ _ _ _ _ all c.loop-k.invariant.count
    c.in_err-put_record.ensures.cause)

pub loop-k-preserved : goal.loop-k-preserved
loop-k-preserved g c =
    let records = c.args.h.now.records in
    let k = c.loop-k.k in
    let lt : k < length records = omega (arith, c.records-k-end.ensures.value) in
    let r = record_at c.args.h.now k in
    let unit = subst
    (λ s. GainsThrough (g.K.Sink.got c.loop-k.out) (g.K.Sink.got c.put_record.new.out)
    c.loop-k.page c.put_record.new.page (spelled (record_words s))) c.record_at.ensures
    c.in_ok-put_record.ensures.ok in
    record {
      text = line_through (λ x. spelled (record_words x)) records k r _ _ _ _ _ _ lt
          (get_or_default records k no_record r lt) c.loop-k.invariant.text unit;
      count = c.in_ok-put_record.ensures.cause.same ∙ c.loop-k.invariant.count;
    }
