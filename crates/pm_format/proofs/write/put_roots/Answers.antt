use Rattle.std.proofs.Common.{◌<◌, ◌++◌, length, arith, ◌∙◌, subst}
use Rattle.std.proofs.lemmas.Result.{err_from_is_err_and}
use Rattle.pm_io.specs.Bytes.{GainsPart, GainsThrough}
use Rattle.pm_io.proofs.PageLaws.{line_through, line_through_part}
use Rattle.pm_io.proofs.PutLaws.{through_failed}
use Rattle.pm_format.specs.Words.{spelled}
use Rattle.pm_format.specs.Stream.{root_words}
use Rattle.pm_format.proofs.write.put_roots.Goals as goal

pub returns-in_err-put_words : goal.returns-in_err-put_words
returns-in_err-put_words g c =
    let p = err_from_is_err_and c.from_residual.result c.from_residual.ensures.1 in
    let unit = subst (λ ws. GainsPart (g.K.Sink.got c.loop-i.out) (g.K.Sink.got c.put_words.new.out)
    (c.loop-i.page ++ spelled ws)) c.root_words.ensures c.in_err-put_words.ensures.err in
    let below : c.loop-i.i < length c.args.h.now.roots =
    omega (arith, c.roots-i-end.ensures.value) in
    let part = line_through_part (λ x. spelled (root_words x)) c.args.h.now.roots c.loop-i.i
    c.root_at.result _ _ _ _ _ below c.root_at.ensures c.loop-i.invariant.text unit in
    rw (p.1, p.2)
    (through_failed g.K.Sink c.args.out.now c.loop-i.out _ _ _ _ _ part c.loop-i.invariant.count
    c.in_err-put_words.ensures.cause)

pub loop-i-preserved : goal.loop-i-preserved
loop-i-preserved g c =
    let unit = subst
    (λ ws. GainsThrough (g.K.Sink.got c.loop-i.out) (g.K.Sink.got c.put_words.new.out)
    c.loop-i.page c.put_words.new.page (spelled ws)) c.root_words.ensures
    c.in_ok-put_words.ensures.ok in
    record {
      text = line_through (λ x. spelled (root_words x)) c.args.h.now.roots c.loop-i.i
          c.root_at.result _ _ _ _ _ _ (omega (arith, c.roots-i-end.ensures.value))
          c.root_at.ensures c.loop-i.invariant.text unit;
      count = c.in_ok-put_words.ensures.cause.same ∙ c.loop-i.invariant.count;
    }
