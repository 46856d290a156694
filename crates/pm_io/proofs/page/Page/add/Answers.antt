use Rattle.std.proofs.Common.{◌≡◌, ◌++◌, length, refl, sym, ◌∙◌, ap, subst, append_assoc, arith}
use Rattle.std.proofs.Common.{length-append}
use Rattle.std.proofs.lemmas.Result.{err_from_is_err_and}
use Rattle.pm_io.specs.declared.page.TheConstants.{PAGE_BYTES}
use Rattle.pm_io.specs.Bytes.{ArePages, Gains, GainsPart, GainsThrough}
use Rattle.pm_io.proofs.Known.{part_more}
use Rattle.pm_io.proofs.PageLaws.{pages_put, pages_part}
use Rattle.pm_io.proofs.PutLaws.{through_done, through_failed}
use Rattle.pm_io.proofs.page.Page.add.Goals as goal

pub returns-in_err-flush-clause-puts : goal.returns-in_err-flush-clause-puts
returns-in_err-flush-clause-puts g c =
    let p = err_from_is_err_and c.from_residual.result c.from_residual.ensures.1 in
    let held = c.args.self.now in
    let front = c.split_at.result.0.now in
    let rest = c.split_at.result.1.now in
    let part = subst (λ l. GainsPart (g.K.Sink.got c.args.out.now) (g.K.Sink.got c.flush.new.out) l)
    (ap (λ l. l ++ rest) c.hold-2.ensures ∙ append_assoc held front rest
    ∙ ap (λ l. held ++ l) (sym c.split_at.ensures.by_index.0))
    (part_more _ _ c.hold-2.new.self rest c.in_err-flush.ensures.puts.err) in
    rw (p.1, p.2) (through_failed g.K.Sink c.args.out.now c.args.out.now _ _ _ _ _ part refl
    c.in_err-flush.ensures.puts.cause)

pub returns-in_err-put_all-clause-puts : goal.returns-in_err-put_all-clause-puts
returns-in_err-put_all-clause-puts g c =
    let p = err_from_is_err_and c.from_residual-in_err-put_all.result
    c.from_residual-in_err-put_all.ensures.1 in
    let got = g.K.Sink.got c.args.out.now in
    let turned = g.K.Sink.got c.flush.new.out in
    let part = pages_part got turned _ c.args.self.now _ _ _ _ _ c.split_at.ensures.by_index.0
    c.split_at-2.ensures.by_index.0
    (subst (λ l. Gains got turned l) c.hold-2.ensures c.in_ok-flush.ensures.puts.ok)
    c.in_err-put_all.ensures.err in
    rw (p.1, p.2)
    (through_failed g.K.Sink c.args.out.now c.flush.new.out _ _ _ _ _ part
    c.in_ok-flush.ensures.puts.cause.same c.in_err-put_all.ensures.cause)

pub returns-clause-puts : goal.returns-clause-puts
returns-clause-puts g c =
    let got = g.K.Sink.got c.args.out.now in
    let turned = g.K.Sink.got c.flush.new.out in
    let last = c.split_at-2.result.1.now in
    let full : length (c.args.self.now ++ c.split_at.result.0.now) ≡ PAGE_BYTES =
    omega (
      arith,
      length-append c.args.self.now c.split_at.result.0.now,
      c.split_at.ensures.front_len,
      c.remaining_capacity-room.ensures,
      ap length c.self.view_is,
    )
    in
    let pages : ArePages c.split_at-2.result.0.now =
    omega (arith, c.split_at-2.ensures.front_len) in
    let holds = c.hold-3.ensures ∙ ap (λ l. l ++ last) c.in_ok-flush.ensures.empty in
    let gained =
    subst (λ l. GainsThrough got (g.K.Sink.got c.put_all.new.out) c.args.self.now l
    c.args.piece.now) (sym holds)
    (pages_put got turned _ c.args.self.now _ _ _ _ last c.split_at.ensures.by_index.0
    c.split_at-2.ensures.by_index.0 full pages
    (subst (λ l. Gains got turned l) c.hold-2.ensures c.in_ok-flush.ensures.puts.ok)
    c.in_ok-put_all.ensures.ok) in
    through_done g.K.Sink c.args.out.now _ _ _ _ _ gained (c.in_ok-put_all.ensures.cause.same
    ∙ c.in_ok-flush.ensures.puts.cause.same)
