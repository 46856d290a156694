use Rattle.std.proofs.Common.{◌≡◌, ◌<◌, ◌≤◌, List, length, drop, false, sym, ◌∙◌, ap, subst, arith}
use Rattle.std.proofs.Common.{length-drop}
use Rattle.std.specs.Io.KnownBytes.{prepend_known}
use Rattle.pm_session.specs.Steps.{standing, Steps, IsServing}
use Rattle.pm_session.proofs.ServeLaws.{cut_off}
use Rattle.pm_session.proofs.PieceLaws.{counts_read, window_left, goes_on_then}
use Rattle.pm_session.proofs.serve.serve_window.Goals as goal

pub returns-in-Err-clause-serves : goal.returns-in-Err-clause-serves
returns-in-Err-clause-serves g c = λ b shows v.
    let window : c.piece.follows.lender-at-none ≡ c.args.taker.now =
    rw c.in-Err.is at (c.piece.follows.holds-at-none.1) in
    cut_off b _ v _
    (ap (λ (l : List _). prepend_known l (g.S.Source.left c.piece.new.source)) window
    ∙ ap (λ o. prepend_known c.args.taker.now o) c.in-Err.ensures.left) c.requires.ready

pub returns-clause-not_ended : goal.returns-clause-not_ended
returns-clause-not_ended g c =
    goes_on_then c.serve_piece-ended.result (0 < length c.in-Ok.piece.now)
    (g.S.Source.ended c.piece.new.source ≡ false) c.serve_piece-ended.ensures.some
    c.in-Ok.ensures.not_ended

pub returns-clause-serves : goal.returns-clause-serves
returns-clause-serves g c = λ b shows v.
    let n = c.serve_piece-ended.new in
    let left = g.S.Source.left c.piece.new.source in
    let window : c.piece.follows.lender-at-none ≡ c.in-Ok.piece.now =
    rw c.in-Ok.is at (c.piece.follows.holds-at-none.0) in
    let eaten : c.eat.new.self ≡ drop n.used c.in-Ok.piece.now =
    c.eat.ensures ∙ ap (λ (l : List _). drop n.used l) window in
    subst
    (λ w. Steps b (standing n.session n.at n.line.items (prepend_known w left)
    (g.K.Sink.got n.out)) w c.serve_piece-ended.result) (sym eaten)
    (c.serve_piece-ended.ensures.serves b left shows c.in-Ok.ensures.end
    (subst
    (λ o. IsServing b (standing c.args.session.now c.args.at.now c.args.line.now.items o
    (g.K.Sink.got c.args.out.now))) c.in-Ok.ensures.ok v))

pub returns-clause-counts : goal.returns-clause-counts
returns-clause-counts g c =
    counts_read c.serve_piece-ended.result _ _ _ _ c.in-Ok.ensures.cause.same
    c.serve_piece-ended.ensures.counts

pub returns-clause-window : goal.returns-clause-window
returns-clause-window g c =
    let n = c.serve_piece-ended.new in
    let window : c.piece.follows.lender-at-none ≡ c.in-Ok.piece.now =
    rw c.in-Ok.is at (c.piece.follows.holds-at-none.0) in
    let few : length c.eat.new.self ≤ 4095 =
    omega (
      arith,
      ap length c.eat.ensures,
      length-drop n.used c.piece.follows.lender-at-none,
      ap length window,
      c.serve_piece-ended.ensures.few,
    ) in
    window_left c.serve_piece-ended.result c.eat.new.self _ _ c.serve_piece-ended.ensures.counts few
