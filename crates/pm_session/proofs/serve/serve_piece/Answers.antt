use Rattle.std.proofs.Common.{◌≡◌, ◌+◌, ◌<◌, [], length, drop, refl, ap, arith}
use Rattle.std.proofs.Common.{length-drop}
use Rattle.std.proofs.lemmas.Grind.{common_steps}
use Rattle.std.proofs.lemmas.List.{nil_from_length}
use Rattle.std.specs.Io.KnownBytes.{prepend_known}
use Rattle.pm_session.specs.Steps.{standing, Steps, IsServing, IsReady}
use Rattle.pm_session.proofs.PieceLaws.{held_put, piece_start, of_nothing, from_nothing, goes_on_so}
use Rattle.pm_session.proofs.serve.serve_piece.Goals as goal

pub returns-then-is_empty-clause-serves : goal.returns-then-is_empty-clause-serves
returns-then-is_empty-clause-serves g c = λ b left shows over v.
    let none : c.args.piece.now ≡ [] =
    nil_from_length c.args.piece.now (grind (arith, common_steps)) in
    let rest : drop c.args.used.now c.args.piece.now ≡ [] =
    nil_from_length (drop c.args.used.now c.args.piece.now)
    (omega (arith, length-drop c.args.used.now c.args.piece.now, ap length none)) in
    of_nothing
    (λ now window. Steps b (standing c.finish.new.session c.args.at.now c.args.line.now.items now
    (g.K.Sink.got c.finish.new.out)) window c.finish.result)
    (drop c.args.used.now c.args.piece.now) left rest
    (c.finish.ensures.serves b c.args.at.now left shows refl c.requires.ready (over none)
    (from_nothing
    (λ now. IsServing b (standing c.args.session.now c.args.at.now c.args.line.now.items now
    (g.K.Sink.got c.args.out.now))) c.args.piece.now left none v))

pub returns-clause-some : goal.returns-clause-some
returns-clause-some g c =
    goes_on_so c.do_lines-ended.result c.put_held.result (0 < length c.args.piece.now)
    c.put_held.ensures.ends (grind (arith, common_steps))

pub returns-clause-ready : goal.returns-clause-ready
returns-clause-ready g c =
    goes_on_so c.do_lines-ended.result c.put_held.result
    (IsReady c.do_lines-ended.new.line.items c.do_lines-ended.new.at) c.put_held.ensures.ends
    c.do_lines-ended.ensures.ready

pub returns-clause-further : goal.returns-clause-further
returns-clause-further g c =
    goes_on_so c.do_lines-ended.result c.put_held.result
    (c.args.at.now.before + length c.args.line.now.items
    < c.do_lines-ended.new.at.before + length c.do_lines-ended.new.line.items)
    c.put_held.ensures.ends c.do_lines-ended.ensures.further

pub returns-clause-counts : goal.returns-clause-counts
returns-clause-counts g c = c.put_held.ensures.counts _ c.do_lines-ended.ensures.counts

pub returns-clause-serves : goal.returns-clause-serves
returns-clause-serves g c = λ b left shows over v.
    let n = c.do_lines-ended.new in
    let rest = drop n.used c.args.piece.now in
    let start =
    piece_start b c.args.session.now c.args.at.now c.args.line.now.items left
    (g.K.Sink.got c.args.out.now) c.args.piece.now (drop c.args.used.now c.args.piece.now)
    c.new-page.result v c.requires.few c.new-page.ensures
    (ap (λ k. drop k c.args.piece.now) c.requires.start) in
    held_put b start.filled c.do_lines-ended.result c.put_held.result n.session n.at n.line.items
    (prepend_known rest left) (g.K.Sink.got n.out) (g.K.Sink.got c.put_held.new.out) n.page rest
    (c.do_lines-ended.ensures.serves b start.filled left shows start.holds) c.put_held.ensures.puts
