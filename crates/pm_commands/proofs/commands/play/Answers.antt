use Rattle.std.proofs.Common.{sym, ◌∙◌}
use Rattle.std.proofs.lemmas.Result.{err_from_is_err_and}
use Rattle.std.specs.Io.KnownBytes.{prepend_known}
use Rattle.pm_session.specs.Session.{state_of}
use Rattle.pm_commands.specs.Beginning.{IsValidBeginning, stream_fail, load_fail}
use Rattle.pm_commands.proofs.ReadingLaws.{nothing_held, begun, stream_stops, load_stops}
use Rattle.pm_commands.proofs.OutcomeLaws.{counts_stopped, no_write}
use Rattle.pm_commands.proofs.StartLaws.{started}
use Rattle.pm_commands.proofs.ViewLaws.{view_stream, view_load, view_done, view_to_end}
use Rattle.pm_commands.proofs.ViewLaws.{view_to_place, view_served, view_few, view_counts}
use Rattle.pm_commands.proofs.commands.play.Goals as goal

pub returns-in_err-h-clause-ends : goal.returns-in_err-h-clause-ends
returns-in_err-h-clause-ends g c =
    let left = g.S.Source.left c.args.input.now in
    let later = g.S.Source.left c.read_stream.new.source in
    let same = nothing_held c.in_ok-taker.taker left c.in_ok-taker.ensures in
    let p = err_from_is_err_and c.from_residual-in_err-h.result
    c.from_residual-in_err-h.ensures.1 in
    rw (p.1, p.2)
    (view_stream c.args.grammar c.args.budget left (prepend_known c.in_ok-taker.taker left)
    (prepend_known c.read_stream.new.taker later) later _ c.in_err-h.field-0.0 _ _ same
    c.in_err-h.ensures.reads
    (stream_stops left (prepend_known c.in_ok-taker.taker left)
    (prepend_known c.read_stream.new.taker later) later c.in_err-h.field-0.0 _ _ same
    c.in_err-h.ensures.reads c.in_err-h.ensures.counts))

pub returns-in_err-h-clause-counts : goal.returns-in_err-h-clause-counts
returns-in_err-h-clause-counts g c =
    let left = g.S.Source.left c.args.input.now in
    let later = g.S.Source.left c.read_stream.new.source in
    let same = nothing_held c.in_ok-taker.taker left c.in_ok-taker.ensures in
    let p = err_from_is_err_and c.from_residual-in_err-h.result
    c.from_residual-in_err-h.ensures.1 in
    rw (p.1, p.2)
    (counts_stopped IsValidBeginning (stream_fail c.in_err-h.field-0.0) left later _ _ _
    (stream_stops left (prepend_known c.in_ok-taker.taker left)
    (prepend_known c.read_stream.new.taker later) later c.in_err-h.field-0.0 _ _ same
    c.in_err-h.ensures.reads c.in_err-h.ensures.counts))

pub returns-in_err-h-clause-few_more : goal.returns-in_err-h-clause-few_more
returns-in_err-h-clause-few_more g c =
    let p = err_from_is_err_and c.from_residual-in_err-h.result
    c.from_residual-in_err-h.ensures.1 in
    rw p.1 (λ is. absurd (no_write (stream_fail c.in_err-h.field-0.0) (sym p.2 ∙ is)))

pub returns-in_err-session-clause-ends : goal.returns-in_err-session-clause-ends
returns-in_err-session-clause-ends g c =
    let left = g.S.Source.left c.args.input.now in
    let later = g.S.Source.left c.read_stream.new.source in
    let same = nothing_held c.in_ok-taker.taker left c.in_ok-taker.ensures in
    let p = err_from_is_err_and c.from_residual-in_err-session.result
    c.from_residual-in_err-session.ensures.1 in
    rw (p.1, p.2)
    (view_load c.args.grammar c.args.budget c.in_err-session.field-0.0 left later _ _ _
    (load_stops left (prepend_known c.read_stream.new.taker later) later
    c.in_ok-h.field-0.digits c.in_ok-h.field-0.h c.in_err-session.field-0.0 _ _
    (begun left (prepend_known c.in_ok-taker.taker left)
    (prepend_known c.read_stream.new.taker later) later c.in_ok-h.field-0 same
    c.in_ok-h.ensures.reads) c.in_err-session.ensures.fault c.in_ok-h.ensures.counts.same))

pub returns-in_err-session-clause-counts : goal.returns-in_err-session-clause-counts
returns-in_err-session-clause-counts g c =
    let left = g.S.Source.left c.args.input.now in
    let later = g.S.Source.left c.read_stream.new.source in
    let same = nothing_held c.in_ok-taker.taker left c.in_ok-taker.ensures in
    let p = err_from_is_err_and c.from_residual-in_err-session.result
    c.from_residual-in_err-session.ensures.1 in
    rw (p.1, p.2)
    (counts_stopped IsValidBeginning (load_fail c.in_err-session.field-0.0) left later _ _ _
    (load_stops left (prepend_known c.read_stream.new.taker later) later
    c.in_ok-h.field-0.digits c.in_ok-h.field-0.h c.in_err-session.field-0.0 _ _
    (begun left (prepend_known c.in_ok-taker.taker left)
    (prepend_known c.read_stream.new.taker later) later c.in_ok-h.field-0 same
    c.in_ok-h.ensures.reads) c.in_err-session.ensures.fault c.in_ok-h.ensures.counts.same))

pub returns-in_err-session-clause-few_more : goal.returns-in_err-session-clause-few_more
returns-in_err-session-clause-few_more g c =
    let p = err_from_is_err_and c.from_residual-in_err-session.result
    c.from_residual-in_err-session.ensures.1 in
    rw p.1 (λ is. absurd (no_write (load_fail c.in_err-session.field-0.0) (sym p.2 ∙ is)))

pub returns-clause-ends : goal.returns-clause-ends
returns-clause-ends g c =
    let left = g.S.Source.left c.args.input.now in
    let later = g.S.Source.left c.read_stream.new.source in
    let same = nothing_held c.in_ok-taker.taker left c.in_ok-taker.ensures in
    let now = g.S.Source.left c.serve.new.source in
    let mid = prepend_known c.read_stream.new.taker later in
    let d = c.in_ok-h.field-0.digits in
    let h = c.in_ok-h.field-0.h in
    let s = c.deref_mut.result.now in
    let text = begun left (prepend_known c.in_ok-taker.taker left) mid later c.in_ok-h.field-0 same
    c.in_ok-h.ensures.reads in
    view_done c.args.grammar s.grammar c.args.budget d h s.h (state_of s) left mid now
    (g.K.Sink.got c.args.out.now) (g.K.Sink.got c.serve.new.out) c.serve.new.taker
    (state_of c.serve.new.self) text c.in_ok-session.ensures.valid
    (started _ _ _ _ _ c.deref_mut.ensures.value c.in_ok-session.ensures.started).0
    (started _ _ _ _ _ c.deref_mut.ensures.value c.in_ok-session.ensures.started).1
    (started _ _ _ _ _ c.deref_mut.ensures.value c.in_ok-session.ensures.started).2
    c.in_ok-serve.ensures.serves

pub returns-clause-read_whole : goal.returns-clause-read_whole
returns-clause-read_whole g c =
    let left = g.S.Source.left c.args.input.now in
    let later = g.S.Source.left c.read_stream.new.source in
    let same = nothing_held c.in_ok-taker.taker left c.in_ok-taker.ensures in
    let now = g.S.Source.left c.serve.new.source in
    let mid = prepend_known c.read_stream.new.taker later in
    let d = c.in_ok-h.field-0.digits in
    let h = c.in_ok-h.field-0.h in
    let s = c.deref_mut.result.now in
    let text = begun left (prepend_known c.in_ok-taker.taker left) mid later c.in_ok-h.field-0 same
    c.in_ok-h.ensures.reads in
    view_to_end c.args.grammar s.grammar c.args.budget d h s.h (state_of s) left mid now
    (g.K.Sink.got c.args.out.now) (g.K.Sink.got c.serve.new.out) c.serve.new.taker
    (state_of c.serve.new.self) text c.in_ok-session.ensures.valid
    (started _ _ _ _ _ c.deref_mut.ensures.value c.in_ok-session.ensures.started).0
    (started _ _ _ _ _ c.deref_mut.ensures.value c.in_ok-session.ensures.started).1
    (started _ _ _ _ _ c.deref_mut.ensures.value c.in_ok-session.ensures.started).2
    c.in_ok-serve.ensures.serves

pub returns-clause-read_to_place : goal.returns-clause-read_to_place
returns-clause-read_to_place g c =
    let left = g.S.Source.left c.args.input.now in
    let later = g.S.Source.left c.read_stream.new.source in
    let same = nothing_held c.in_ok-taker.taker left c.in_ok-taker.ensures in
    let now = g.S.Source.left c.serve.new.source in
    let mid = prepend_known c.read_stream.new.taker later in
    let d = c.in_ok-h.field-0.digits in
    let h = c.in_ok-h.field-0.h in
    let s = c.deref_mut.result.now in
    let text = begun left (prepend_known c.in_ok-taker.taker left) mid later c.in_ok-h.field-0 same
    c.in_ok-h.ensures.reads in
    view_to_place c.args.grammar s.grammar c.args.budget d h s.h (state_of s) left mid now
    (g.K.Sink.got c.args.out.now) (g.K.Sink.got c.serve.new.out) c.serve.new.taker
    (state_of c.serve.new.self) text c.in_ok-session.ensures.valid
    (started _ _ _ _ _ c.deref_mut.ensures.value c.in_ok-session.ensures.started).0
    (started _ _ _ _ _ c.deref_mut.ensures.value c.in_ok-session.ensures.started).1
    (started _ _ _ _ _ c.deref_mut.ensures.value c.in_ok-session.ensures.started).2
    c.in_ok-serve.ensures.serves c.in_ok-serve.ensures.window

pub returns-in_err-serve-clause-ends : goal.returns-in_err-serve-clause-ends
returns-in_err-serve-clause-ends g c =
    let left = g.S.Source.left c.args.input.now in
    let later = g.S.Source.left c.read_stream.new.source in
    let same = nothing_held c.in_ok-taker.taker left c.in_ok-taker.ensures in
    let now = g.S.Source.left c.serve.new.source in
    let mid = prepend_known c.read_stream.new.taker later in
    let d = c.in_ok-h.field-0.digits in
    let h = c.in_ok-h.field-0.h in
    let s = c.deref_mut.result.now in
    let text = begun left (prepend_known c.in_ok-taker.taker left) mid later c.in_ok-h.field-0 same
    c.in_ok-h.ensures.reads in
    let p = err_from_is_err_and c.from_residual-in_err-serve.result
    c.from_residual-in_err-serve.ensures.1 in
    rw (p.1, p.2) (view_served c.args.grammar s.grammar c.args.budget d h s.h (state_of s) left mid
    now (g.K.Sink.got c.args.out.now) (g.K.Sink.got c.serve.new.out) c.serve.new.taker
    (state_of c.serve.new.self) text c.in_ok-session.ensures.valid
    (started _ _ _ _ _ c.deref_mut.ensures.value c.in_ok-session.ensures.started).0
    (started _ _ _ _ _ c.deref_mut.ensures.value c.in_ok-session.ensures.started).1
    (started _ _ _ _ _ c.deref_mut.ensures.value c.in_ok-session.ensures.started).2
    c.in_err-serve.field-0.0 c.in_err-serve.ensures.serves c.in_err-serve.ensures.window)

pub returns-in_err-serve-clause-counts : goal.returns-in_err-serve-clause-counts
returns-in_err-serve-clause-counts g c =
    let p = err_from_is_err_and c.from_residual-in_err-serve.result
    c.from_residual-in_err-serve.ensures.1 in
    rw (p.1, p.2) (view_counts c.in_err-serve.field-0.0 _ _ _ _ _ c.in_ok-h.ensures.counts.same
    c.in_err-serve.ensures.counts)

pub returns-in_err-serve-clause-few_more : goal.returns-in_err-serve-clause-few_more
returns-in_err-serve-clause-few_more g c =
    let left = g.S.Source.left c.args.input.now in
    let later = g.S.Source.left c.read_stream.new.source in
    let same = nothing_held c.in_ok-taker.taker left c.in_ok-taker.ensures in
    let now = g.S.Source.left c.serve.new.source in
    let mid = prepend_known c.read_stream.new.taker later in
    let d = c.in_ok-h.field-0.digits in
    let h = c.in_ok-h.field-0.h in
    let s = c.deref_mut.result.now in
    let text = begun left (prepend_known c.in_ok-taker.taker left) mid later c.in_ok-h.field-0 same
    c.in_ok-h.ensures.reads in
    let p = err_from_is_err_and c.from_residual-in_err-serve.result
    c.from_residual-in_err-serve.ensures.1 in
    rw p.1 (λ is. view_few c.args.grammar s.grammar c.args.budget d h s.h (state_of s) left mid now
    (g.K.Sink.got c.args.out.now) (g.K.Sink.got c.serve.new.out) c.serve.new.taker
    (state_of c.serve.new.self) text c.in_ok-session.ensures.valid
    (started _ _ _ _ _ c.deref_mut.ensures.value c.in_ok-session.ensures.started).0
    (started _ _ _ _ _ c.deref_mut.ensures.value c.in_ok-session.ensures.started).1
    (started _ _ _ _ _ c.deref_mut.ensures.value c.in_ok-session.ensures.started).2
    c.in_err-serve.field-0.0 c.in_err-serve.ensures.serves c.in_err-serve.ensures.window
    (sym p.2 ∙ is))

pub serve-requires : goal.serve-requires
serve-requires g c = c.in_ok-h.ensures.not_ended
