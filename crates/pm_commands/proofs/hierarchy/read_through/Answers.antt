use Rattle.std.proofs.Common.{◌≡◌, [], Result, Ok, Err, None, IfSome, sym, ◌∙◌, ap, subst, arith}
use Rattle.std.specs.Result.{result_and}
use Rattle.std.proofs.lemmas.Result.{err_from_is_err_and}
use Rattle.std.proofs.lemmas.List.{nil_from_length}
use Rattle.std.specs.Io.KnownBytes.{prepend_known}
use Rattle.pm_io.specs.Causes.{Rose}
use Rattle.pm_forest.specs.Forest.{Hierarchy}
use Rattle.pm_commands.specs.Beginning.{stream_fail, load_fail, IsHierarchyText}
use Rattle.pm_commands.proofs.ReadingLaws.{nothing_held, begun, stream_stops, load_stops}
use Rattle.pm_commands.proofs.ReadingLaws.{text_stops, text_whole, text_trails, end_unread}
use Rattle.pm_commands.proofs.hierarchy.read_through.Goals as goal
use Rattle.pm_commands.proofs.hierarchy.read_through.Goals.{in-Ok-empty, in-Ok, in-Err}

pub returns-in_err-h-clause-err : goal.returns-in_err-h-clause-err
returns-in_err-h-clause-err g c =
    let left = g.S.Source.left c.args.input.now in
    let same = nothing_held c.args.taker.now left c.requires.empty in
    let p = err_from_is_err_and c.from_residual.result
    c.from_residual.ensures.1 in
    rw (p.1, p.2)
    (text_stops (stream_fail c.in_err-h.field-0.0) _ _ _ _
    (stream_stops left (prepend_known c.args.taker.now left)
    (prepend_known c.read_stream.new.taker (g.S.Source.left c.read_stream.new.source))
    (g.S.Source.left c.read_stream.new.source) c.in_err-h.field-0.0 _ _ same
    c.in_err-h.ensures.reads c.in_err-h.ensures.counts))

pub returns-in_err-valid-clause-err : goal.returns-in_err-valid-clause-err
returns-in_err-valid-clause-err g c =
    let left = g.S.Source.left c.args.input.now in
    let same = nothing_held c.args.taker.now left c.requires.empty in
    let text = begun left (prepend_known c.args.taker.now left)
    (prepend_known c.read_stream.new.taker (g.S.Source.left c.read_stream.new.source))
    (g.S.Source.left c.read_stream.new.source) c.in_ok-h.field-0 same c.in_ok-h.ensures.reads in
    let p = err_from_is_err_and c.from_residual-in_err-valid.result
    c.from_residual-in_err-valid.ensures.1 in
    rw (p.1, p.2)
    (text_stops (load_fail c.in_err-valid.field-0.0) _ _ _ _
    (load_stops left
    (prepend_known c.read_stream.new.taker (g.S.Source.left c.read_stream.new.source))
    (g.S.Source.left c.read_stream.new.source) c.in_ok-h.field-0.digits c.in_ok-h.field-0.h
    c.in_err-valid.field-0.0 _ _ text c.in_err-valid.ensures.fault
    c.in_ok-h.ensures.counts.same))

both_ok : {T U E : Type 0} (r : Result U E) (e : Result T E) (t : T) (u : U)
    → r ≡ result_and e (Ok u) → e ≡ Ok t → r ≡ Ok u
both_ok r e t u is ok = is ∙ ap (λ (f : Result _ _). result_and f (Ok u)) ok

first_err : {T U E : Type 0} (r : Result U E) (e : Result T E) (f : E) (u : U)
    → r ≡ result_and e (Ok u) → e ≡ Err f → r ≡ Err f
first_err r e f u is err = is ∙ ap (λ (f : Result _ _). result_and f (Ok u)) err

pub returns-clause-read : goal.returns-clause-read
returns-clause-read g c =
    let left = g.S.Source.left c.args.input.now in
    let now = g.S.Source.left c.piece.new.source in
    let mid = prepend_known c.read_stream.new.taker (g.S.Source.left c.read_stream.new.source) in
    let same = nothing_held c.args.taker.now left c.requires.empty in
    let text = begun left (prepend_known c.args.taker.now left) mid
    (g.S.Source.left c.read_stream.new.source) c.in_ok-h.field-0 same c.in_ok-h.ensures.reads in
    elim c.match-piece.branch [
      | in-Ok-empty w ↦
          let p = w.in-Ok-empty in
          let none = nil_from_length p.field-0.now (omega (arith, p.len_below)) in
          rw (both_ok _ _ _ _ c.and.ensures w.ended-is)
          (subst (λ (h : Hierarchy). IfSome left
          (λ bytes. IsHierarchyText bytes
          (Ok (record { digits = c.in_ok-h.field-0.digits; h = h; rest = [] })) None))
          (sym c.in_ok-valid.ensures.h)
          (text_whole left mid now c.in_ok-h.field-0.digits c.in_ok-h.field-0.h p.field-0.now text
          c.in_ok-valid.ensures.valid p.ensures.ok none (p.ensures.end none)))
      | in-Ok w ↦ rw (first_err _ _ _ _ c.and.ensures w.ended-is) tt
      | in-Err w ↦ rw (first_err _ _ _ _ c.and.ensures w.ended-is) tt
    ]

pub returns-clause-end : goal.returns-clause-end
returns-clause-end g c =
    elim c.match-piece.branch [
      | in-Ok-empty w ↦
          let p = w.in-Ok-empty in
          rw (both_ok _ _ _ _ c.and.ensures w.ended-is)
          (p.ensures.end (nil_from_length p.field-0.now (omega (arith, p.len_below))))
      | in-Ok w ↦ rw (first_err _ _ _ _ c.and.ensures w.ended-is) tt
      | in-Err w ↦ rw (first_err _ _ _ _ c.and.ensures w.ended-is) tt
    ]

pub returns-clause-err : goal.returns-clause-err
returns-clause-err g c =
    let left = g.S.Source.left c.args.input.now in
    let later = g.S.Source.left c.read_stream.new.source in
    let now = g.S.Source.left c.piece.new.source in
    let mid = prepend_known c.read_stream.new.taker later in
    let same = nothing_held c.args.taker.now left c.requires.empty in
    let text = begun left (prepend_known c.args.taker.now left) mid later c.in_ok-h.field-0 same
    c.in_ok-h.ensures.reads in
    elim c.match-piece.branch [
      | in-Ok-empty w ↦ rw (both_ok _ _ _ _ c.and.ensures w.ended-is) tt
      | in-Ok w ↦
          let p = w.in-Ok in
          rw (first_err _ _ _ _ c.and.ensures w.ended-is) (
            text_trails left mid now c.in_ok-h.field-0.digits c.in_ok-h.field-0.h p.field-0.now text
                c.in_ok-valid.ensures.valid p.ensures.ok (omega (arith, p.len_at_least)),
            p.ensures.cause.same ∙ c.in_ok-h.ensures.counts.same,
          )
      | in-Err w ↦
          let p = w.in-Err in
          let all : mid ≡ now = nothing_held _ later p.ensures.empty ∙ sym p.ensures.left in
          rw (first_err _ _ _ _ c.and.ensures w.ended-is) (
            end_unread left mid now c.in_ok-h.field-0.digits c.in_ok-h.field-0.h text
                c.in_ok-valid.ensures.valid all,
            subst (λ n. Rose n (g.S.Source.faults c.piece.new.source)) c.in_ok-h.ensures.counts.same
                p.ensures.cause.failed,
          )
    ]
