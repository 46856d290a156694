use Rattle.std.proofs.Common.{◌+◌, List, ℕ, length, sym, ◌∙◌, subst, arith}
use Rattle.std.specs.List.{flat_map}
use Rattle.std.proofs.lemmas.Result.{err_from_is_err_and}
use Rattle.pm_io.specs.Bytes.{GainsThrough}
use Rattle.pm_io.proofs.PutLaws.{through_failed, through_done}
use Rattle.pm_base.specs.Counts.{set_of}
use Rattle.pm_sets.proofs.FlagLaws.{in_below}
use Rattle.pm_frame.proofs.Lines.{line_next, line_cut}
use Rattle.pm_change.specs.Parts.{part_line}
use Rattle.pm_change.proofs.PartLaws.{bound_most}
use Rattle.pm_change.proofs.TellLaws.{passing_gap, passing_past, passing_up}
use Rattle.pm_change.proofs.telling.put_part.Goals as goal

pub overflow_add-from : goal.overflow_add-from
overflow_add-from g c =
    let low = in_below c.args.numbers.now c.in-Some.number c.in-Some.ensures.some.there in
    let most = bound_most c.args.front.now.h c.invariant.ensures.valid.shape c.args.part in
    omega (arith, c.requires.len)

pub put_line-requires : goal.put_line-requires
put_line-requires g c =
    c.requires.each c.in-Some.number c.in-Some.ensures.some.there

pub returns-in_err-add-clause-puts : goal.returns-in_err-add-clause-puts
returns-in_err-add-clause-puts g c =
    let p = err_from_is_err_and c.from_residual.result c.from_residual.ensures.1 in
    let h = c.args.front.now.h in
    let G = set_of c.args.front.now.flags in
    let flags = c.args.numbers.now in
    let line = part_line h G c.args.part in
    let n = c.in-Some.number in
    let first = c.in-Some.ensures.some in
    let gap = passing_gap (set_of flags) c.loop-number.from n first.from first.none in
    let so_far = subst (λ (xs : List ℕ). GainsThrough (g.K.Sink.got c.args.out.now)
    (g.K.Sink.got c.loop-number.out) c.args.page.now c.loop-number.page (flat_map line xs))
    (sym gap) c.loop-number.invariant.text in
    let whole = line_cut (set_of flags) line n (length flags) _ _ _ _ _ _
    (in_below flags n first.there) first.there
    (◌∙◌ {c = line n} c.as_slice.ensures c.put_line.ensures) so_far
    c.in_err-add.ensures.puts.err in
    rw (p.1, p.2) (through_failed g.K.Sink c.args.out.now c.loop-number.out _ _ _ _ _ whole
    c.loop-number.invariant.calm c.in_err-add.ensures.puts.cause)

pub returns-in_err-add-clause-cost : goal.returns-in_err-add-clause-cost
returns-in_err-add-clause-cost g c =
    let flags = c.args.numbers.now in
    let n = c.in-Some.number in
    let first = c.in-Some.ensures.some in
    let low = in_below flags n first.there in
    let past = passing_past (set_of flags) c.loop-number.from n first.from first.none
    first.there in
    let up = passing_up (set_of flags) (n + 1) (length flags) (omega arith) in
    let tick = c.tick.ensures in
    let cost = c.loop-number.invariant.cost in
    omega arith

pub loop-number-preserved : goal.loop-number-preserved
loop-number-preserved g c =
    let flags = c.args.numbers.now in
    let line = part_line c.args.front.now.h (set_of c.args.front.now.flags) c.args.part in
    let n = c.in-Some.number in
    let first = c.in-Some.ensures.some in
    let low = in_below flags n first.there in
    let gap = passing_gap (set_of flags) c.loop-number.from n first.from first.none in
    let past = passing_past (set_of flags) c.loop-number.from n first.from first.none
    first.there in
    let so_far = subst (λ (xs : List ℕ). GainsThrough (g.K.Sink.got c.args.out.now)
    (g.K.Sink.got c.loop-number.out) c.args.page.now c.loop-number.page (flat_map line xs))
    (sym gap) c.loop-number.invariant.text in
    let tick = c.tick.ensures in
    let cost = c.loop-number.invariant.cost in
    record {
      within = omega arith;
      text = line_next (set_of flags) line n _ _ _ _ _ _ _ first.there
          (◌∙◌ {c = line n} c.as_slice.ensures c.put_line.ensures) so_far
          c.in_ok-add.ensures.puts.ok;
      calm = c.in_ok-add.ensures.puts.cause.same ∙ c.loop-number.invariant.calm;
      cost = omega arith;
    }

pub returns-clause-puts : goal.returns-clause-puts
returns-clause-puts g c =
    let h = c.args.front.now.h in
    let G = set_of c.args.front.now.flags in
    let flags = c.args.numbers.now in
    let line = part_line h G c.args.part in
    let i = c.loop-number.invariant in
    let gap = passing_gap (set_of flags) c.loop-number.from (length flags) i.within
    c.in_default.ensures.none in
    let whole = subst (λ (xs : List ℕ). GainsThrough (g.K.Sink.got c.args.out.now)
    (g.K.Sink.got c.loop-number.out) c.args.page.now c.loop-number.page (flat_map line xs))
    (sym gap) i.text in
    through_done g.K.Sink c.args.out.now c.loop-number.out c.args.page.now c.loop-number.page _ _
    whole i.calm

pub returns-clause-cost : goal.returns-clause-cost
returns-clause-cost g c =
    let i = c.loop-number.invariant in
    let up = passing_up (set_of c.args.numbers.now) c.loop-number.from (length c.args.numbers.now)
    i.within in
    let cost = i.cost in
    omega arith
