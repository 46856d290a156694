use Rattle.std.proofs.Common.{◌≡◌, ◌∙◌, ℕ, Some, refl, sym, ap, arith}
use Rattle.std.proofs.lemmas.Bool.{ne_eqb}
use Rattle.std.proofs.lemmas.List.Elements.{All-tail}
use Rattle.pm_base.specs.Sides.{Net, prev, to, Stands}
use Rattle.pm_runs.specs.Pairs.{Runs}
use Rattle.pm_runs.proofs.Found.{runs-found}
use Rattle.pm_runs.proofs.Sides.{runs_last}
use Rattle.pm_shrink.specs.Shrinking.{net_at}
use Rattle.pm_shrink.proofs.FanLaws.{walk_on, walk_ended, no_side, no_side_back}
use Rattle.pm_shrink.proofs.shrink.Shrink.side_to.Goals as goal

pub to-requires : goal.to-requires
to-requires c =
    (rw (c.in-Some-Some.ensures {u = tt}).steps at c.loop-from_p.invariant.stand_p) 0 0
    (omega arith)

pub third-requires : goal.third-requires
third-requires c =
    (rw (c.in-Some-Some.ensures' {u = tt}).steps at c.loop-from_p.invariant.stand_q) 0 0
    (omega arith)

pub prev_side-requires : goal.prev_side-requires
prev_side-requires c =
    (rw (c.in-Some-Some.ensures' {u = tt}).steps at c.loop-from_p.invariant.stand_q) 0 0
    (omega arith)

pub returns-then-to-q-clause-stands : goal.returns-then-to-q-clause-stands
returns-then-to-q-clause-stands c =
    (rw (c.in-Some-Some.ensures {u = tt}).steps at c.loop-from_p.invariant.stand_p) 0 0
    (omega arith)

pub returns-then-to-q-clause-value : goal.returns-then-to-q-clause-value
returns-then-to-q-clause-value c =
    let steps = (c.in-Some-Some.ensures {u = tt}).steps in
    sym (runs-found (net_at c.args.self.now) c.args.p c.args.q
    c.invariant.ensures.kept.proper.once c.in-Some-Some.from_p (record {
      stands = (rw steps at c.loop-from_p.invariant.stand_p) 0 0 (omega arith);
      begins = (rw steps at c.loop-from_p.invariant.start_p) 0 0 (omega arith);
      ends = sym c.to.ensures.value ∙ c.if-to-q.true;
    }))

pub returns-then-third-p-clause-value : goal.returns-then-third-p-clause-value
returns-then-third-p-clause-value c =
    let m : Net = net_at c.args.self.now in
    let steps = (c.in-Some-Some.ensures' {u = tt}).steps in
    let e : ℕ = c.in-Some-Some.from_q in
    let back : Runs m (prev e) c.args.p c.args.q =
    runs_last m e c.args.q (to m e) c.args.p (record {
      stands = (rw steps at c.loop-from_p.invariant.stand_q) 0 0 (omega arith);
      begins = (rw steps at c.loop-from_p.invariant.start_q) 0 0 (omega arith);
      ends = refl;
    }) (sym c.third.ensures.value ∙ c.if-third-p.true) in
    ap Some c.prev_side.ensures.value
    ∙ sym (runs-found m c.args.p c.args.q c.invariant.ensures.kept.proper.once (prev e) back)

pub loop-from_p-preserved : goal.loop-from_p-preserved
loop-from_p-preserved c =
    let steps_p = (c.in-Some-Some.ensures {u = tt}).steps in
    let steps_q = (c.in-Some-Some.ensures' {u = tt}).steps in
    record {
      left_p = walk_on c.loop-from_p.invariant.left_p steps_p
          (ne_eqb _ c.args.q (λ is. c.if-to-q.false (c.to.ensures.value ∙ is)));
      left_q = walk_on c.loop-from_p.invariant.left_q steps_q
          (ne_eqb _ c.args.p (λ is. c.if-third-p.false (c.third.ensures.value ∙ is)));
      stand_p = All-tail (Stands (net_at c.args.self.now)) _ _
          (rw steps_p at c.loop-from_p.invariant.stand_p);
      stand_q = All-tail (Stands (net_at c.args.self.now)) _ _
          (rw steps_q at c.loop-from_p.invariant.stand_q);
      start_p = All-tail (λ k. (net_at c.args.self.now).from k ≡ c.args.p) _ _
          (rw steps_p at c.loop-from_p.invariant.start_p);
      start_q = All-tail (λ k. (net_at c.args.self.now).from k ≡ c.args.q) _ _
          (rw steps_q at c.loop-from_p.invariant.start_q);
    }

-- The corners at q have all been seen,
pub returns-in_default-clause-value : goal.returns-in_default-clause-value
returns-in_default-clause-value c =
    no_side_back c.corners_at-at_q.ensures.each c.args.p
    (walk_ended c.loop-from_p.invariant.left_q (c.in_default.ensures' {u = tt}).steps.0)

-- or those at p.
pub returns-in_default-2-clause-value : goal.returns-in_default-2-clause-value
returns-in_default-2-clause-value c =
    no_side c.corners_at-at_p.ensures.each c.args.q
    (walk_ended c.loop-from_p.invariant.left_p (rw c.in_default.is-0 at c.next.ensures.steps).0)
