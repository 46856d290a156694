use Rattle.std.proofs.Common.{◌∙◌, true, sym, arith}
use Rattle.std.proofs.lemmas.Bool.{false≢true}
use Rattle.std.proofs.lemmas.List.Elements.{All-tail}
use Rattle.pm_base.specs.Sides.{Stands}
use Rattle.pm_runs.proofs.Legal.{joined-turned}
use Rattle.pm_shrink.specs.Shrinking.{net_at}
use Rattle.pm_shrink.proofs.FanLaws.{walk_on, walk_found, walk_ended, seen_joined}
use Rattle.pm_shrink.proofs.shrink.Shrink.is_joined_at_either.Goals as goal
use Rattle.pm_shrink.proofs.shrink.Shrink.is_joined_at_either.Goals.{then-has_other-via-then-has_other}
use Rattle.pm_shrink.proofs.shrink.Shrink.is_joined_at_either.Goals.{then-has_other-via-else-has_other+then-has_other-2}

pub has_other-requires : goal.has_other-requires
has_other-requires c =
    (rw (c.in-Some-Some.ensures {u = tt}).steps at c.loop-from_v.invariant.stand_v) 0 0
    (omega arith)

pub has_other-requires-else-has_other : goal.has_other-requires-else-has_other
has_other-requires-else-has_other c =
    (rw (c.in-Some-Some.ensures' {u = tt}).steps at c.loop-from_v.invariant.stand_w) 0 0
    (omega arith)

pub returns-then-has_other : goal.returns-then-has_other
returns-then-has_other c =
    elim c.then-has_other.branch [
      | then-has_other-via-then-has_other x ↦ (
        λ t. (seen_joined c.corners_at-at_v.ensures.each c.args.w).0
            (walk_found c.loop-from_v.invariant.left_v (c.in-Some-Some.ensures {u = tt}).steps
            (sym c.has_other.ensures ∙ x.if-has_other.true)),
        λ k. λ i. true,
      )
      | then-has_other-via-else-has_other+then-has_other-2 x ↦ (
        λ t. joined-turned (net_at c.args.self.now) c.args.w c.args.v
            ((seen_joined c.corners_at-at_w.ensures.each c.args.v).0
            (walk_found c.loop-from_v.invariant.left_w (c.in-Some-Some.ensures' {u = tt}).steps
            (sym x.has_other-else-has_other.ensures ∙ x.if-has_other-2.true))),
        λ k. λ i. true,
      )
    ]

pub loop-from_v-preserved : goal.loop-from_v-preserved
loop-from_v-preserved c =
    let steps_v = (c.in-Some-Some.ensures {u = tt}).steps in
    let steps_w = (c.in-Some-Some.ensures' {u = tt}).steps in
    record {
      left_v = walk_on c.loop-from_v.invariant.left_v steps_v
          (sym c.has_other.ensures ∙ c.if-has_other.false);
      left_w = walk_on c.loop-from_v.invariant.left_w steps_w
          (sym c.has_other-else-has_other.ensures ∙ c.if-has_other-2.false);
      stand_v = All-tail (Stands (net_at c.args.self.now)) _ _
          (rw steps_v at c.loop-from_v.invariant.stand_v);
      stand_w = All-tail (Stands (net_at c.args.self.now)) _ _
          (rw steps_w at c.loop-from_v.invariant.stand_w);
    }

-- The corners at w have all been seen,
pub returns-in_default : goal.returns-in_default
returns-in_default c = (
  λ t. absurd (false≢true t),
  λ k. sym (walk_ended c.loop-from_v.invariant.left_w (c.in_default.ensures' {u = tt}).steps.0)
      ∙ (seen_joined c.corners_at-at_w.ensures.each c.args.v).1
      (joined-turned (net_at c.args.self.now) c.args.v c.args.w k),
)

-- or those at v.
pub returns-in_default-2 : goal.returns-in_default-2
returns-in_default-2 c = (
  λ t. absurd (false≢true t),
  λ k. sym (walk_ended c.loop-from_v.invariant.left_v
      (rw c.in_default.is-0 at c.next.ensures.steps).0)
      ∙ (seen_joined c.corners_at-at_v.ensures.each c.args.w).1 k,
)
