use Rattle.std.proofs.Common.{◌≡◌, ◌∙◌, sym, ap, arith}
use Rattle.std.proofs.lemmas.List.Elements.{All-tail}
use Rattle.pm_base.specs.Sides.{Net, Stands}
use Rattle.pm_shrink.specs.Shrinking.{net_at}
use Rattle.pm_shrink.proofs.shrink.Shrink.corner_with.Goals as goal

pub has_other-requires : goal.has_other-requires
has_other-requires c =
    (rw (c.in-Some-Some.ensures {u = tt}).steps at c.loop-from_p.invariant.stand_p) 0 0
    (omega arith)

pub returns-then-has_other : goal.returns-then-has_other
returns-then-has_other c =
    let steps = (c.in-Some-Some.ensures {u = tt}).steps in (
      (rw steps at c.loop-from_p.invariant.stand_p) 0 0 (omega arith),
      (rw steps at c.loop-from_p.invariant.start_p) 0 0 (omega arith),
    )

pub to-requires : goal.to-requires
to-requires c =
    (rw (c.in-Some-Some.ensures' {u = tt}).steps at c.loop-from_p.invariant.stand_q) 0 0
    (omega arith)

pub third-requires : goal.third-requires
third-requires c =
    (rw (c.in-Some-Some.ensures' {u = tt}).steps at c.loop-from_p.invariant.stand_q) 0 0
    (omega arith)

pub next_side-requires : goal.next_side-requires
next_side-requires c =
    (rw (c.in-Some-Some.ensures' {u = tt}).steps at c.loop-from_p.invariant.stand_q) 0 0
    (omega arith)

pub prev_side-requires : goal.prev_side-requires
prev_side-requires c =
    (rw (c.in-Some-Some.ensures' {u = tt}).steps at c.loop-from_p.invariant.stand_q) 0 0
    (omega arith)

pub returns-then-to-p : goal.returns-then-to-p
returns-then-to-p c = (
  c.next_side.ensures.stands,
  ap (net_at c.args.self.now).from c.next_side.ensures.value ∙ sym c.to.ensures.value
      ∙ c.if-to-p.true,
)

pub returns-then-third-p : goal.returns-then-third-p
returns-then-third-p c = (
  c.prev_side.ensures.stands,
  ap (net_at c.args.self.now).from c.prev_side.ensures.value ∙ sym c.third.ensures.value
      ∙ c.if-third-p.true,
)

pub loop-from_p-preserved : goal.loop-from_p-preserved
loop-from_p-preserved c =
    let m : Net = net_at c.args.self.now in
    let steps_p = (c.in-Some-Some.ensures {u = tt}).steps in
    let steps_q = (c.in-Some-Some.ensures' {u = tt}).steps in
    record {
      stand_p = All-tail (Stands m) c.in-Some-Some.from_p c.next.new.self
          (rw steps_p at c.loop-from_p.invariant.stand_p);
      stand_q = All-tail (Stands m) c.in-Some-Some.from_q c.next-in-loop-from_p.new.self
          (rw steps_q at c.loop-from_p.invariant.stand_q);
      start_p = All-tail (λ e. m.from e ≡ c.args.p) c.in-Some-Some.from_p c.next.new.self
          (rw steps_p at c.loop-from_p.invariant.start_p);
    }
