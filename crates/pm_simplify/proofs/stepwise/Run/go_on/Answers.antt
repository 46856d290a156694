use Rattle.std.proofs.Common.{◌≡◌, ◌∙◌, ◌+◌, ◌*◌, ◌<◌, Bool, List, [], ◌∷◌, ◌++◌, length, inr}
use Rattle.std.proofs.Common.{refl, ap, sym, subst, arith}
use Rattle.std.proofs.lemmas.Bool.{false≢true}
use Rattle.std.proofs.lemmas.List.{length-append}
use Rattle.pm_base.specs.declared.log.Collapse.{Collapse}
use Rattle.pm_runs.specs.Surfaces.{face_count_of}
use Rattle.pm_policies.specs.PolicyRuns.{IsEndBy}
use Rattle.pm_simplify.specs.OnRuns.{IsOnRun}
use Rattle.pm_simplify.specs.Going.{IsUnderWay}
use Rattle.pm_simplify.proofs.Starting.{room_left}
use Rattle.pm_simplify.proofs.Running.{begun_more, ended_few, not_ended}
use Rattle.pm_simplify.proofs.Running.{added_none, added_one, adds_so_many}
use Rattle.pm_simplify.proofs.stepwise.Run.go_on.Goals as goal

pub loop-self-init : goal.loop-self-init
loop-self-init g c = record {
  by = λ p m going. going;
  kept = refl;
  target = refl;
  added = added_none c.args.most c.args.self.now.log.items;
}

-- By a policy that the call knows of, the run goes on.
pub push_within_room-requires : goal.push_within_room-requires
push_within_room-requires g c =
    let (p, m, going) = c.requires.known in
    let by = c.loop-self.invariant.by p m going in
    let log : List Collapse = c.loop-self.self.log.items in
    let on = subst (λ (l : List Bool).
    IsOnRun c.loop-self.self.shrink (g.C.Costs.goes_by c.loop-self.self.costs) l p m log)
    (sym c.deref.ensures.value) by.under_way.on in
    let then = c.collapse-entry.ensures.goes_on p m log on in
    let left = room_left m then.after.start log c.collapse-entry.result then.after.run in
    let spare = by.room in
    omega arith

pub loop-self-preserved : goal.loop-self-preserved
loop-self-preserved g c =
    let i = c.loop-self.invariant in
    let log : List Collapse = c.loop-self.self.log.items in
    let pushed : c.push_within_room.new.self.items ≡ log ++ c.collapse-entry.result ∷ [] =
    c.push_within_room.ensures.items in
    let longer : length c.push_within_room.new.self.items ≡ length log + 1 =
    ap (λ (l : List Collapse). length l) c.push_within_room.ensures.items
    ∙ length-append log (c.collapse-entry.result ∷ []) in
    let spare = c.push_within_room.ensures.spare in
    let count = c.face_count.ensures in
    let sides = sym c.collapse-entry.ensures.sides in
    record {
      by = λ p m going.
          let all = i.by p m going in
          let by = all.under_way in
          let pair = c.in-Some.pair in
          let s = c.loop-self.self.shrink in
          let least = c.in-Some.ensures.some p m log by.on.after by.on.costs by.right in
          let still = c.least_pair.ensures.right p m log by.on.after by.on.costs by.right in
          let target = c.loop-self.self.target_faces in
          let on = subst (λ (l : List Bool).
          IsOnRun s (g.C.Costs.goes_by c.loop-self.self.costs) l p m log)
          (sym c.deref.ensures.value) by.on in
          let more : target < face_count_of s.surface =
          omega (arith, count, c.loop-self-test.true) in
          let entry = c.collapse-entry.ensures.entry p m log on in
          let new = c.collapse-entry.new in
          let goes_by = g.C.Costs.goes_by new.costs in
          let room = all.room in
          record {
            under_way = subst (λ (l : List Collapse).
                IsUnderWay new.shrink goes_by c.loop-self.self.kept.items p m target l
                new.edges.queue new.edges.waiting)
                (sym pushed) (record {
                  on = subst (λ (l : List Bool).
                      IsOnRun new.shrink goes_by l p m (log ++ c.collapse-entry.result ∷ []))
                      c.deref.ensures.value
                      (c.collapse-entry.ensures.goes_on p m log on);
                  right = c.collapse-entry.ensures.right p m log on still;
                  begun = begun_more p m target log s by.on.after by.begun pair.a pair.b
                      pair.place least (c.in-Some.ensures.place p m log by.on.after by.on.costs)
                      more c.collapse-entry.result entry;
                });
            tables = record {
              room = c.collapse-entry.ensures.room ∙ c.least_pair.ensures.room ∙ all.tables.room
                  ∙ sides;
              items = c.collapse-entry.ensures.items ∙ c.least_pair.ensures.items ∙ all.tables.items
                  ∙ sides;
              heads = ap (λ k. 3 * k) (c.collapse-entry.ensures.heads ∙ c.least_pair.ensures.heads)
                  ∙ all.tables.heads ∙ sides;
              awaited = c.collapse-entry.ensures.awaited;
              noted = c.collapse-entry.ensures.noted;
            };
            room = omega (arith, room, spare, longer);
          };
      kept = i.kept;
      target = i.target;
      added = added_one c.args.most c.loop-self.left _ _ log _ c.collapse-entry.result i.added
          (omega arith) pushed;
    }

pub returns : goal.returns
returns g c =
    let i = c.loop-self.invariant in
    let log : List Collapse = c.loop-self.self.log.items in
    let count = c.face_count.ensures in
    record {
      goes_on = i.by;
      end = λ p m going.
          let by = (i.by p m going).under_way in (
            λ is.
                subst (λ n. IsEndBy p m n log) i.target
                (ended_few p m c.loop-self.self.target_faces log c.loop-self.self.shrink by.on.after
                by.begun (omega (arith, count, c.loop-self-test.false))),
            λ end. refl,
          );
      adds = adds_so_many c.args.most _ _ _ _ i.added (λ is. absurd (false≢true (sym is)));
      kept = i.kept;
      target = i.target;
    }

pub returns-in_default : goal.returns-in_default
returns-in_default g c =
    let i = c.loop-self.invariant in
    let log : List Collapse = c.loop-self.self.log.items in
    record {
      goes_on = λ p m going.
          let all = i.by p m going in
          let by = all.under_way in
          record {
            under_way = record {
              on = by.on;
              right = c.least_pair.ensures.right p m log by.on.after by.on.costs by.right;
              begun = by.begun;
            };
            tables = record {
              room = c.least_pair.ensures.room ∙ all.tables.room;
              items = c.least_pair.ensures.items ∙ all.tables.items;
              heads = ap (λ k. 3 * k) c.least_pair.ensures.heads ∙ all.tables.heads;
              awaited = c.least_pair.ensures.awaited;
              noted = all.tables.noted;
            };
            room = all.room;
          };
      end = λ p m going.
          let by = (i.by p m going).under_way in (
            λ is. inr (c.in_default.ensures.none p m log by.on.after by.on.costs by.right),
            λ end. refl,
          );
      adds = adds_so_many c.args.most _ _ _ _ i.added (λ is. absurd (false≢true (sym is)));
      kept = i.kept;
      target = i.target;
    }

pub returns-then-left-eq0 : goal.returns-then-left-eq0
returns-then-left-eq0 g c =
    let i = c.loop-self.invariant in
    let log : List Collapse = c.loop-self.self.log.items in
    let count = c.face_count.ensures in
    record {
      goes_on = λ p m going.
          let all = i.by p m going in
          let by = all.under_way in
          record {
            under_way = record {
              on = by.on;
              right = c.least_pair.ensures.right p m log by.on.after by.on.costs by.right;
              begun = by.begun;
            };
            tables = record {
              room = c.least_pair.ensures.room ∙ all.tables.room;
              items = c.least_pair.ensures.items ∙ all.tables.items;
              heads = ap (λ k. 3 * k) c.least_pair.ensures.heads ∙ all.tables.heads;
              awaited = c.least_pair.ensures.awaited;
              noted = all.tables.noted;
            };
            room = all.room;
          };
      end = λ p m going.
          let by = (i.by p m going).under_way in
          let pair = c.in-Some.pair in
          let s = c.loop-self.self.shrink in
          let target = c.loop-self.self.target_faces in
          let more : target < face_count_of s.surface =
          omega (arith, count, c.loop-self-test.true) in
          let least = c.in-Some.ensures.some p m log by.on.after by.on.costs by.right in (
            λ is. absurd (false≢true is),
            λ end.
                absurd (not_ended p m target log s by.on.after by.begun pair.a pair.b least more
                (subst (λ n. IsEndBy p m n log) (sym i.target) end)),
          );
      adds = adds_so_many c.args.most _ _ _ _ i.added (λ is. c.if-left-eq0.true);
      kept = i.kept;
      target = i.target;
    }

pub collapse-entry-requires-clause-place : goal.collapse-entry-requires-clause-place
collapse-entry-requires-clause-place g c =
    λ p m log on. c.in-Some.ensures.place p m log on.after on.costs
