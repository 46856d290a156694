use Rattle.std.proofs.Common.{◌≡◌, ◌+◌, suc, true, false, inl, inr, sym, ap, ◌∙◌, subst, arith}
use Rattle.std.proofs.lemmas.Bool.{cases_lt, both_ways}
use Rattle.pm_base.specs.Counts.{set_of, count}
use Rattle.pm_base.proofs.Counts.{count-true, count-false}
use Rattle.pm_forest.specs.Forest.{record_count}
use Rattle.pm_beyond.specs.Plans.{differs}
use Rattle.pm_beyond.proofs.Standing.{closed-front}
use Rattle.pm_change.specs.Gathering.{HaveSeen}
use Rattle.pm_change.proofs.FoundLaws.{all_seen, seen_on, gathered_all}
use Rattle.pm_change.proofs.gathering.gather_gone_and_new.Goals.{then-differs, else-differs}
use Rattle.pm_change.proofs.gathering.gather_gone_and_new.Goals as goal

pub loop-k-preserved : goal.loop-k-preserved
loop-k-preserved g c =
    let h = c.args.front.now.h in
    let S = set_of c.args.marks.now in
    let G = set_of c.args.front.now.flags in
    let i = c.loop-k.invariant in
    let k = c.loop-k.k in
    let tick = c.tick.ensures in
    let cost = i.cost in
    let next : k + 1 ≡ suc k = omega arith in
    let at = ap (count (differs S G)) next in
    elim c.if-differs.branch [
      | then-differs w ↦
          let here : differs S G k ≡ true = sym c.differs.ensures ∙ w.if-differs.true in
          let one = count-true (differs S G) k here in
          let own = w.see_record.ensures.cost in
          let got = w.see_record.ensures.gathered in
          rw (w.sets-is, w.steps-is) (record {
            room = w.see_record.ensures.room;
            got = gathered_all h S G c.args.sets.now c.loop-k.sets w.see_record.new.sets i.got got;
            seen = λ j l d. elim (cases_lt j k) [
              | inl a ↦ seen_on h S G j c.loop-k.sets w.see_record.new.sets got (i.seen j a d)
              | inr a ↦ (let is : j ≡ k = omega arith in
                  subst (λ m. HaveSeen h S G m w.see_record.new.sets) (sym is)
                  w.see_record.ensures.seen)
            ];
            cost = omega arith;
          })
      | else-differs w ↦
          let here : differs S G k ≡ false = sym c.differs.ensures ∙ w.if-differs.false in
          let none = count-false (differs S G) k here in
          rw (w.sets-is, w.steps-is) (record {
            room = i.room;
            got = i.got;
            seen = λ j l d. elim (cases_lt j k) [
              | inl a ↦ i.seen j a d
              | inr a ↦ (let is : j ≡ k = omega arith in absurd
                  (both_ways (differs S G k) here (subst (λ m. differs S G m ≡ true) is d)))
            ];
            cost = omega arith;
          })
    ]

pub returns-clause-gone_faces : goal.returns-clause-gone_faces
returns-clause-gone_faces g c =
    let h = c.args.front.now.h in
    let S = set_of c.args.marks.now in
    let G = set_of c.args.front.now.flags in
    let e = c.invariant.ensures in
    let i = c.loop-k.invariant in
    let end = c.loop-k-test.false in
    let all = c.records-k-end.ensures.value ∙ ap record_count c.hierarchy.ensures in
    (all_seen h e.valid.shape S G (closed-front h S c.requires.told.closed)
    (closed-front h G e.closed) c.args.sets.now c.loop-k.sets c.requires.room c.requires.empty
    i.got (λ k l d. i.seen k (omega arith) d)).0

pub returns-clause-gone_nodes : goal.returns-clause-gone_nodes
returns-clause-gone_nodes g c =
    let h = c.args.front.now.h in
    let S = set_of c.args.marks.now in
    let G = set_of c.args.front.now.flags in
    let e = c.invariant.ensures in
    let i = c.loop-k.invariant in
    let end = c.loop-k-test.false in
    let all = c.records-k-end.ensures.value ∙ ap record_count c.hierarchy.ensures in
    (all_seen h e.valid.shape S G (closed-front h S c.requires.told.closed)
    (closed-front h G e.closed) c.args.sets.now c.loop-k.sets c.requires.room c.requires.empty
    i.got (λ k l d. i.seen k (omega arith) d)).1

pub returns-clause-new_nodes : goal.returns-clause-new_nodes
returns-clause-new_nodes g c =
    let h = c.args.front.now.h in
    let S = set_of c.args.marks.now in
    let G = set_of c.args.front.now.flags in
    let e = c.invariant.ensures in
    let i = c.loop-k.invariant in
    let end = c.loop-k-test.false in
    let all = c.records-k-end.ensures.value ∙ ap record_count c.hierarchy.ensures in
    (all_seen h e.valid.shape S G (closed-front h S c.requires.told.closed)
    (closed-front h G e.closed) c.args.sets.now c.loop-k.sets c.requires.room c.requires.empty
    i.got (λ k l d. i.seen k (omega arith) d)).2
