use Rattle.std.proofs.Common.{◌≡◌, true, filter, inl, inr, refl, sym, ◌∙◌, subst, arith}
use Rattle.std.proofs.lemmas.Bool.{cases_lt, cases_eq, both_ways}
use Rattle.pm_base.specs.Counts.{set_of, numbers_below}
use Rattle.pm_base.specs.Sides.{face_of}
use Rattle.pm_links.specs.Lists.{has}
use Rattle.pm_sets.proofs.FlagLaws.{in_below}
use Rattle.pm_forest.specs.Forest.{node_count}
use Rattle.pm_forest.specs.Faces.{face_count}
use Rattle.pm_beyond.proofs.Standing.{closed-front}
use Rattle.pm_front.specs.Corners.{listed}
use Rattle.pm_front.proofs.Counting.{length-passing}
use Rattle.pm_change.specs.Shown.{shown_node_at}
use Rattle.pm_change.specs.Changes.{is_new_node, is_put}
use Rattle.pm_change.specs.Gathering.{is_face_in}
use Rattle.pm_change.proofs.Counting.{length-map}
use Rattle.pm_change.proofs.GatherLaws.{none_gathered, gathered_on, gathers_more}
use Rattle.pm_change.proofs.GatherLaws.{just_those}
use Rattle.pm_change.proofs.PartLaws.{nodes_most}
use Rattle.pm_change.proofs.PutLaws.{listed_put, put_found, corners_up, corners_more, corners_all}
use Rattle.pm_change.proofs.TellLaws.{count_past, count_up}
use Rattle.pm_change.proofs.corners.gather_puts.Goals as goal

pub overflow_add-from : goal.overflow_add-from
overflow_add-from g c =
    let low = in_below c.args.new.now c.in-Some.node c.in-Some.ensures.some.there in
    let len = c.requires.new in
    let most = nodes_most c.args.front.now.h c.invariant.ensures.valid.shape in
    omega arith

pub loop-node-init : goal.loop-node-init
loop-node-init g c = record {
  within = omega arith;
  put_len = refl;
  so_far = λ S since. record {
    got = none_gathered (is_put c.args.front.now.h S (set_of c.args.front.now.flags))
        c.args.put.now;
    seen = λ v j l fresh held. absurd (omega arith);
    cost = omega arith;
  };
}

pub loop-node-preserved : goal.loop-node-preserved
loop-node-preserved g c =
    let h = c.args.front.now.h in
    let G = set_of c.args.front.now.flags in
    let e = c.invariant.ensures in
    let now = closed-front h G e.closed in
    let ls = c.args.front.now.corners in
    let from = c.loop-node.from in
    let node = c.in-Some.node in
    let first = c.in-Some.ensures.some in
    let ahead = first.from in
    let low = in_below c.args.new.now node first.there in
    let len = c.requires.new in
    let tick = c.tick.ensures in
    let own = c.see_corners.ensures.cost in
    let put_len = c.see_corners.ensures.put.len ∙ c.loop-node.invariant.put_len in
    record {
      within = omega arith;
      put_len = put_len;
      so_far = λ S since.
          let shape = e.valid.shape in
          let i = c.loop-node.invariant.so_far S since in
          let new = sym (since.just.each node (omega arith)) ∙ first.there in
          let room = c.requires.len in
          let puts = gathers_more (is_face_in (listed ls node)) (is_put h S G) c.loop-node.put
          c.see_corners.new.put
          (λ f there y. let l = in_below c.see_corners.new.put f there in listed_put h shape S G
          since.before now ls e.corners node f new (omega arith) y) c.see_corners.ensures.put in
          let more = count_past (is_new_node h S G) from node ahead new in
          let up = corners_up h shape S G since.before now ls e.corners from node ahead in
          let next = corners_more h shape S G since.before now ls e.corners node new in
          let cost = i.cost in
          record {
            got = gathered_on (is_put h S G) c.args.put.now c.loop-node.put c.see_corners.new.put
                i.got puts;
            seen = λ v j l fresh held. elim (cases_lt v from) [
              | inl a ↦ puts.stay (face_of j) (i.seen v j a fresh held)
              | inr a ↦ elim (cases_eq v node) [
                | inl is ↦ c.see_corners.ensures.seen j
                    (subst (λ w. has (listed ls w) j ≡ true) is held)
                | inr ne ↦ absurd (both_ways (is_new_node h S G v)
                    (sym (since.just.each v (omega arith)) ∙ first.none v a (omega arith)) fresh)
              ]
            ];
            cost = omega arith;
          };
    }

pub returns-clause-put : goal.returns-clause-put
returns-clause-put g c S since =
    let h = c.args.front.now.h in
    let G = set_of c.args.front.now.flags in
    let e = c.invariant.ensures in
    let i = c.loop-node.invariant.so_far S since in
    let len = c.requires.new in
    just_those (is_put h S G) c.args.put.now c.loop-node.put (face_count h) c.requires.empty
    c.requires.len i.got
    (put_found h e.valid.shape S G since.before (closed-front h G e.closed)
    c.args.front.now.corners e.corners c.loop-node.put
    (λ v j l fresh held. elim (cases_lt v c.loop-node.from) [
      | inl a ↦ i.seen v j a fresh held
      | inr a ↦ absurd (both_ways (is_new_node h S G v) (sym (since.just.each v l)
          ∙ c.in_default.ensures.none v a (omega arith)) fresh)
    ]))

pub returns-clause-cost : goal.returns-clause-cost
returns-clause-cost g c S since =
    let h = c.args.front.now.h in
    let G = set_of c.args.front.now.flags in
    let e = c.invariant.ensures in
    let within = c.loop-node.invariant.within in
    let len = c.requires.new in
    let cost = (c.loop-node.invariant.so_far S since).cost in
    let up = count_up (is_new_node h S G) c.loop-node.from (node_count h) (omega arith) in
    let all = length-map (shown_node_at h)
    (filter (is_new_node h S G) (numbers_below (node_count h)))
    ∙ length-passing (is_new_node h S G) (node_count h) in
    let corners = corners_all h e.valid.shape S G since.before (closed-front h G e.closed)
    c.args.front.now.corners e.corners c.loop-node.from in
    omega arith
