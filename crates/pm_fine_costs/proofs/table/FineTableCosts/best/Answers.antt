use Rattle.std.proofs.Common.{◌≡◌, ◌∙◌, ap, arith}
use Rattle.pm_quadric.specs.Planes.{squares_of}
use Rattle.pm_policies.specs.Policies.{pair_planes_by}
use Rattle.pm_slots.specs.Slots.{Slotted}
use Rattle.pm_fine_costs.specs.declared.pair.BothQuadrics.{BothQuadrics}
use Rattle.pm_fine_costs.specs.FineCosts.{no_quadrics, quadrics_at}
use Rattle.pm_fine_costs.proofs.FineLaws.{pair_fits, stands_pair, best_is}
use Rattle.pm_fine_costs.proofs.table.FineTableCosts.best.Goals as goal

pub plus-both-requires : goal.plus-both-requires
plus-both-requires c =
    let (p, m, log, after, goes) = c.requires.known in
    let t = c.args.self.now in
    let one : c.get-first.result.now ≡ quadrics_at t c.args.a =
    c.get-first.ensures no_quadrics ∙ ap (λ (x : Slotted BothQuadrics). quadrics_at x c.args.a)
    c.self.view_is in
    let two : c.get.result.now ≡ quadrics_at t c.args.b =
    c.get.ensures no_quadrics ∙ ap (λ (x : Slotted BothQuadrics). quadrics_at x c.args.b)
    c.self.view_is in
    omega (
      arith,
      pair_fits p m log c.args.shrink.now t after goes c.args.a c.args.b c.requires.a_live
          c.requires.b_live c.requires.ordered,
      ap (λ (q : BothQuadrics). q.all.count) one,
      ap (λ (q : BothQuadrics). q.all.count) two,
    )

pub returns-clause-place : goal.returns-clause-place
returns-clause-place c = λ p m log after goes.
    let t = c.args.self.now in
    let one : c.get-first.result.now ≡ quadrics_at t c.args.a =
    c.get-first.ensures no_quadrics ∙ ap (λ (x : Slotted BothQuadrics). quadrics_at x c.args.a)
    c.self.view_is in
    let two : c.get.result.now ≡ quadrics_at t c.args.b =
    c.get.ensures no_quadrics ∙ ap (λ (x : Slotted BothQuadrics). quadrics_at x c.args.b)
    c.self.view_is in
    let stands = stands_pair p m log c.args.shrink.now t after goes c.args.a c.args.b
    c.requires.a_live c.requires.b_live c.get-first.result.now c.get.result.now
    c.plus-both.result one two c.plus-both.ensures.sums in
    best_is p m log c.args.shrink.now t after goes c.args.a c.args.b c.requires.a_live
    c.requires.b_live c.place.result c.place-2.result c.best_fine_place.result.0 c.place.ensures
    c.place-2.ensures (c.best_fine_place.ensures.place
    (pair_planes_by p m log c.args.a c.args.b) stands)

pub returns-clause-cost : goal.returns-clause-cost
returns-clause-cost c = λ p m log after goes.
    let t = c.args.self.now in
    let one : c.get-first.result.now ≡ quadrics_at t c.args.a =
    c.get-first.ensures no_quadrics ∙ ap (λ (x : Slotted BothQuadrics). quadrics_at x c.args.a)
    c.self.view_is in
    let two : c.get.result.now ≡ quadrics_at t c.args.b =
    c.get.ensures no_quadrics ∙ ap (λ (x : Slotted BothQuadrics). quadrics_at x c.args.b)
    c.self.view_is in
    let stands = stands_pair p m log c.args.shrink.now t after goes c.args.a c.args.b
    c.requires.a_live c.requires.b_live c.get-first.result.now c.get.result.now
    c.plus-both.result one two c.plus-both.ensures.sums in
    c.best_fine_place.ensures.value (pair_planes_by p m log c.args.a c.args.b) stands
    ∙ ap (squares_of (pair_planes_by p m log c.args.a c.args.b))
    (best_is p m log c.args.shrink.now t after goes c.args.a c.args.b c.requires.a_live
    c.requires.b_live c.place.result c.place-2.result c.best_fine_place.result.0 c.place.ensures
    c.place-2.ensures (c.best_fine_place.ensures.place
    (pair_planes_by p m log c.args.a c.args.b) stands))
