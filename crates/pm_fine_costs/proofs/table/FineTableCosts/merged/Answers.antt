use Rattle.std.proofs.Common.{◌∙◌, ◌<◌, length, ap, sym, subst, arith}
use Rattle.pm_quadric.specs.Sums.{plus_sums}
use Rattle.pm_slots.specs.Slots.{Slotted, IsPut}
use Rattle.pm_fine_costs.specs.declared.pair.BothQuadrics.{BothQuadrics}
use Rattle.pm_fine_costs.specs.FineCosts.{no_quadrics, quadrics_at}
use Rattle.pm_fine_costs.proofs.FineLaws.{merged_in, merged_fits, made_live}
use Rattle.pm_fine_costs.proofs.FineLaws.{made_fits, goes_more}
use Rattle.pm_fine_costs.proofs.table.FineTableCosts.merged.Goals as goal

pub get-first-requires : goal.get-first-requires
get-first-requires c =
    let (p, m, log, after, goes) = c.requires.known in
    let low = merged_in p m log c.args.entry.now c.args.shrink.now c.args.self.now after goes in
    subst (λ (x : Slotted BothQuadrics). c.args.entry.now.t < length x.slots)
    (sym c.self.view_is) low.0

pub get-requires : goal.get-requires
get-requires c =
    let (p, m, log, after, goes) = c.requires.known in
    let low = merged_in p m log c.args.entry.now c.args.shrink.now c.args.self.now after goes in
    subst (λ (x : Slotted BothQuadrics). c.args.entry.now.u < length x.slots)
    (sym c.self.view_is) low.1.0

pub plus-brought-requires : goal.plus-brought-requires
plus-brought-requires c =
    let (p, m, log, after, goes) = c.requires.known in
    let t = c.args.self.now in
    let fits = merged_fits p m log c.args.entry.now c.args.shrink.now t after goes in
    let one = c.get-first.ensures no_quadrics
    ∙ ap (λ (x : Slotted BothQuadrics). quadrics_at x c.args.entry.now.t) c.self.view_is in
    let two = c.get.ensures no_quadrics
    ∙ ap (λ (x : Slotted BothQuadrics). quadrics_at x c.args.entry.now.u) c.self.view_is in
    omega (
      arith,
      fits,
      ap (λ (q : BothQuadrics). q.brought.count) one,
      ap (λ (q : BothQuadrics). q.brought.count) two,
    )

pub taken_at-taken-requires : goal.taken_at-taken-requires
taken_at-taken-requires c =
    let (p, m, log, after, goes) = c.requires.known in
    made_live p m log c.args.entry.now c.args.shrink.now c.args.self.now after goes

pub plus-all-requires : goal.plus-all-requires
plus-all-requires c =
    let (p, m, log, after, goes) = c.requires.known in
    let t = c.args.self.now in
    let one = c.get-first.ensures no_quadrics
    ∙ ap (λ (x : Slotted BothQuadrics). quadrics_at x c.args.entry.now.t) c.self.view_is in
    let two = c.get.ensures no_quadrics
    ∙ ap (λ (x : Slotted BothQuadrics). quadrics_at x c.args.entry.now.u) c.self.view_is in
    let sum = c.plus-brought.ensures.sums
    ∙ ap (λ (k : BothQuadrics). plus_sums k.brought c.get.result.now.brought) one
    ∙ ap (λ (k : BothQuadrics). plus_sums (quadrics_at t c.args.entry.now.t).brought
    k.brought) two in
    made_fits p m log c.args.entry.now c.args.shrink.now t after goes c.plus-brought.result
    c.taken_at-taken.result sum c.taken_at-taken.ensures

pub put-requires-clause-a_in : goal.put-requires-clause-a_in
put-requires-clause-a_in c =
    let (p, m, log, after, goes) = c.requires.known in
    let low = merged_in p m log c.args.entry.now c.args.shrink.now c.args.self.now after goes in
    subst (λ (x : Slotted BothQuadrics). c.args.entry.now.t < length x.slots)
    (sym c.self.view_is) low.0

pub put-requires-clause-s_in : goal.put-requires-clause-s_in
put-requires-clause-s_in c =
    let (p, m, log, after, goes) = c.requires.known in
    let low = merged_in p m log c.args.entry.now c.args.shrink.now c.args.self.now after goes in
    subst (λ (x : Slotted BothQuadrics). c.args.entry.now.s < length x.slots)
    (sym c.self.view_is) low.1.1

pub returns : goal.returns
returns c = record {
  goes_on = λ p m log after goes.
      let t = c.args.self.now in
      let q : BothQuadrics = record {
        brought = c.plus-brought.result;
        all = c.plus-all.result;
      } in
      let inside : IsPut c.self.inside.vertices c.args.entry.now.t c.args.entry.now.s q
      c.put.new.self =
      record {
        slots = c.put.ensures.slots;
        made = c.put.ensures.made;
        others =
            c.put.ensures.others;
      } in
      let put = subst (λ (x : Slotted BothQuadrics).
      IsPut x c.args.entry.now.t c.args.entry.now.s q c.put.new.self) c.self.view_is inside in
      let one = c.get-first.ensures no_quadrics
      ∙ ap (λ (x : Slotted BothQuadrics). quadrics_at x c.args.entry.now.t) c.self.view_is in
      let two = c.get.ensures no_quadrics
      ∙ ap (λ (x : Slotted BothQuadrics). quadrics_at x c.args.entry.now.u) c.self.view_is in
      let sum = c.plus-brought.ensures.sums
      ∙ ap (λ (k : BothQuadrics). plus_sums k.brought c.get.result.now.brought) one
      ∙ ap (λ (k : BothQuadrics). plus_sums (quadrics_at t c.args.entry.now.t).brought
      k.brought) two in
      goes_more p m log c.args.entry.now c.args.shrink.now t after goes c.put.new.self q
      c.taken_at-taken.result put sum c.taken_at-taken.ensures c.plus-all.ensures.sums;
}
