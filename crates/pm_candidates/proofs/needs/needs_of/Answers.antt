use Rattle.std.proofs.Common.{◌≡◌, ℕ, ◌<◌, ◌∷◌, [], length, Option, sym, ap, ◌∙◌, subst, arith}
use Rattle.std.specs.Prelude.{IfSome}
use Rattle.pm_forest.specs.declared.parts.Record.{Record}
use Rattle.pm_forest.specs.Forest.{node_count, record_at, record_count, s_of, maker_of}
use Rattle.pm_forest.specs.Moves.{neighbours_of}
use Rattle.pm_forest.proofs.ShapeLaws.{shape_of_nodes}
use Rattle.pm_candidates.specs.Needed.{times_in, times_needed}
use Rattle.pm_candidates.proofs.TimesLaws.{neighbour_there, needs_times}
use Rattle.pm_candidates.proofs.NeedRows.{all_five}
use Rattle.pm_candidates.proofs.needs.needs_of.Goals as goal

pub maker-requires : goal.maker-requires
unfolding s_of
maker-requires c =
    let h = c.args.h.now in
    let older = (shape_of_nodes h c.invariant.ensures).older c.args.k c.requires in
    let below : (record_at h c.args.k).s < node_count h = omega (arith, older) in
    subst (λ (r : Record). r.s < node_count h) (sym c.record_at-change.ensures) below

pub revealer-requires : goal.revealer-requires
revealer-requires c =
    neighbour_there c.args.h.now c.args.k 0 c.neighbours-sides.result c.invariant.ensures c.requires
    (c.neighbours-sides.ensures.list ∙ ap neighbours_of c.record_at-change.ensures)
    (omega arith)

pub revealer-requires-2 : goal.revealer-requires-2
revealer-requires-2 c =
    neighbour_there c.args.h.now c.args.k 1 c.neighbours-sides.result c.invariant.ensures c.requires
    (c.neighbours-sides.ensures.list ∙ ap neighbours_of c.record_at-change.ensures)
    (omega arith)

pub revealer-requires-3 : goal.revealer-requires-3
revealer-requires-3 c =
    neighbour_there c.args.h.now c.args.k 2 c.neighbours-sides.result c.invariant.ensures c.requires
    (c.neighbours-sides.ensures.list ∙ ap neighbours_of c.record_at-change.ensures)
    (omega arith)

pub revealer-requires-4 : goal.revealer-requires-4
revealer-requires-4 c =
    neighbour_there c.args.h.now c.args.k 3 c.neighbours-sides.result c.invariant.ensures c.requires
    (c.neighbours-sides.ensures.list ∙ ap neighbours_of c.record_at-change.ensures)
    (omega arith)

pub returns : goal.returns
unfolding s_of
returns c =
    let h = c.args.h.now in
    let sides = c.neighbours-sides.result in
    let four : length sides ≡ 4 = omega arith in
    let made = c.maker.ensures.value
    ∙ ap (λ (r : Record). maker_of h r.s) c.record_at-change.ensures in
    let times : (j : ℕ)
    → times_in j (c.maker.result ∷ c.revealer.result ∷ c.revealer-2.result ∷ c.revealer-3.result
    ∷ c.revealer-4.result ∷ []) ≡ times_needed h c.args.k j = λ j.
    let needed = needs_times h c.args.k j sides four (c.neighbours-sides.ensures.list
    ∙ ap neighbours_of c.record_at-change.ensures) in
    (rw (
      made,
      c.revealer.ensures.value,
      c.revealer-2.ensures.value,
      c.revealer-3.ensures.value,
      c.revealer-4.ensures.value,
    ) needed) in
    let P : Option ℕ → Type 0 = λ need. IfSome need (λ j. j < record_count h) in
    record {
      there = all_five P c.maker.result c.revealer.result c.revealer-2.result c.revealer-3.result
          c.revealer-4.result c.maker.ensures.below c.revealer.ensures.there
          c.revealer-2.ensures.there
          c.revealer-3.ensures.there c.revealer-4.ensures.there;
      times = times;
    }
