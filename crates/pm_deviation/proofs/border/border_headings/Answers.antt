use Rattle.std.proofs.Common.{◌≡◌, ◌*◌, ◌<◌, [], ◌∷◌, ◌++◌, sym, ◌∙◌, rules, arith}
use Rattle.std.specs.Option.{is_none}
use Rattle.pm_forest.specs.Faces.{face_count}
use Rattle.pm_beyond.specs.Walks.{leaf_twin}
use Rattle.pm_deviation.proofs.HeadingTables.{sides_none, side_passed, side_more, sides_all}
use Rattle.pm_deviation.proofs.HeadingTables.{sides_tell}
use Rattle.pm_deviation.proofs.SideLaws.{twin_told}
use Rattle.pm_deviation.proofs.border.border_headings.Goals.{then-is_none+in_ok-push, else-is_none}
use Rattle.pm_deviation.proofs.border.border_headings.Goals as goal

pub loop-side-init : goal.loop-side-init
loop-side-init c = sides_none c.args.h.now c.new-headings.result.items c.new-headings.ensures.items

pub loop-side-preserved : goal.loop-side-preserved
loop-side-preserved c =
    let h = c.args.h.now in
    let e = c.loop-side.side in
    let old = c.loop-side.headings.items in
    let below : e < 3 * face_count h =
    omega (arith, c.loop-side-test.true, c.faces-side-end.ensures.value) in
    let alone : c.is_none.result ≡ is_none (leaf_twin h e) =
    twin_told h e c.twin.result c.is_none.result c.in_ok-twins.twins below c.in_ok-twins.ensures
    c.is_none.ensures c.twin.ensures.value in
    elim c.if-is_none.branch [
      | then-is_none+in_ok-push w ↦
          let d = w.side_heading.result in
          let are = w.side_heading.ensures in
          let items : c.if-is_none.headings.items ≡ old ++ d ∷ [] = search rules in
          side_more h e old c.if-is_none.headings.items d (sym alone ∙ w.if-is_none.true)
          c.loop-side.invariant items are.is are.from are.to are.twice are.parts
      | else-is_none w ↦
          rw w.headings-is
          (side_passed h e old (sym alone ∙ w.if-is_none.false) c.loop-side.invariant)
    ]

pub returns-clause-are : goal.returns-clause-are
returns-clause-are c = c.loop-side.invariant.each

pub returns-clause-spreads : goal.returns-clause-spreads
returns-clause-spreads c =
    sides_all c.args.h.now c.loop-side.side c.loop-side.headings.items
    (omega (
      arith,
      c.loop-side-test.false,
      c.loop-side.auto.side-end,
      c.faces-side-end.ensures.value,
    )) c.loop-side.invariant

pub returns-clause-border : goal.returns-clause-border
returns-clause-border c =
    sides_tell c.args.h.now c.loop-side.side c.loop-side.headings.items
    (omega (
      arith,
      c.loop-side-test.false,
      c.loop-side.auto.side-end,
      c.faces-side-end.ensures.value,
    )) c.loop-side.invariant
