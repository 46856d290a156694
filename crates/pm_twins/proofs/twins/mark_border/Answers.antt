use Rattle.std.proofs.Common.{◌*◌, ◌+◌, ◌<◌, ◌∙◌, length, ap, sym, subst, arith}
use Rattle.pm_base.specs.Sides.{Net, net_of, IsBorderSide}
use Rattle.pm_base.proofs.TwinLaws.{twin-none}
use Rattle.pm_twins.proofs.Whole.{to_within}
use Rattle.pm_twins.proofs.TwinTables.{none_from_test, some_from_test, AreMarked, marked_twinned}
use Rattle.pm_twins.proofs.TwinTables.{marked_alone, marks_border}
use Rattle.pm_twins.proofs.twins.mark_border.Goals as goal
use Rattle.pm_twins.proofs.twins.mark_border.Goals.{then-is_none, else-is_none}

pub loop-number-preserved : goal.loop-number-preserved
loop-number-preserved c =
    let m : Net = net_of c.args.faces.now in
    let n = c.loop-number.number in
    let l : n < 3 * length c.args.faces.now = omega (arith, c.requires.twins.sides) in
    let table = c.get.ensures ∙ c.requires.twins.each n l in
    elim c.if-is_none.branch [
      | then-is_none w ↦
          let none = sym table ∙ none_from_test c.get.result c.is_none.result c.is_none.ensures
          w.if-is_none.true in
          let side : IsBorderSide m n =
          record { stands = c.requires.whole.stands n l; alone = twin-none m n none } in
          let done = marked_alone m c.args.vertices n w.from.result w.to.result
          c.loop-number.border.items c.loop-number.invariant side w.from.ensures w.to.ensures
          (subst (λ i. i < c.args.vertices) (sym w.from.ensures) (c.requires.whole.within n l))
          (subst (λ i. i < c.args.vertices) (sym w.to.ensures)
          (to_within m c.args.vertices c.requires.whole n l)) in
          subst (λ b. AreMarked m c.args.vertices (n + 1) b) (sym (ap (λ b. b.items) w.border-is))
          done
      | else-is_none w ↦
          let done = marked_twinned m c.args.vertices n c.loop-number.border.items
          c.loop-number.invariant
          (λ none. some_from_test c.get.result c.is_none.result c.is_none.ensures w.if-is_none.false
          (table ∙ none)) in
          subst (λ b. AreMarked m c.args.vertices (n + 1) b) (sym (ap (λ b. b.items) w.border-is))
          done
    ]

pub returns : goal.returns
returns c =
    marks_border (net_of c.args.faces.now) c.args.vertices c.loop-number.number
    c.loop-number.border.items c.loop-number.invariant
    (let end = c.loop-number-test.false in let all = c.requires.twins.sides in omega arith)
