use Rattle.std.proofs.Common.{ℕ, Option, Some, List, refl, ap, sym, subst, ◌∙◌, arith}
use Rattle.std.proofs.lemmas.Bool.{eqb-true, eq-eqb, leb-true, le-leb, false≢true}
use Rattle.std.specs.Option.{option_map}
use Rattle.pm_base.specs.declared.ids.Side.{Side}
use Rattle.pm_base.specs.declared.mesh.Corners.{Corners}
use Rattle.pm_base.specs.Sides.{Net, net_of, around}
use Rattle.pm_base.proofs.TwinLaws.{around-is}
use Rattle.pm_base.proofs.Walks.{after_steps-zero, trail-zero}
use Rattle.pm_twins.specs.Walks.{IsWalkable}
use Rattle.pm_twins.proofs.Decision.{stopped, returned, walk_on, walk_lt}
use Rattle.pm_twins.proofs.half_edges.HalfEdges.is_fan.Goals as goal

abbrev number : Option Side → Option ℕ
number r = option_map (λ s. s.0) r

pub loop-step-init : goal.loop-step-init
loop-step-init c =
    let f = around (net_of c.args.self.now) in
    record {
      in_range = c.requires.in_range;
      at = sym (after_steps-zero f c.args.start.0);
      passed = refl;
      trail = trail-zero f c.args.start.0;
    }

pub returns-in-None : goal.returns-in-None
returns-in-None c =
    let m : Net = net_of c.args.self.now in
    let h = subst (λ (fs : List Corners). IsWalkable (net_of fs) c.self.inside.twins.now)
    c.self.view_is c.self.invariant in
    let i = c.loop-step.invariant in
    let d = stopped m c.self.inside.twins.now h c.args.start.0 c.requires.in_range c.requires.start
    c.loop-step.at.0 c.loop-step._step c.loop-step.passed c.args.degree i.at i.trail i.passed
    c.requires.degree (sym c.around.ensures ∙ ap number c.in-None.is) in (
      (λ t. d.0 (eqb-true c.loop-step.passed c.args.degree t)),
      (λ fan. eq-eqb c.loop-step.passed c.args.degree (d.1 fan)),
    )

pub returns-then-passed-degree : goal.returns-then-passed-degree
returns-then-passed-degree c =
    let m : Net = net_of c.args.self.now in
    let h = subst (λ (fs : List Corners). IsWalkable (net_of fs) c.self.inside.twins.now)
    c.self.view_is c.self.invariant in
    let i = c.loop-step.invariant in
    let end = sym c.around.ensures ∙ ap number c.in-Some.is
    ∙ ap Some (eqb-true c.in-Some.side.0 c.args.start.0 (sym c.eq.ensures ∙ c.if-eq.true)) in
    let d = returned m c.self.inside.twins.now h c.args.start.0 c.requires.in_range c.requires.start
    c.loop-step.at.0 c.loop-step._step c.loop-step.passed c.args.degree i.at i.trail i.passed
    c.requires.degree end in (
      (λ t. d.0 (c.if-passed-degree.true, leb-true 3 c.loop-step.passed t)),
      (λ fan. le-leb 3 c.loop-step.passed (d.1 fan).1),
    )

pub returns-else-passed-degree : goal.returns-else-passed-degree
returns-else-passed-degree c =
    let m : Net = net_of c.args.self.now in
    let h = subst (λ (fs : List Corners). IsWalkable (net_of fs) c.self.inside.twins.now)
    c.self.view_is c.self.invariant in
    let i = c.loop-step.invariant in
    let end = sym c.around.ensures ∙ ap number c.in-Some.is
    ∙ ap Some (eqb-true c.in-Some.side.0 c.args.start.0 (sym c.eq.ensures ∙ c.if-eq.true)) in
    let d = returned m c.self.inside.twins.now h c.args.start.0 c.requires.in_range c.requires.start
    c.loop-step.at.0 c.loop-step._step c.loop-step.passed c.args.degree i.at i.trail i.passed
    c.requires.degree end in (
      (λ t. absurd (c.if-passed-degree.false (eqb-true c.loop-step.passed c.args.degree t))),
      (λ fan. eq-eqb c.loop-step.passed c.args.degree (d.1 fan).0),
    )

pub loop-step-preserved : goal.loop-step-preserved
loop-step-preserved c =
    let m : Net = net_of c.args.self.now in
    let h = subst (λ (fs : List Corners). IsWalkable (net_of fs) c.self.inside.twins.now)
    c.self.view_is c.self.invariant in
    let i = c.loop-step.invariant in
    let next = sym c.around.ensures ∙ ap number c.in-Some.is in
    let on = walk_on m h.once c.args.start.0 (h.stands c.args.start.0 c.requires.in_range)
    c.loop-step._step c.loop-step.at.0 c.in-Some.side.0 i.at i.trail next
    (λ same. false≢true (sym c.if-eq.false ∙ c.eq.ensures
    ∙ eq-eqb c.in-Some.side.0 c.args.start.0 same)) in
    record {
      in_range = (around-is m h.once c.loop-step.at.0 c.in-Some.side.0 next).0.is_side;
      at = on.0;
      passed = omega (arith, i.passed);
      trail = on.1;
    }

pub returns : goal.returns
returns c =
    let m : Net = net_of c.args.self.now in
    let h = subst (λ (fs : List Corners). IsWalkable (net_of fs) c.self.inside.twins.now)
    c.self.view_is c.self.invariant in
    let short = walk_lt m h.once c.args.start.0 (h.stands c.args.start.0 c.requires.in_range)
    c.loop-step._step c.loop-step.invariant.trail in
    let end = c.loop-step-test.false in
    absurd (omega (arith, h.twins.sides))
