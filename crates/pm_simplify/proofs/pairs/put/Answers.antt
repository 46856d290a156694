use Rattle.std.proofs.Common.{◌≡◌, ◌∙◌, ◌&&◌, true, sym, subst, arith}
use Rattle.std.specs.Ordering.{int_eq}
use Rattle.std.proofs.lemmas.Grind.{common_steps}
use Rattle.std.proofs.lemmas.Bool.{and_parts}
use Rattle.std.proofs.lemmas.Bool.Decides.{Decides-int_eq}
use Rattle.pm_base.specs.Place.{Place}
use Rattle.pm_runs.specs.Pairs.{IsLegalPair}
use Rattle.pm_policies.specs.PolicyRuns.{IsPutBy}
use Rattle.pm_simplify.proofs.PairLaws.{put_wanted}
use Rattle.pm_simplify.proofs.pairs.put.Goals as goal

same_place : (p q : Place) → (int_eq p.x q.x && (int_eq p.y q.y && int_eq p.z q.z)) ≡ true
    → p ≡ q
same_place p q t = grind (arith, common_steps, Decides-int_eq, and_parts)

pub returns-then-eq : goal.returns-then-eq
returns-then-eq g c = λ p m log after goes.
    let s = c.args.shrink.now in
    let a = c.args.a in
    let b = c.args.b in
    let place : Place = c.args.place in
    let wanted : Place = c.put-wanted.result in
    let same : wanted ≡ place = same_place wanted place (sym c.eq.ensures ∙ c.if-eq.true) in
    subst (IsPutBy p m log a b) same
    (put_wanted p m log s after a b place wanted (c.requires.place p m log after goes)
    (c.put-wanted.ensures p m log after goes)
    (subst (IsLegalPair s.surface a b) (sym same) c.requires.legal))
