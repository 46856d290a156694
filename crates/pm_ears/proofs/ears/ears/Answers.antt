use Rattle.std.proofs.Common.{◌≡◌, ◌<◌, ◌+◌, ◌++◌, List, [], ◌∷◌, Some, None, length, sym, ap, ◌∙◌}
use Rattle.std.proofs.Common.{subst, arith}
use Rattle.std.proofs.lemmas.List.Edits.{length-remove}
use Rattle.pm_base.specs.declared.mesh.Corners.{Corners}
use Rattle.pm_ears.specs.declared.spots.Spot.{Spot}
use Rattle.pm_ears.specs.Areas.{triangle_at}
use Rattle.pm_ears.specs.Ears.{next_ear, without}
use Rattle.pm_ears.specs.Cutting.{named}
use Rattle.pm_ears.proofs.Taking.{none_from, next_found, ears_next, ears_stop, ears_end}
use Rattle.pm_ears.proofs.ears.ears.Goals as goal

pub returns-in_default : goal.returns-in_default
returns-in_default c =
    let left = c.loop-taken.left.items in
    let none : next_ear left ≡ None =
    none_from (next_ear left) (λ k e. c.in_default.not-Some k
    (c.next_ear.ensures ∙ ap next_ear c.deref-in-loop-taken.ensures.value ∙ e)) in
    let l : 2 < length left =
    omega (arith, c.loop-taken.invariant.fewer, c.loop-taken-test.true, c.loop-taken.auto) in
    ears_stop c.loop-taken.triangles.items left _ l none c.loop-taken.invariant.so_far

pub triangle_at-requires : goal.triangle_at-requires
triangle_at-requires c =
    let left = c.loop-taken.left.items in
    let at = c.in-Some.at in
    let found : next_ear left ≡ Some at =
    sym (ap next_ear c.deref-in-loop-taken.ensures.value) ∙ sym c.next_ear.ensures
    ∙ c.in-Some.is in
    subst (λ (ss : List Spot). at + 2 < length ss) (sym c.deref-in-loop-taken-3.ensures.value)
    (next_found left at found).1

pub take_off-requires-clause-at : goal.take_off-requires-clause-at
take_off-requires-clause-at c =
    let left = c.loop-taken.left.items in
    let at = c.in-Some.at in
    let found : next_ear left ≡ Some at =
    sym (ap next_ear c.deref-in-loop-taken.ensures.value) ∙ sym c.next_ear.ensures
    ∙ c.in-Some.is in
    (next_found left at found).1

pub loop-taken-preserved : goal.loop-taken-preserved
loop-taken-preserved c =
    let left = c.loop-taken.left.items in
    let done = c.loop-taken.triangles.items in
    let at = c.in-Some.at in
    let found : next_ear left ≡ Some at =
    sym (ap next_ear c.deref-in-loop-taken.ensures.value) ∙ sym c.next_ear.ensures
    ∙ c.in-Some.is in
    let l = (next_found left at found).1 in
    let off : c.take_off.new.left.items ≡ without left at = c.take_off.ensures.left in
    let long : length c.take_off.new.left.items ≡ length (without left at) = ap length off in
    let less = length-remove left (at + 1) (omega (arith, l)) in
    let put : c.push.new.self.items ≡ done ++ named (triangle_at left at) ∷ [] =
    c.in_ok-push.ensures.ok
    ∙ ap (λ (t : Corners). done ++ t ∷ []) (c.named.ensures
    ∙ ap named (c.triangle_at.ensures
    ∙ ap (λ (ss : List Spot). triangle_at ss at) c.deref-in-loop-taken-3.ensures.value)) in
    record {
      fewer = omega (arith, long, less, c.loop-taken.invariant.fewer);
      counted = c.take_off.ensures.counted;
      so_far = ears_next done c.push.new.self.items left c.take_off.new.left.items at _ found off
          put c.loop-taken.invariant.so_far;
    }

pub returns : goal.returns
returns c =
    let left = c.loop-taken.left.items in
    ears_end c.loop-taken.triangles.items left _ (omega (
      arith,
      c.loop-taken.invariant.fewer,
      c.loop-taken-test.false,
    )) c.loop-taken.invariant.so_far
