use Rattle.std.proofs.Common.{◌≡◌, ◌∙◌, ◌<◌, ℕ, List, Option, Some, [], length, refl, sym, subst}
use Rattle.std.proofs.Common.{arith}
use Rattle.pm_base.specs.declared.ids.Side.{Side}
use Rattle.pm_base.specs.Sides.{face_of}
use Rattle.pm_links.specs.Lists.{list_of}
use Rattle.pm_shrink.specs.Shrinking.{fan_at}
use Rattle.pm_simplify.specs.Walks.{still, IsWalk}
use Rattle.pm_simplify.proofs.Walking.{walk_begins, walk_ends, fan_shorter, fan_goes}
use Rattle.pm_simplify.proofs.free.free_around.Goals as goal

pub loop-at-init : goal.loop-at-init
loop-at-init g c = record {
  room = refl;
  items = refl;
  heads = refl;
  walk = walk_begins (fan_at c.args.shrink.now c.args.v)
      (λ e. list_of c.args.waiting.now (face_of e) ≡ []) c.first_corner-at.result
      c.first_corner-at.ensures.value;
  others = λ f none. none;
  right = λ p m log on right. right;
}

pub free-requires-clause-face_in : goal.free-requires-clause-face_in
free-requires-clause-face_in g c =
    let fan : List ℕ = fan_at c.args.shrink.now c.args.v in
    let walk : IsWalk fan (λ e. list_of c.loop-at.waiting (face_of e) ≡ [])
    (Some c.in-Some.corner) =
    subst (IsWalk fan (λ e. list_of c.loop-at.waiting (face_of e) ≡ [])) c.in-Some.is
    c.loop-at.invariant.walk in
    let low = (((c.invariant.ensures.kept.corners c.args.v).each c.in-Some.corner.0).0
    walk.held).0.is_side in
    let heads = c.loop-at.invariant.heads in
    let all = c.requires.heads in
    omega arith

pub loop-at-smaller : goal.loop-at-smaller
loop-at-smaller g c =
    let fan : List ℕ = fan_at c.args.shrink.now c.args.v in
    let walk : IsWalk fan (λ e. list_of c.loop-at.waiting (face_of e) ≡ [])
    (Some c.in-Some.corner) =
    subst (IsWalk fan (λ e. list_of c.loop-at.waiting (face_of e) ≡ [])) c.in-Some.is
    c.loop-at.invariant.walk in
    subst (λ (o : Option Side). length (still c.next_corner-at.result fan) < length (still o fan))
    (sym c.in-Some.is)
    (fan_shorter c.args.shrink.now c.args.v (c.invariant.ensures.kept.corners c.args.v)
    c.in-Some.corner c.next_corner-at.result walk.held c.next_corner-at.ensures.value)

pub loop-at-preserved : goal.loop-at-preserved
loop-at-preserved g c =
    let i = c.loop-at.invariant in
    let fan : List ℕ = fan_at c.args.shrink.now c.args.v in
    let walk : IsWalk fan (λ e. list_of c.loop-at.waiting (face_of e) ≡ [])
    (Some c.in-Some.corner) =
    subst (IsWalk fan (λ e. list_of c.loop-at.waiting (face_of e) ≡ [])) c.in-Some.is
    c.loop-at.invariant.walk in
    record {
      room = c.free.ensures.room ∙ i.room;
      items = c.free.ensures.items ∙ i.items;
      heads = c.free.ensures.heads ∙ i.heads;
      walk = fan_goes c.args.shrink.now c.args.v (c.invariant.ensures.kept.corners c.args.v)
          c.in-Some.corner c.next_corner-at.result walk.held c.next_corner-at.ensures.value
          (λ e. list_of c.loop-at.waiting (face_of e) ≡ [])
          (λ e. list_of c.free.new.waiting (face_of e) ≡ []) walk
          (λ e. c.free.ensures.others (face_of e))
          (subst (λ f. list_of c.free.new.waiting f ≡ []) c.face.ensures c.free.ensures.empty);
      others = λ f none. c.free.ensures.others f (i.others f none);
      right = λ p m log on right. c.free.ensures.right p m log on (i.right p m log on right);
    }

pub returns-clause-empty : goal.returns-clause-empty
returns-clause-empty g c = λ e st from.
    let Done : ℕ → Type 0 = λ e. list_of c.loop-at.waiting (face_of e) ≡ [] in
    walk_ends (fan_at c.args.shrink.now c.args.v) Done
    (subst (IsWalk (fan_at c.args.shrink.now c.args.v) Done) c.in_default.is
    c.loop-at.invariant.walk) e
    (((c.invariant.ensures.kept.corners c.args.v).each e).1 (st, from))
