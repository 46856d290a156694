use Rattle.std.proofs.Common.{◌∙◌, refl, sym, arith}
use Rattle.pm_links.proofs.Calls.{after_unlink}
use Rattle.pm_links.proofs.Members.{nil_from_first}
use Rattle.pm_simplify.proofs.Freeing.{first_has, shorter, stays_empty}
use Rattle.pm_simplify.proofs.free.free.Goals as goal

pub loop-item-init : goal.loop-item-init
loop-item-init g c = record {
  room = refl;
  items = refl;
  heads = refl;
  others = λ f none. none;
  right = λ p m log on right. right;
}

pub release-requires-clause-within : goal.release-requires-clause-within
release-requires-clause-within g c =
    let i = c.loop-item.invariant in
    let has = first_has c.loop-item.waiting c.args.face c.in-Some.item (sym c.first.ensures.value
    ∙ c.in-Some.is) in
    let low = c.first.ensures.sound.in_range c.args.face c.in-Some.item has in
    let items = i.items in
    let all = c.requires.items in
    omega arith

pub release-requires-clause-held : goal.release-requires-clause-held
release-requires-clause-held g c = (
  c.args.face,
  first_has c.loop-item.waiting c.args.face c.in-Some.item
      (sym c.first.ensures.value ∙ c.in-Some.is),
)

pub loop-item-smaller : goal.loop-item-smaller
loop-item-smaller g c =
    shorter c.loop-item.waiting c.release.new.waiting c.args.face c.in-Some.item
    c.first.ensures.sound (sym c.first.ensures.value ∙ c.in-Some.is) c.release.ensures.lists

pub loop-item-preserved : goal.loop-item-preserved
loop-item-preserved g c =
    let i = c.loop-item.invariant in
    let out = after_unlink c.loop-item.waiting c.release.new.waiting c.in-Some.item
    c.release.ensures.lists in
    record {
      room = c.release.ensures.room ∙ i.room;
      items = out.items ∙ i.items;
      heads = out.heads ∙ i.heads;
      others = λ f none. stays_empty c.loop-item.waiting c.release.new.waiting c.args.face
          c.in-Some.item c.first.ensures.sound (sym c.first.ensures.value ∙ c.in-Some.is)
          c.release.ensures.lists f (i.others f none);
      right = λ p m log on right. c.release.ensures.right p m log on (i.right p m log on right);
    }

pub returns-clause-empty : goal.returns-clause-empty
returns-clause-empty g c = nil_from_first _ (sym c.first.ensures.value ∙ c.in_default.is)
