use Rattle.std.proofs.Common.{◌≡◌, ◌-◌, ◌*◌, ◌<◌, ℕ, Bool, true, List, Some, sym, ap, subst}
use Rattle.std.proofs.lemmas.Bool.{both_ways}
use Rattle.pm_forest.specs.Fronts.{IsFront, without}
use Rattle.pm_base.specs.Counts.{set_of}
use Rattle.pm_forest.specs.Faces.{face_count, record_of}
use Rattle.pm_beyond.specs.Walks.{Beyond, expected}
use Rattle.pm_beyond.specs.Valid.{IsAsTold}
use Rattle.pm_sides.specs.Stored.{AreStored}
use Rattle.pm_sides.specs.Told.{TellsAll}
use Rattle.pm_sides.specs.Lowering.{Lowered}
use Rattle.pm_sides.proofs.LoweringLaws.{lowered-front, last_split, last_told, last_fails}
use Rattle.pm_sides.proofs.LoweringLaws.{last_beyond, lowering-goes_on}
use Rattle.pm_sides.proofs.lowering.Lowering.lower.Goals as goal

pub tells_all-requires-clause-front : goal.tells_all-requires-clause-front
tells_all-requires-clause-front c =
    let i = c.self.invariant in
    let h = c.self.inside.indexed in
    let front = lowered-front h i.shape i.once c.self.inside.split.items c.self.inside.left
    i.lowered i.flag_len in
    subst (λ (fs : List Bool). IsFront h (set_of fs)) (sym c.deref.ensures.value) front

pub tells_all-requires-clause-is_split : goal.tells_all-requires-clause-is_split
tells_all-requires-clause-is_split c =
    let i = c.self.invariant in
    let left = c.self.inside.left in
    let some = subst (λ (o : Lowered). 0 < o.left) (sym c.self.view_is) c.requires in
    let split = last_split c.self.inside.indexed i.shape i.once c.self.inside.split.items left
    i.lowered i.flag_len some in
    subst (λ (fs : List Bool). set_of fs (left - 1) ≡ true) (sym c.deref.ensures.value) split

pub link_over-requires-clause-is_split : goal.link_over-requires-clause-is_split
link_over-requires-clause-is_split c =
    let i = c.self.invariant in
    let left = c.self.inside.left in
    let some = subst (λ (o : Lowered). 0 < o.left) (sym c.self.view_is) c.requires in
    let split = last_split c.self.inside.indexed i.shape i.once c.self.inside.split.items left
    i.lowered i.flag_len some in
    subst (λ (fs : List Bool). set_of fs (left - 1) ≡ true) (sym c.deref-2.ensures.value) split

pub link_over-requires-clause-told : goal.link_over-requires-clause-told
link_over-requires-clause-told c =
    let i = c.self.invariant in
    let h = c.self.inside.indexed in
    let flags = c.self.inside.split.items in
    let left = c.self.inside.left in
    let some = subst (λ (o : Lowered). 0 < o.left) (sym c.self.view_is) c.requires in
    let tells = subst (λ (fs : List Bool). TellsAll h (set_of fs) (left - 1)) c.deref.ensures.value
    (c.tells_all.ensures.0 c.if-not-tells_all.false) in
    let standing = last_beyond h i.shape i.once flags left i.lowered i.flag_len some tells in
    subst (λ (fs : List Bool). (e : ℕ) → e < 3 * face_count h → record_of h e ≡ Some (left - 1)
    → Beyond h (set_of fs) e (expected h e)) (sym c.deref-2.ensures.value) standing

pub returns-then-not-tells_all-clause-bad : goal.returns-then-not-tells_all-clause-bad
returns-then-not-tells_all-clause-bad c =
    let i = c.self.invariant in
    let h = c.self.inside.indexed in
    let left = c.self.inside.left in
    let some = subst (λ (o : Lowered). 0 < o.left) (sym c.self.view_is) c.requires in
    let fails = last_fails h i.shape i.once c.self.inside.split.items left i.lowered i.flag_len some
    (λ tells. both_ways c.tells_all.result c.if-not-tells_all.true
    (c.tells_all.ensures.1
    (subst (λ (fs : List Bool). TellsAll h (set_of fs) (left - 1)) (sym c.deref.ensures.value)
    tells))) in (
      ap (λ (o : Lowered). o.left - 1) c.self.view_is,
      subst (λ (o : Lowered). IsAsTold o.h (left - 1) → ⊥) c.self.view_is fails,
    )

pub invariant_of-self : goal.invariant_of-self
invariant_of-self c =
    let h = c.self.inside.indexed in
    let flags = c.self.inside.split.items in
    let left = c.self.inside.left in
    let some = subst (λ (o : Lowered). 0 < o.left) (sym c.self.view_is) c.requires in
    let tells = subst (λ (fs : List Bool). TellsAll h (set_of fs) (left - 1)) c.deref.ensures.value
    (c.tells_all.ensures.0 c.if-not-tells_all.false) in
    let now = c.link_over.new.self in
    lowering-goes_on h flags c.self.inside.table left c.self.invariant some tells now
    (subst (λ (fs : List Bool). AreStored h (without (set_of fs) (left - 1)) now)
    c.deref-2.ensures.value c.link_over.ensures)

pub returns-clause-good : goal.returns-clause-good
returns-clause-good c =
    let i = c.self.invariant in
    let h = c.self.inside.indexed in
    let left = c.self.inside.left in
    let some = subst (λ (o : Lowered). 0 < o.left) (sym c.self.view_is) c.requires in
    let tells = subst (λ (fs : List Bool). TellsAll h (set_of fs) (left - 1)) c.deref.ensures.value
    (c.tells_all.ensures.0 c.if-not-tells_all.false) in
    let told = last_told h i.shape i.once c.self.inside.split.items left i.lowered i.flag_len some
    tells in
    subst (λ (o : Lowered). IsAsTold o.h (o.left - 1)) c.self.view_is told
