use Rattle.std.proofs.Common.{◌≡◌, ◌∙◌, ℕ, Bool, List, None, not, true, ap, sym, subst}
use Rattle.std.proofs.lemmas.Bool.{not-true}
use Rattle.pm_base.specs.Sides.{Net, prev, to, twin_of}
use Rattle.pm_queue.specs.Entries.{Entries, key_at}
use Rattle.pm_shrink.specs.Shrinking.{net_at}
use Rattle.pm_simplify.specs.Items.{item_of}
use Rattle.pm_simplify.specs.KnownBorder.{is_noted}
use Rattle.pm_simplify.proofs.AroundLaws.{not_none}
use Rattle.pm_simplify.proofs.RestLaws.{no_key, rest_right}
use Rattle.pm_simplify.proofs.around.rests.Goals as goal

pub returns-then-has : goal.returns-then-has
returns-then-has c = λ t p m log after.
    let s = c.args.shrink.now in
    let n : Net = net_at s in
    let e : ℕ = c.args.corner.0 in
    let flags : List Bool = c.args.border.now in
    let queue : Entries = c.args.queue.now in
    let ahead = ap (is_noted flags) (c.vertex_at.ensures ∙ ap n.from c.next.ensures.value) in
    let onto : is_noted flags (to n e) ≡ true =
    sym ahead ∙ sym c.has.ensures ∙ c.if-has.true in
    let shared = not_none c.across.result (twin_of n e) c.across.ensures
    (c.is_none.ensures ∙ ap not c.if-is_none.false) in
    let never = not_none c.across-else-is_none.result (twin_of n (prev e))
    (c.across-else-is_none.ensures ∙ ap (twin_of n) c.prev.ensures.value)
    (c.is_none-else-is_none.ensures ∙ ap not c.if-is_none-2.false) in
    let bare = sym c.has-then-has.ensures ∙ not-true c.has-then-has.result t in
    let empty : key_at queue (item_of n e) ≡ None =
    subst (λ i. key_at queue i ≡ None) c.item_of.ensures.value (no_key _ bare) in
    rest_right s c.invariant.ensures.kept.surface flags c.requires.noted e c.requires.stands
    c.requires.start onto shared p m log after queue empty never
