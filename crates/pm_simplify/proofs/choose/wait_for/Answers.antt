use Rattle.std.proofs.Common.{◌≡◌, ◌≢◌, ◌∙◌, ℕ, true, [], length, sym, ap, subst, arith}
use Rattle.pm_links.specs.Lists.{Lists, list_of, list_without, has, IsFree}
use Rattle.pm_links.proofs.Calls.{after_push, has-push, after_unlink, has-unlink, free-unlink_same}
use Rattle.pm_simplify.proofs.Freeing.{held_if, free_if}
use Rattle.pm_simplify.proofs.choose.wait_for.Goals as goal
use Rattle.pm_simplify.proofs.choose.wait_for.Goals.{then-is_some, else-is_some}

pub unlink-requires : goal.unlink-requires
unlink-requires c =
    held_if c.args.waiting.now c.args.item c.head_of.result c.head_of.ensures.value
    (sym c.is_some.ensures ∙ c.if-is_some.true)

pub push_front-requires-clause-free : goal.push_front-requires-clause-free
push_front-requires-clause-free c =
    elim c.if-is_some.branch [
      | then-is_some w ↦ subst (λ (l : Lists). IsFree l c.args.item) (sym w.waiting-is)
          (free-unlink_same
          (after_unlink c.args.waiting.now w.unlink.new.self c.args.item w.unlink.ensures.lists))
      | else-is_some w ↦ subst (λ (l : Lists). IsFree l c.args.item) (sym w.waiting-is)
          (free_if c.args.waiting.now c.args.item c.head_of.result c.head_of.ensures.value
          (sym c.is_some.ensures ∙ w.if-is_some.false))
    ]

pub returns-clause-others : goal.returns-clause-others
returns-clause-others c =
    let was : Lists = c.args.waiting.now in
    let mid : Lists = c.if-is_some.waiting in
    let heads : length mid.lists ≡ length was.lists =
    elim c.if-is_some.branch [
      | then-is_some w ↦ ap (λ (l : Lists). length l.lists) w.waiting-is
          ∙ (after_unlink was w.unlink.new.self c.args.item w.unlink.ensures.lists).heads
      | else-is_some w ↦ ap (λ (l : Lists). length l.lists) w.waiting-is
    ] in
    let stay : (f e : ℕ) → e ≢ c.args.item → has (list_of was f) e ≡ true
    → has (list_of mid f) e ≡ true = λ f e ne h.
    elim c.if-is_some.branch [
      | then-is_some w ↦ ap (λ (l : Lists). has (list_of l f) e) w.waiting-is
          ∙ has-unlink (after_unlink was w.unlink.new.self c.args.item w.unlink.ensures.lists) f e
          ne ∙ h
      | else-is_some w ↦ ap (λ (l : Lists). has (list_of l f) e) w.waiting-is ∙ h
    ] in
    let low = c.requires.face_in in
    λ f e ne h. has-push
    (after_push mid c.push_front.new.self c.args.face c.args.item (omega (arith, low, heads))
    c.push_front.ensures.lists) f e (stay f e ne h)

pub returns-clause-empty : goal.returns-clause-empty
returns-clause-empty c =
    let was : Lists = c.args.waiting.now in
    let mid : Lists = c.if-is_some.waiting in
    let item : ℕ = c.args.item in
    let heads : length mid.lists ≡ length was.lists =
    elim c.if-is_some.branch [
      | then-is_some w ↦
          ap (λ (l : Lists). length l.lists) w.waiting-is
          ∙ (after_unlink was w.unlink.new.self item w.unlink.ensures.lists).heads
      | else-is_some w ↦ ap (λ (l : Lists). length l.lists) w.waiting-is
    ] in
    let stay : (f : ℕ) → list_of was f ≡ [] → list_of mid f ≡ [] = λ f none.
    elim c.if-is_some.branch [
      | then-is_some w ↦
          ap (λ (l : Lists). list_of l f) w.waiting-is
          ∙ (after_unlink was w.unlink.new.self item w.unlink.ensures.lists).lost f
          ∙ ap (list_without item) none
      | else-is_some w ↦ ap (λ (l : Lists). list_of l f) w.waiting-is ∙ none
    ] in
    let low = c.requires.face_in in
    λ f ne none.
    (after_push mid c.push_front.new.self c.args.face item (omega (arith, low, heads))
    c.push_front.ensures.lists).others f ne ∙ stay f none
