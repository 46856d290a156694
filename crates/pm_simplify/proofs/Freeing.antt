-- Items that are taken out of the lists in which they wait.
use Rattle.std.specs.Prelude.{is_some}
use Rattle.std.proofs.Common.{◌≡◌, ◌↔◌, ℕ, ◌<◌, true, false, Option, Some, None, List, []}
use Rattle.std.proofs.Common.{length, inl, inr, refl, sym, ap, ◌∙◌, subst, arith}
use Rattle.std.proofs.lemmas.Bool.{cases_eq, false≢true}
use Rattle.pm_base.specs.declared.log.Collapse.{Collapse}
use Rattle.pm_base.specs.Meshes.{Mesh}
use Rattle.pm_base.specs.Sides.{Stands}
use Rattle.pm_links.specs.Lists.{Lists, list_of, has, first_of, list_without, without_item}
use Rattle.pm_links.specs.Lists.{IsOnce, IsHeld, IsFree, IsSound}
use Rattle.pm_links.proofs.Members.{has_head, first_is}
use Rattle.pm_links.proofs.Without.{without_first}
use Rattle.pm_links.proofs.Calls.{after_unlink, has-unlink, free_from_none}
use Rattle.pm_queue.specs.Entries.{Entries}
use Rattle.pm_policies.specs.Policies.{Policy}
use Rattle.pm_simplify.specs.Items.{item_of}
use Rattle.pm_simplify.specs.Choices.{net_after, IsRightAt, IsRight, StaysRight}
use Rattle.pm_simplify.proofs.Waiting.{held_kept}

-- An item is taken out, and its edge weighed if it is still one.
pub released :
    (p : Policy) (m : Mesh) (log : List Collapse) (old new : Entries) (was now : Lists) →
    (i : ℕ) → IsRight p m log old was → now ≡ without_item was i → StaysRight p m log old new →
    (Stands (net_after m log) i → IsRightAt p m log new (item_of (net_after m log) i)) →
    IsRight p m log new now
released p m log old new was now i right is stays weighed =
    let n = net_after m log in
    let out = after_unlink was now i is in
    record {
      keys = λ e. (stays e).0 (right.keys e);
      edges = λ e st item.
          elim (cases_eq e i) [
            | inl same ↦
                inl (subst (IsRightAt p m log new) (ap (item_of n) (sym same) ∙ item)
                (weighed (subst (Stands n) same st)))
            | inr ne ↦
                elim (right.edges e st item) [
                  | inl r ↦ inl ((stays e).1 r)
                  | inr h ↦
                      inr (held_kept p m log was now e
                      (λ f listed. has-unlink out f e ne ∙ listed) h)
                ]
          ];
    }

-- The first item of a list is in it.
pub first_has : (was : Lists) (face i : ℕ) → first_of (list_of was face) ≡ Some i
    → has (list_of was face) i ≡ true
first_has was face i first = let (rest, all) = first_is (list_of was face) i first in
    ap (λ l. has l i) all ∙ has_head i rest

module _ (was now : Lists) (face i : ℕ) (sound : IsSound was) (first : first_of (list_of was face)
    ≡ Some i) (is : now ≡ without_item was i) where
  -- The list of which the first item goes gets shorter.
  pub shorter : length (list_of now face) < length (list_of was face)
  shorter =
      let (rest, all) = first_is (list_of was face) i first in
      let now_is : list_of now face ≡ rest =
      (after_unlink was now i is).lost face ∙ ap (list_without i) all
      ∙ without_first i rest (subst IsOnce all (sound.once face)) in
      let a = ap (λ (l : List ℕ). length l) now_is in
      let b = ap (λ (l : List ℕ). length l) all in
      omega arith

  -- An empty list stays empty.
  pub stays_empty : (f : ℕ) → list_of was f ≡ [] → list_of now f ≡ []
  stays_empty f none = (after_unlink was now i is).lost f ∙ ap (list_without i) none

-- Whether an item is in a list.
module _ (lists : Lists) (i : ℕ) where
  pub held_if : (head : Option ℕ) → ((h : ℕ) → (head ≡ Some h) ↔ (has (list_of lists h) i ≡ true))
      → is_some head ≡ true → IsHeld lists i
  held_if None at some = absurd (false≢true some)
  held_if (Some h) at some = (h, (at h).0 refl)

  pub free_if : (head : Option ℕ) → ((h : ℕ) → (head ≡ Some h) ↔ (has (list_of lists h) i ≡ true))
      → is_some head ≡ false → IsFree lists i
  free_if None at none = free_from_none lists i None at refl
  free_if (Some h) at none = absurd (false≢true (sym none))
