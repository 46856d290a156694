-- Laws for callers: the list of each head after a call, and which items are then held or free. Each
-- takes the call's clause as it stands.
use Rattle.std.proofs.Common.{◌≡◌, ◌≢◌, ◌↔◌, ℕ, ◌<◌, ◌≤◌, Option, Some, None, true, eqb, List, []}
use Rattle.std.proofs.Common.{arith}
use Rattle.std.proofs.lemmas.Grind.{common_steps}
use Rattle.std.proofs.Common.{◌∷◌, ◌++◌, length, sym, ap, ◌∙◌, ⊎_elim, get_or-set_other}
use Rattle.std.proofs.Common.{get_or-set_same, length-set}
use Rattle.std.proofs.lemmas.List.{length-map, get_or_past}
use Rattle.std.proofs.lemmas.Option.{none-some}
use Rattle.std.proofs.lemmas.Bool.{or_from, cases_lt, cases_eq, ne_eqb, false≢true}
use Rattle.std.proofs.lemmas.Bool.{false_from_ne_true}
use Rattle.pm_links.specs.Lists.{Lists, IsHeld, IsFree, IsSound, list_of, has, list_without}
use Rattle.pm_links.specs.Lists.{with_list, with_first, with_moved, without_item}
use Rattle.pm_links.proofs.Members.{has_tail}
use Rattle.pm_links.proofs.Without.{without_none, has-without, has-without_same, get_without}

-- ---- lists of a value

pub list_of-past : (v : Lists) (h : ℕ) → length v.lists ≤ h → list_of v h ≡ []
list_of-past v h past = get_or_past v.lists h [] past

-- a head whose list has an item is a head
pub head_in : (v : Lists) (h x : ℕ) → has (list_of v h) x ≡ true → h < length v.lists
head_in v h x i =
    ⊎_elim (λ lt. lt) (λ ge. absurd (false≢true
    (ap (λ k. has k x) (sym (list_of-past v h ge)) ∙ i))) (cases_lt h (length v.lists))

pub list_of-with_list_same : (v : Lists) (h : ℕ) (xs : List ℕ) → h < length v.lists →
    list_of (with_list v h xs) h ≡ xs
list_of-with_list_same v h xs l = get_or-set_same v.lists h xs [] l

pub list_of-with_list_other : (v : Lists) (h g : ℕ) (xs : List ℕ) → g ≢ h →
    list_of (with_list v h xs) g ≡ list_of v g
list_of-with_list_other v h g xs ne = get_or-set_other v.lists h g xs [] ne

-- ---- head_of

-- it answers `None` exactly for a free item
pub free_from_none : (v : Lists) (x : ℕ) (head : Option ℕ) →
    ((h : ℕ) → (head ≡ Some h) ↔ (has (list_of v h) x ≡ true)) → head ≡ None → IsFree v x
free_from_none v x head clause e h = false_from_ne_true (has (list_of v h) x)
    (λ t. none-some h (sym e ∙ (clause h).1 t))

-- ---- push_front

pub record AfterPush (v w : Lists) (head item : ℕ) : Type 0 where
  pub gained : list_of w head ≡ item ∷ list_of v head
  pub others : (g : ℕ) → g ≢ head → list_of w g ≡ list_of v g
  pub items : w.items ≡ v.items
  pub heads : length w.lists ≡ length v.lists

pub after_push : (v w : Lists) (head item : ℕ) → head < length v.lists →
    w ≡ with_first v head item → AfterPush v w head item
after_push v w head item low e =
    grind (arith, common_steps, length-set, list_of-with_list_other, list_of-with_list_same)

module _ {v w : Lists} {head item : ℕ} (a : AfterPush v w head item) where
  -- an item stays in its list
  pub has-push : (h x : ℕ) → has (list_of v h) x ≡ true → has (list_of w h) x ≡ true
  has-push h x i = grind (arith, common_steps, has_tail, ⊎_elim)

  -- another item stays free
  pub free-push : (x : ℕ) → item ≢ x → IsFree v x → IsFree w x
  free-push x ne f h =
      ⊎_elim
      (λ (e : h ≡ head). rw e (ap (λ k. has k x) a.gained
      ∙ or_from (eqb item x) (has (list_of v head) x) (ne_eqb item x ne) (f head)))
      (λ nh. ap (λ k. has k x) (a.others h nh) ∙ f h)
      (cases_eq h head)

-- ---- unlink

pub record AfterUnlink (v w : Lists) (item : ℕ) : Type 0 where
  pub lost : (g : ℕ) → list_of w g ≡ list_without item (list_of v g)
  pub items : w.items ≡ v.items
  pub heads : length w.lists ≡ length v.lists

pub after_unlink : (v w : Lists) (item : ℕ) → w ≡ without_item v item → AfterUnlink v w item
after_unlink v w item e = grind (arith, common_steps, get_without, length-map)

module _ {v w : Lists} {item : ℕ} (a : AfterUnlink v w item) where
  -- only the list of the item's head loses it
  pub others-unlink : (h g : ℕ) → IsSound v → has (list_of v h) item ≡ true → g ≢ h →
      list_of w g ≡ list_of v g
  others-unlink h g s i ne =
      a.lost g ∙ without_none item (list_of v g)
      (false_from_ne_true (has (list_of v g) item) (λ t. ne (s.apart g h item t i)))

  -- the item is free
  pub free-unlink_same : IsFree w item
  free-unlink_same h = ap (λ k. has k item) (a.lost h) ∙ has-without_same item (list_of v h)

  -- another item is where it was
  pub has-unlink : (h x : ℕ) → x ≢ item → has (list_of w h) x ≡ has (list_of v h) x
  has-unlink h x ne = ap (λ k. has k x) (a.lost h) ∙ has-without item (list_of v h) x ne

  pub held-unlink : (x : ℕ) → x ≢ item → IsHeld v x → IsHeld w x
  held-unlink x ne i = (i.0, has-unlink i.0 x ne ∙ i.1)

-- ---- move_all

pub record AfterMove (v w : Lists) (from to : ℕ) : Type 0 where
  pub emptied : list_of w from ≡ []
  pub gained : list_of w to ≡ list_of v from ++ list_of v to
  pub others : (g : ℕ) → g ≢ from → g ≢ to → list_of w g ≡ list_of v g
  pub items : w.items ≡ v.items
  pub heads : length w.lists ≡ length v.lists

pub after_move : (v w : Lists) (from to : ℕ) → from < length v.lists → to < length v.lists →
    from ≢ to → w ≡ with_moved v from to → AfterMove v w from to
after_move v w from to fl tl ne e =
    grind (arith, common_steps, length-set, list_of-with_list_other, list_of-with_list_same)
