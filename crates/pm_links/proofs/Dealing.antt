-- Laws for callers: a loop that takes the first item of one list and puts it first in one of two
-- others.
use Rattle.std.proofs.Common.{◌≡◌, ◌≢◌, ℕ, ◌<◌, Some, Bool, true, false, not, eqb, List, [], ◌∷◌}
use Rattle.std.proofs.Common.{◌++◌, length, reverse, sym, refl, ap, ◌∙◌, subst, ◌⊎◌, ⊎_elim}
use Rattle.std.proofs.Common.{append_assoc, arith}
use Rattle.std.specs.List.{filter}
use Rattle.std.proofs.lemmas.Grind.{reverse_onto, common_steps}
use Rattle.std.proofs.lemmas.Bool.{eqb-true, eqb-false, eq-eqb, cases_Bool}
use Rattle.pm_links.specs.Lists.{Lists, list_of, has, first_of, after, IsOnce, IsSound}
use Rattle.pm_links.specs.Lists.{list_without, with_first, without_item}
use Rattle.pm_links.specs.Dealt.{dealt}
use Rattle.pm_links.proofs.Members.{has_head, first_is}
use Rattle.pm_links.proofs.Without.{without_first}
use Rattle.pm_links.proofs.Calls.{after_push, after_unlink, others-unlink}

-- ---- the first item of one list goes first in another

pub record MovesFirst (v w : Lists) (from to x : ℕ) (xs : List ℕ) : Type 0 where
  pub taken : list_of w from ≡ xs
  pub put : list_of w to ≡ x ∷ list_of v to
  pub others : (g : ℕ) → g ≢ from → g ≢ to → list_of w g ≡ list_of v g
  pub items : w.items ≡ v.items
  pub heads : length w.lists ≡ length v.lists

-- after `unlink` and `push_front`
pub moves_first : (v m w : Lists) (from to x : ℕ) (xs : List ℕ) → IsSound v →
    list_of v from ≡ x ∷ xs → to ≢ from → to < length v.lists → m ≡ without_item v x →
    w ≡ with_first m to x → MovesFirst v w from to x xs
moves_first v m w from to x xs s first ne low me we =
    let held : has (list_of v from) x ≡ true = rw first (has_head x xs) in
    let u = after_unlink v m x me in
    let p = after_push m w to x (rw u.heads low) we in
    record {
      taken = p.others from (λ k. ne (sym k)) ∙ u.lost from ∙ ap (list_without x) first
          ∙ without_first x xs (subst IsOnce first (s.once from));
      put = p.gained ∙ ap (λ k. x ∷ k) (others-unlink u from to s held ne);
      others = λ g nf nt. p.others g nt ∙ others-unlink u from g s held nf;
      items = p.items ∙ u.items;
      heads = p.heads ∙ u.heads;
    }

-- ---- what is dealt ends where dealing the first lists does

-- nothing is left to deal
pub dealt_end : (p : ℕ → Bool) (v : Lists) (from left right h : ℕ) → list_of v from ≡ [] →
    list_of v h ≡ dealt p v from left right h
dealt_end p v from left right h e = grind (arith, common_steps, eqb-true, ⊎_elim)

reverse_cons : (x : ℕ) (xs ys : List ℕ) → reverse (x ∷ xs) ++ ys ≡ reverse xs ++ x ∷ ys
reverse_cons x xs ys =
    ap (λ k. k ++ ys) (reverse_onto xs x []) ∙ append_assoc (reverse xs) (x ∷ []) ys

-- one item is dealt
pub dealt_step : (p : ℕ → Bool) (v w : Lists) (from left right to x h : ℕ) (xs : List ℕ) →
    left ≢ from → right ≢ from → right ≢ left →
    (to ≡ left) × (p x ≡ true) ⊎ (to ≡ right) × (p x ≡ false) →
    list_of v from ≡ x ∷ xs → MovesFirst v w from to x xs →
    dealt p w from left right h ≡ dealt p v from left right h
dealt_step p v w from left right to x h xs lf rf rl c vf move =
    ⊎_elim (λ (k : eqb h from ≡ true). rw k refl)
    (λ (k : eqb h from ≡ false). rw k (⊎_elim
    (λ (m : eqb h left ≡ true). rw (m, vf, move.taken) (⊎_elim
    (λ d. rw d.1 (ap (λ k. reverse (filter p xs) ++ k)
    (subst (λ (k : ℕ). list_of w k ≡ x ∷ list_of v k) d.0 move.put)
    ∙ sym (reverse_cons x (filter p xs) (list_of v left))))
    (λ d. rw d.1
    (ap (λ k. reverse (filter p xs) ++ k) (move.others left lf (λ t. rl (sym d.0 ∙ sym t)))))
    c))
    (λ (m : eqb h left ≡ false). rw m (⊎_elim
    (λ (t : eqb h right ≡ true). rw (t, vf, move.taken) (⊎_elim
    (λ d. rw d.1 (ap (λ k. reverse (filter (λ y. not (p y)) xs) ++ k)
    (move.others right rf (λ t. rl (t ∙ d.0)))))
    (λ d. rw d.1 (ap (λ k. reverse (filter (λ y. not (p y)) xs) ++ k)
    (subst (λ (k : ℕ). list_of w k ≡ x ∷ list_of v k) d.0 move.put)
    ∙ sym (reverse_cons x (filter (λ y. not (p y)) xs) (list_of v right))))
    c))
    (λ (t : eqb h right ≡ false). rw t (move.others h (eqb-false h from k)
    (λ s. ⊎_elim (λ d. eqb-false h left m (s ∙ d.0)) (λ d. eqb-false h right t (s ∙ d.0)) c)))
    (cases_Bool (eqb h right))))
    (cases_Bool (eqb h left))))
    (cases_Bool (eqb h from))

after_first : (x : ℕ) (xs : List ℕ) → after x (x ∷ xs) ≡ xs
after_first x xs = rw (eq-eqb x x refl) refl

-- what one turn of the loop keeps
pub record DealsOne (p : ℕ → Bool) (v w : Lists) (from left right x : ℕ) : Type 0 where
  pub rest : list_of w from ≡ after x (list_of v from)
  pub shorter : length (list_of w from) < length (list_of v from)
  pub items : w.items ≡ v.items
  pub heads : length w.lists ≡ length v.lists
  pub lists : (h : ℕ) → dealt p w from left right h ≡ dealt p v from left right h

pub dealt_turn : (p : ℕ → Bool) (v m w : Lists) (from left right to x : ℕ) → IsSound v →
    left ≢ from → right ≢ from → right ≢ left →
    left < length v.lists → right < length v.lists →
    (to ≡ left) × (p x ≡ true) ⊎ (to ≡ right) × (p x ≡ false) → first_of (list_of v from) ≡ Some x →
    m ≡ without_item v x → w ≡ with_first m to x → DealsOne p v w from left right x
dealt_turn p v m w from left right to x s lf rf rl ll rlow c first me we =
    let at = first_is (list_of v from) x first in
    let ne : to ≢ from = λ k. ⊎_elim (λ d. lf (sym d.0 ∙ k)) (λ d. rf (sym d.0 ∙ k)) c in
    let low : to < length v.lists = ⊎_elim (λ d. subst (λ (k : ℕ). k < length v.lists) (sym d.0) ll)
    (λ d. subst (λ (k : ℕ). k < length v.lists) (sym d.0) rlow) c in
    let move = moves_first v m w from to x at.0 s at.1 ne low me we in
    record {
      rest = move.taken ∙ sym (ap (after x) at.1 ∙ after_first x at.0);
      shorter = omega (arith, ap length move.taken, ap length at.1);
      items = move.items;
      heads = move.heads;
      lists = λ h. dealt_step p v w from left right to x h at.0 lf rf rl c at.1 move;
    }

-- ---- all of it as one value
