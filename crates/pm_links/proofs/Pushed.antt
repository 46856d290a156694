-- The arena after an item is put first in a list.
use Rattle.std.proofs.Common.{◌≡◌, ◌≢◌, ℕ, ◌+◌, ◌<◌, true, false, eqb, List, [], ◌∷◌, length}
use Rattle.std.proofs.Common.{get_or, set, sym, ap, ◌∙◌, subst, ◌⊎◌, ⊎_elim, arith}
use Rattle.std.proofs.Common.{get_or-set_other, get_or-set_same, length-set}
use Rattle.std.proofs.lemmas.Bool.{or_cases, or_right, eqb-true, cases_eq}
use Rattle.pm_links.specs.Lists.{has}
use Rattle.pm_links.specs.Arena.{IsArena}
use Rattle.pm_links.proofs.Members.{has_head, differs}
use Rattle.pm_links.proofs.Runs.{linked-set, relink_front}
use Rattle.pm_links.proofs.Outside.{IsOutside, stays, head_out, outside_head, outside, first_at}
use Rattle.pm_links.proofs.Outside.{node_in}

-- item x is put first in the list of head h; f is the node that was first
pub pushed : {n m : ℕ} {next prev owner : List ℕ} {ls : List (List ℕ)} →
    IsArena n m next prev owner ls → (h x f : ℕ) → h < m → x < n →
    ((g : ℕ) → has (get_or ls g []) x ≡ false) → get_or next (n + h) 0 ≡ f →
    IsArena n m (set (set next x f) (n + h) x) (set (set prev f x) x (n + h)) (set owner x h)
    (set ls h (x ∷ get_or ls h []))
pushed {n} {m} {next} {prev} {owner} {ls} a h x f hm xn free fi =
    let xs : List ℕ = get_or ls h [] in
    let f_at : (f ≡ n + h) ⊎ (has xs f ≡ true) =
    subst (λ (k : ℕ). (k ≡ n + h) ⊎ (has xs k ≡ true)) fi (first_at a h hm) in
    let f_in : f < n + m = node_in a h f hm f_at in
    let here : h < length ls = rw a.heads hm in
    let at_h : get_or (set ls h (x ∷ xs)) h [] ≡ x ∷ xs = get_or-set_same ls h (x ∷ xs) [] here in
    let at : (g : ℕ) → g ≢ h → get_or (set ls h (x ∷ xs)) g [] ≡ get_or ls g [] =
    λ g ne. get_or-set_other ls h g (x ∷ xs) [] ne in
    let own_x : get_or (set owner x h) x 0 ≡ h = get_or-set_same owner x h 0 (rw a.owner_len xn) in
    let own : (y : ℕ) → y ≢ x → get_or (set owner x h) y 0 ≡ get_or owner y 0 =
    λ y ne. get_or-set_other owner x y h 0 ne in
    record {
      few_items = a.few_items;
      few_heads = a.few_heads;
      heads = length-set ls h (x ∷ xs) ∙ a.heads;
      next_len = length-set (set next x f) (n + h) x ∙ length-set next x f ∙ a.next_len;
      prev_len = length-set (set prev f x) x (n + h) ∙ length-set prev f x ∙ a.prev_len;
      owner_len = length-set owner x h ∙ a.owner_len;
      linked = λ g gm. ⊎_elim
          (λ (e : g ≡ h). rw e (rw at_h (
            get_or-set_same (set next x f) (n + h) x 0
                (rw (length-set next x f, a.next_len) (omega arith)),
            get_or-set_same (set prev f x) x (n + h) 0
                (rw (length-set prev f x, a.prev_len) (omega arith)),
            linked-set (set next x f) (set prev f x) (n + h) x x (n + h) x xs (n + h) (omega arith)
                (head_out a h hm) (omega arith) (free h)
                (relink_front next prev (n + h) f x xs (n + h) (rw a.next_len (omega arith))
                (rw a.prev_len f_in) fi (free h)
                (head_out a h hm) (a.once h hm) (a.linked h hm)),
          )))
          (λ ne. let hg : h ≢ g = λ k. ne (sym k) in
          let ox : IsOutside n ls g x = record { start = omega arith; inner = free g } in
          let of : IsOutside n ls g f = outside a g h f gm hm hg f_at in
          let oh : IsOutside n ls g (n + h) = outside_head a g h gm hg in
          rw (at g ne) (stays n (set next x f) (set prev f x) ls g (n + h) x x (n + h) oh ox
          (stays n next prev ls g x f f x ox of (a.linked g gm))))
          (cases_eq g h);
      once = λ g gm. ⊎_elim (λ (e : g ≡ h). rw e (rw at_h (free h, a.once h hm)))
          (λ ne. rw (at g ne) (a.once g gm)) (cases_eq g h);
      in_range = λ g y gm i. ⊎_elim
          (λ (e : g ≡ h). let i2 : has (x ∷ xs) y ≡ true =
          subst (λ (k : List ℕ). has k y ≡ true)
          (ap (λ k. get_or (set ls h (x ∷ xs)) k []) e ∙ at_h) i in
          ⊎_elim (λ k. let is : x ≡ y = eqb-true x y k in omega arith) (λ k. a.in_range h y hm k)
          (or_cases (eqb x y) (has xs y) i2))
          (λ ne. a.in_range g y gm (rw (at g ne) at i)) (cases_eq g h);
      owned = λ g y gm i. ⊎_elim
          (λ (e : g ≡ h). let i2 : has (x ∷ xs) y ≡ true =
          subst (λ (k : List ℕ). has k y ≡ true)
          (ap (λ k. get_or (set ls h (x ∷ xs)) k []) e ∙ at_h) i in
          ⊎_elim (λ k. let is : y ≡ x = sym (eqb-true x y k) in rw is (own_x ∙ sym e))
          (λ k. own y (λ t. differs xs y x k (free h) t) ∙ a.owned h y hm k ∙ sym e)
          (or_cases (eqb x y) (has xs y) i2))
          (λ ne. let i2 : has (get_or ls g []) y ≡ true = rw (at g ne) at i in
          own y (λ t. differs (get_or ls g []) y x i2 (free g) t) ∙ a.owned g y gm i2)
          (cases_eq g h);
      listed = λ y yn. ⊎_elim
          (λ (e : y ≡ x). rw e (rw own_x (rw at_h (λ _. has_head x xs))))
          (λ ne. rw (own y ne) (λ lt. ⊎_elim
          (λ (e : get_or owner y 0 ≡ h). let k : has xs y ≡ true = rw e at (a.listed y yn lt) in
          rw e (rw at_h (or_right (eqb x y) (has xs y) k)))
          (λ d. rw (at (get_or owner y 0) d) (a.listed y yn lt)) (cases_eq (get_or owner y 0) h)))
          (cases_eq y x);
    }
