-- The arena after an item is taken out of its list.
use Rattle.std.proofs.Common.{◌≡◌, ◌≢◌, ℕ, ◌+◌, ◌<◌, ◌≤◌, true, false, List, [], get_or, set, map}
use Rattle.std.proofs.Common.{sym, ◌∙◌, subst, ◌⊎◌, ⊎_elim, arith, get_or-set_other}
use Rattle.std.proofs.Common.{get_or-set_same, length-set}
use Rattle.std.proofs.lemmas.List.{length-map}
use Rattle.std.proofs.lemmas.Bool.{cases_eq}
use Rattle.pm_links.specs.Lists.{has, list_without}
use Rattle.pm_links.specs.Arena.{IsArena}
use Rattle.pm_links.proofs.Without.{without_none, has-without, was_there, once-without, get_without}
use Rattle.pm_links.proofs.Runs.{cut}
use Rattle.pm_links.proofs.Outside.{stays, head_out, outside_item, outside, before_at, after_at}
use Rattle.pm_links.proofs.Outside.{before_in, after_in}

-- item x is taken out of the list of head h; p and q are the nodes beside it, and `none` marks an
-- item without an owner
pub unlinked : {n m : ℕ} {next prev owner : List ℕ} {ls : List (List ℕ)} →
    IsArena n m next prev owner ls → (h x p q none : ℕ) → h < m → has (get_or ls h []) x ≡ true →
    get_or prev x 0 ≡ p → get_or next x 0 ≡ q → m ≤ none →
    IsArena n m (set next p q) (set prev q p) (set owner x none) (map (list_without x) ls)
unlinked {n} {m} {next} {prev} {owner} {ls} a h x p q none hm i pi qi mn =
    let xs : List ℕ = get_or ls h [] in
    let xn : x < n = a.in_range h x hm i in
    let p_at : (p ≡ n + h) ⊎ (has xs p ≡ true) =
    subst (λ (k : ℕ). (k ≡ n + h) ⊎ (has xs k ≡ true)) pi (before_at a h x i) in
    let q_at : (q ≡ n + h) ⊎ (has xs q ≡ true) =
    subst (λ (k : ℕ). (k ≡ n + h) ⊎ (has xs k ≡ true)) qi (after_at a h x i) in
    let p_in : p < n + m = subst (λ (k : ℕ). k < n + m) pi (before_in a h x i) in
    let q_in : q < n + m = subst (λ (k : ℕ). k < n + m) qi (after_in a h x i) in
    let out : has xs (n + h) ≡ false = head_out a h hm in
    let own : (y : ℕ) → y ≢ x → get_or (set owner x none) y 0 ≡ get_or owner y 0 =
    λ y ne. get_or-set_other owner x y none 0 ne in
    let own_x : get_or (set owner x none) x 0 ≡ none =
    get_or-set_same owner x none 0 (rw a.owner_len xn) in
    let back : (g y : ℕ) → has (get_or (map (list_without x) ls) g []) y ≡ true →
    (y ≢ x) × (has (get_or ls g []) y ≡ true) =
    λ g y k. was_there x (get_or ls g []) y
    (subst (λ (ys : List ℕ). has ys y ≡ true) (get_without x ls g) k) in
    record {
      few_items = a.few_items;
      few_heads = a.few_heads;
      heads = length-map ls (list_without x) ∙ a.heads;
      next_len = length-set next p q ∙ a.next_len;
      prev_len = length-set prev q p ∙ a.prev_len;
      owner_len = length-set owner x none ∙ a.owner_len;
      linked = λ g gm. rw (get_without x ls g) (⊎_elim
          (λ (e : g ≡ h). rw e (cut next prev (n + h) xs (n + h) x p q (rw a.next_len p_in)
          (rw a.prev_len q_in) pi qi out out (a.once h hm) i (a.linked h hm)))
          (λ ne. let hg : h ≢ g = λ k. ne (sym k) in
          let lacks : has (get_or ls g []) x ≡ false = (outside_item a g h x gm hm hg i).inner in
          rw (without_none x (get_or ls g []) lacks)
          (stays n next prev ls g p q q p (outside a g h p gm hm hg p_at)
          (outside a g h q gm hm hg q_at) (a.linked g gm)))
          (cases_eq g h));
      once = λ g gm. rw (get_without x ls g) (once-without x (get_or ls g []) (a.once g gm));
      in_range = λ g y gm k. a.in_range g y gm (back g y k).1;
      owned = λ g y gm k. own y (back g y k).0 ∙ a.owned g y gm (back g y k).1;
      listed = λ y yn. ⊎_elim
          (λ (e : y ≡ x). rw e (rw own_x (λ lt. absurd (omega arith))))
          (λ ne. rw (own y ne) (λ lt. rw (get_without x ls (get_or owner y 0))
          (has-without x (get_or ls (get_or owner y 0) []) y ne ∙ a.listed y yn lt)))
          (cases_eq y x);
    }
