-- The arena after the items of one list are put before those of another.
use Rattle.std.proofs.Common.{◌≡◌, ◌≢◌, ℕ, ◌+◌, ◌<◌, true, false, List, [], ◌++◌, get_or, set, sym}
use Rattle.std.proofs.Common.{ap, ◌∙◌, subst, ◌⊎◌, inl, inr, ⊎_elim, arith, get_or-set_other}
use Rattle.std.proofs.Common.{get_or-set_same, length-set}
use Rattle.std.proofs.lemmas.List.{set-get_or}
use Rattle.std.proofs.lemmas.Bool.{or_cases, or_left, or_right, cases_Bool, cases_eq, false≢true}
use Rattle.pm_links.specs.Lists.{has, set_all}
use Rattle.pm_links.specs.Arena.{IsLinked, IsArena}
use Rattle.pm_links.proofs.Members.{has-append, once-append}
use Rattle.pm_links.proofs.SetAll.{length-set_all, set_all_in, set_all_out}
use Rattle.pm_links.proofs.Runs.{last_held, moved_run}
use Rattle.pm_links.proofs.Outside.{IsOutside, stays, head_out, outside_head, outside_item, outside}
use Rattle.pm_links.proofs.Outside.{first_at, first_node_in}

-- the list of f, whose first item is a and whose last is z, goes before that of t, where u was the
-- first node
pub moved : {n m : ℕ} {next prev owner : List ℕ} {ls : List (List ℕ)} →
    IsArena n m next prev owner ls → (f t a z u : ℕ) → f < m → t < m → f ≢ t → a < n →
    get_or next (n + f) 0 ≡ a → get_or prev (n + f) 0 ≡ z → get_or next (n + t) 0 ≡ u →
    IsArena n m (set (set (set next (n + t) a) z u) (n + f) (n + f))
    (set (set (set prev a (n + t)) u z) (n + f) (n + f)) (set_all owner (get_or ls f []) t)
    (set (set ls t (get_or ls f [] ++ get_or ls t [])) f [])
moved {n} {m} {next} {prev} {owner} {ls} i f t a z u fm tm ft an fa fz tu =
    let xs : List ℕ = get_or ls f [] in
    let ys : List ℕ = get_or ls t [] in
    let lf : IsLinked next prev (n + f) xs (n + f) = i.linked f fm in
    let lt : IsLinked next prev (n + t) ys (n + t) = i.linked t tm in
    let a_f : a ≢ n + f = omega arith in
    let a_at : has xs a ≡ true = ⊎_elim (λ e. absurd (a_f (sym fa ∙ e)))
    (λ k. ap (has xs) (sym fa) ∙ k) (first_at i f fm) in
    let z_at : has xs z ≡ true = ap (has xs) (sym fz)
    ∙ last_held next prev (n + f) xs (n + f) (λ e. a_f (sym fa ∙ e)) lf in
    let zn : z < n = i.in_range f z fm z_at in
    let u_at : (u ≡ n + t) ⊎ (has ys u ≡ true) =
    subst (λ (k : ℕ). (k ≡ n + t) ⊎ (has ys k ≡ true)) tu (first_at i t tm) in
    let un : u < n + m = subst (λ (k : ℕ). k < n + m) tu (first_node_in i t tm) in
    let tf : t ≢ f = λ k. ft (sym k) in
    let oa : IsOutside n ls t a = outside_item i t f a tm fm ft a_at in
    let oz : IsOutside n ls t z = outside_item i t f z tm fm ft z_at in
    let of : IsOutside n ls t (n + f) = outside_head i t f tm ft in
    let ot : IsOutside n ls f (n + t) = outside_head i f t fm tf in
    let ou : IsOutside n ls f u = outside i f t u fm tm tf u_at in
    let run : IsLinked (set (set (set next (n + t) a) z u) (n + f) (n + f))
    (set (set (set prev a (n + t)) u z) (n + f) (n + f)) (n + t) (xs ++ ys) (n + t)
    = moved_run next prev (n + f) (n + t) a z u xs ys (i.prev_len ∙ sym i.next_len)
    (rw i.next_len (omega arith)) (rw i.next_len (omega arith)) (rw i.next_len (omega arith))
    (rw i.next_len un)
    fa fz tu a_f ot.start oa.start (head_out i f fm) ot.inner of.inner (head_out i t tm)
    oa.inner oz.inner oz.start ou.inner (λ k. ou.start (sym k)) (i.once f fm) (i.once t tm) lf lt in
    let apart : (y : ℕ) → has xs y ≡ true →
    has ys y ≡ false = λ y k. (outside_item i t f y tm fm ft k).inner in
    let at_f : get_or (set (set ls t (xs ++ ys)) f []) f [] ≡ [] =
    get_or-set_same (set ls t (xs ++ ys)) f [] []
    (rw (length-set ls t (xs ++ ys), i.heads) fm) in
    let at_t : get_or (set (set ls t (xs ++ ys)) f []) t [] ≡ xs ++ ys =
    get_or-set_other (set ls t (xs ++ ys)) f t [] [] tf
    ∙ get_or-set_same ls t (xs ++ ys) [] (rw i.heads tm) in
    let at : (g : ℕ) → g ≢ f → g ≢ t → get_or
    (set (set ls t (xs ++ ys)) f []) g [] ≡ get_or ls g [] =
    λ g nf nt. get_or-set_other (set ls t (xs ++ ys)) f g [] [] nf
    ∙ get_or-set_other ls t g (xs ++ ys) [] nt in
    let cases : (g : ℕ) → (g ≡ f) ⊎ ((g ≡ t) ⊎ ((g ≢ f) × (g ≢ t))) =
    λ g. ⊎_elim (λ e. inl e) (λ nf. ⊎_elim (λ e. inr (inl e)) (λ nt. inr (inr (nf, nt)))
    (cases_eq g t)) (cases_eq g f) in
    record {
      few_items = i.few_items;
      few_heads = i.few_heads;
      heads = length-set (set ls t (xs ++ ys)) f [] ∙ length-set ls t (xs ++ ys) ∙ i.heads;
      next_len = length-set (set (set next (n + t) a) z u) (n + f) (n + f)
          ∙ length-set (set next (n + t) a) z u ∙ length-set next (n + t) a ∙ i.next_len;
      prev_len = length-set (set (set prev a (n + t)) u z) (n + f) (n + f)
          ∙ length-set (set prev a (n + t)) u z ∙ length-set prev a (n + t) ∙ i.prev_len;
      owner_len = length-set_all owner xs t ∙ i.owner_len;
      linked = λ g gm. ⊎_elim
          (λ (e : g ≡ f). rw e (rw at_f (
            get_or-set_same (set (set next (n + t) a) z u) (n + f) (n + f) 0
                (rw (length-set (set next (n + t) a) z u, length-set next (n + t) a, i.next_len)
                (omega arith)),
            get_or-set_same (set (set prev a (n + t)) u z) (n + f) (n + f) 0
                (rw (length-set (set prev a (n + t)) u z, length-set prev a (n + t), i.prev_len)
                (omega arith)),
          )))
          (λ c. ⊎_elim (λ (e : g ≡ t). rw e (rw at_t run))
          (λ ne. let fg : f ≢ g = λ k. ne.0 (sym k) in
          let tg : t ≢ g = λ k. ne.1 (sym k) in
          let pf : IsOutside n ls g (n + f) = outside_head i g f gm fg in
          let pt : IsOutside n ls g (n + t) = outside_head i g t gm tg in
          let pa : IsOutside n ls g a = outside_item i g f a gm fm fg a_at in
          let pz : IsOutside n ls g z = outside_item i g f z gm fm fg z_at in
          let pu : IsOutside n ls g u = outside i g t u gm tm tg u_at in
          rw (at g ne.0 ne.1)
          (stays n (set (set next (n + t) a) z u) (set (set prev a (n + t)) u z) ls g (n + f)
          (n + f) (n + f) (n + f) pf pf
          (stays n (set next (n + t) a) (set prev a (n + t)) ls g z u u z pz pu
          (stays n next prev ls g (n + t) a a (n + t) pt pa (i.linked g gm)))))
          c)
          (cases g);
      once = λ g gm. ⊎_elim (λ (e : g ≡ f). rw e (rw at_f tt))
          (λ c. ⊎_elim
          (λ (e : g ≡ t). rw e (rw at_t (once-append xs ys (i.once f fm) (i.once t tm) apart)))
          (λ ne. rw (at g ne.0 ne.1) (i.once g gm)) c) (cases g);
      in_range = λ g y gm. ⊎_elim (λ (e : g ≡ f). rw e (rw at_f (λ k. absurd (false≢true k))))
          (λ c. ⊎_elim (λ (e : g ≡ t). rw e
          (rw at_t (rw (has-append xs ys y)
          (λ k. ⊎_elim (λ v. i.in_range f y fm v) (λ v. i.in_range t y tm v)
          (or_cases (has xs y) (has ys y) k)))))
          (λ ne. rw (at g ne.0 ne.1) (λ k. i.in_range g y gm k)) c) (cases g);
      owned = λ g y gm. ⊎_elim (λ (e : g ≡ f). rw e (rw at_f (λ k. absurd (false≢true k))))
          (λ c. ⊎_elim (λ (e : g ≡ t). rw e (rw at_t (rw (has-append xs ys y) (λ k. ⊎_elim
          (λ v. set_all_in owner xs t y (rw i.owner_len (i.in_range f y fm v)) v)
          (λ v. set_all_out owner xs t y (outside_item i f t y fm tm tf v).inner ∙ i.owned t y tm v)
          (or_cases (has xs y) (has ys y) k)))))
          (λ ne. rw (at g ne.0 ne.1) (λ k.
          set_all_out owner xs t y (outside_item i f g y fm gm ne.0 k).inner ∙ i.owned g y gm k)) c)
          (cases g);
      listed = λ y yn. ⊎_elim
          (λ (k : has xs y ≡ true). rw (set_all_in owner xs t y (rw i.owner_len yn) k)
          (λ lt. rw at_t (rw (has-append xs ys y) (or_left (has xs y) (has ys y) k))))
          (λ (k : has xs y ≡ false). rw (set_all_out owner xs t y k) (λ lt.
          let old : has (get_or ls (get_or owner y 0) []) y ≡ true = i.listed y yn lt in
          ⊎_elim (λ (e : get_or owner y 0 ≡ f). absurd
          (false≢true (sym k ∙ subst (λ (g : ℕ). has (get_or ls g []) y ≡ true) e old)))
          (λ c. ⊎_elim (λ (e : get_or owner y 0 ≡ t). rw e
          (rw at_t (rw (has-append xs ys y)
          (or_right (has xs y) (has ys y)
          (subst (λ (g : ℕ). has (get_or ls g []) y ≡ true) e old)))))
          (λ ne. rw (at (get_or owner y 0) ne.0 ne.1) old) c)
          (cases (get_or owner y 0))))
          (cases_Bool (has xs y));
    }

-- an empty list goes nowhere
pub moved_none : (ls : List (List ℕ)) (f t : ℕ) → get_or ls f [] ≡ [] → f ≢ t →
    set (set ls t (get_or ls f [] ++ get_or ls t [])) f [] ≡ ls
moved_none ls f t e ne =
    rw e (ap (λ k. set k f []) (set-get_or ls t []) ∙ ap (λ k. set ls f k) (sym e)
    ∙ set-get_or ls f [])
