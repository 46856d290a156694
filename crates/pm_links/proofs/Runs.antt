-- What a write to the links does to a run of linked nodes.
use Rattle.std.proofs.Common.{◌≡◌, ◌≢◌, ℕ, ◌<◌, true, false, eqb, List, [], ◌∷◌, ◌++◌, length}
use Rattle.std.proofs.Common.{arith}
use Rattle.std.proofs.Common.{get_or, set, sym, ap, ◌∙◌, subst, ◌⊎◌, inl, inr, ⊎_elim}
use Rattle.std.proofs.Common.{get_or-set_other, get_or-set_same, length-set}
use Rattle.std.proofs.lemmas.List.{append-nil}
use Rattle.std.proofs.lemmas.Grind.{get_or-set_at, common_steps}
use Rattle.std.proofs.lemmas.Bool.{or_parts, or_cases, or_left, or_right, eqb-true, eqb-false}
use Rattle.std.proofs.lemmas.Bool.{eq-eqb, false≢true}
use Rattle.pm_links.specs.Lists.{has, IsOnce, list_without}
use Rattle.pm_links.specs.Arena.{IsLinked}
use Rattle.pm_links.proofs.Members.{differs}
use Rattle.pm_links.proofs.Without.{without_none}

module _ (next prev : List ℕ) where
  -- ---- the neighbours of a node of a run

  -- the node after the start
  pub first_in : (a : ℕ) (xs : List ℕ) (b : ℕ) → IsLinked next prev a xs b →
      (get_or next a 0 ≡ b) ⊎ (has xs (get_or next a 0) ≡ true)
  first_in a [] b l = inl l.0
  first_in a (x ∷ xs) b l =
      inr (or_left (eqb x (get_or next a 0)) (has xs (get_or next a 0))
      (eq-eqb x (get_or next a 0) (sym l.0)))

  -- the node before the end
  pub last_in : (a : ℕ) (xs : List ℕ) (b : ℕ) → IsLinked next prev a xs b →
      has (a ∷ xs) (get_or prev b 0) ≡ true
  last_in a [] b l = or_left (eqb a (get_or prev b 0)) false (eq-eqb a (get_or prev b 0) (sym l.1))
  last_in a (x ∷ xs) b l =
      or_right (eqb a (get_or prev b 0)) (has (x ∷ xs) (get_or prev b 0)) (last_in x xs b l.2)

  -- a run that has an item ends in one
  pub last_held : (a : ℕ) (xs : List ℕ) (b : ℕ) → get_or next a 0 ≢ b → IsLinked next prev a xs b →
      has xs (get_or prev b 0) ≡ true
  last_held a [] b ne l = absurd (ne l.0)
  last_held a (x ∷ xs) b ne l = last_in x xs b l.2

  -- the node before an item of the run
  pub prev_in : (a : ℕ) (xs : List ℕ) (b x : ℕ) → has xs x ≡ true → IsLinked next prev a xs b →
      has (a ∷ xs) (get_or prev x 0) ≡ true
  prev_in a [] b x h l = absurd (false≢true h)
  prev_in a (y ∷ ys) b x h l =
      ⊎_elim (λ e. or_left (eqb a (get_or prev x 0)) (has (y ∷ ys) (get_or prev x 0))
      (eq-eqb a (get_or prev x 0) (sym l.1 ∙ ap (λ k. get_or prev k 0) (eqb-true y x e))))
      (λ k. or_right (eqb a (get_or prev x 0)) (has (y ∷ ys) (get_or prev x 0))
      (prev_in y ys b x k l.2))
      (or_cases (eqb y x) (has ys x) h)

  -- the node after an item of the run
  pub next_in : (a : ℕ) (xs : List ℕ) (b x : ℕ) → has xs x ≡ true → IsLinked next prev a xs b →
      (get_or next x 0 ≡ b) ⊎ (has xs (get_or next x 0) ≡ true)
  next_in a [] b x h l = absurd (false≢true h)
  next_in a (y ∷ ys) b x h l =
      let far = λ (k : has ys (get_or next x 0) ≡ true). or_right (eqb y (get_or next x 0))
      (has ys (get_or next x 0)) k in
      ⊎_elim (λ e. let at : (get_or next x 0 ≡ b) ⊎ (has ys (get_or next x 0) ≡ true) =
      subst (λ (k : ℕ). (get_or next k 0 ≡ b) ⊎ (has ys (get_or next k 0) ≡ true))
      (eqb-true y x e) (first_in y ys b l.2) in
      ⊎_elim (λ m. inl m) (λ m. inr (far m)) at)
      (λ k. ⊎_elim (λ m. inl m) (λ m. inr (far m)) (next_in y ys b x k l.2))
      (or_cases (eqb y x) (has ys x) h)

  -- ---- writes

  -- writes at nodes outside leave the run
  pub linked-set : (p v q w a : ℕ) (xs : List ℕ) (b : ℕ) → a ≢ p → has xs p ≡ false → b ≢ q →
      has xs q ≡ false → IsLinked next prev a xs b → IsLinked (set next p v) (set prev q w) a xs b
  linked-set p v q w a [] b ap hp bq hq l =
      (get_or-set_other next p a v 0 ap ∙ l.0, get_or-set_other prev q b w 0 bq ∙ l.1)
  linked-set p v q w a (x ∷ xs) b ap hp bq hq l =
      grind (arith, common_steps, eqb-false, get_or-set_other, or_parts, linked-set p v q w x xs b)

  -- another node c takes the place of the first node; f is the node after it
  pub relink_front : (a f c : ℕ) (xs : List ℕ) (b : ℕ) → c < length next → f < length prev →
      get_or next a 0 ≡ f → has xs c ≡ false → has xs b ≡ false → IsOnce xs →
      IsLinked next prev a xs b → IsLinked (set next c f) (set prev f c) c xs b
  relink_front a f c [] b cl fl e hc hb o l =
      grind (arith, common_steps, get_or-set_at, get_or-set_same)
  relink_front a f c (x ∷ xs) b cl fl e hc hb o l =
      grind (arith, common_steps, eqb-false, get_or-set_at, get_or-set_same, linked-set, or_parts)

  -- another node c takes the place of the end; e is the node before it
  pub relink_end : (a : ℕ) (xs : List ℕ) (b e c : ℕ) → e < length next → c < length prev →
      get_or prev b 0 ≡ e → has xs a ≡ false → IsOnce xs → has xs c ≡ false →
      IsLinked next prev a xs b → IsLinked (set next e c) (set prev c e) a xs c
  relink_end a [] b e c el cl is ha o hc l =
      grind (arith, common_steps, get_or-set_at, get_or-set_same)
  relink_end a (x ∷ xs) b e c el cl is ha o hc l =
      let s = or_parts (eqb x c) (has xs c) hc in
      let inside : has (x ∷ xs) e ≡ true = ap (has (x ∷ xs)) (sym is) ∙ last_in x xs b l.2 in
      let ne : a ≢ e = λ k. differs (x ∷ xs) e a inside ha (sym k) in (
        get_or-set_other next e a c 0 ne ∙ l.0,
        get_or-set_other prev c x e 0 (eqb-false x c s.0) ∙ l.1,
        relink_end x xs b e c el cl is o.0 o.1 s.1 l.2,
      )

  -- two runs, end to end
  pub join : (a : ℕ) (xs : List ℕ) (x : ℕ) (ys : List ℕ) (b : ℕ) → IsLinked next prev a xs x →
      IsLinked next prev x ys b → IsLinked next prev a (xs ++ x ∷ ys) b
  join a [] x ys b l m = (l.0, l.1, m)
  join a (y ∷ xs) x ys b l m = (l.0, l.1, join y xs x ys b l.2 m)

  -- a run without its item x, which stands between p and q
  pub cut : (a : ℕ) (xs : List ℕ) (b x p q : ℕ) → p < length next → q < length prev →
      get_or prev x 0 ≡ p → get_or next x 0 ≡ q → has xs a ≡ false → has xs b ≡ false → IsOnce xs →
      has xs x ≡ true → IsLinked next prev a xs b →
      IsLinked (set next p q) (set prev q p) a (list_without x xs) b
  cut a [] b x p q pl ql pi qi ha hb o h l = absurd (false≢true h)
  cut a (y ∷ ys) b x p q pl ql pi qi ha hb o h l =
      grind (
        arith,
        common_steps,
        false≢true,
        ⊎_elim,
        differs (y ∷ ys) p a,
        differs ys q y,
        eqb-false y b,
        eqb-true y x,
        get_or prev,
        get_or next y 0,
        get_or next,
        get_or-set_other next p a q 0,
        get_or-set_other prev q y p 0,
        next_in y ys b x,
        or_cases (eqb y x) (has ys x) h,
        or_parts (eqb y a) (has ys a) ha,
        or_parts (eqb y b) (has ys b) hb,
        prev_in y ys b x,
        relink_front y q a ys b,
        without_none x ys,
        cut y ys b x p q pl ql pi qi o.0,
      )

-- the run from node f goes before the run from node t: a is its first item, z its last, and u the
-- first node after t
pub moved_run : (next prev : List ℕ) (f t a z u : ℕ) (xs ys : List ℕ) → length prev ≡ length next →
    t < length next → a < length next → z < length next → u < length next →
    get_or next f 0 ≡ a → get_or prev f 0 ≡ z → get_or next t 0 ≡ u → a ≢ f → f ≢ t → t ≢ a →
    has xs f ≡ false → has xs t ≡ false → has ys f ≡ false → has ys t ≡ false → has ys a ≡ false →
    has ys z ≡ false → t ≢ z →
    has xs u ≡ false → u ≢ f → IsOnce xs → IsOnce ys →
    IsLinked next prev f xs f → IsLinked next prev t ys t →
    IsLinked (set (set (set next t a) z u) f f) (set (set (set prev a t) u z) f f) t (xs ++ ys) t
moved_run next prev f t a z u xs ys same tl al zl ul fa fz tu af ft ta xf xt yf yt ya yz tz xu uf ox
    oy lf lt =
    let n1 : List ℕ = set next t a in
    let p1 : List ℕ = set prev a t in
    let s1 : IsLinked n1 p1 t xs f =
    relink_front next prev f a t xs f tl (rw same al) fa xt xf ox lf in
    let z1 : get_or p1 f 0 ≡ z = get_or-set_other prev a f t 0 (λ k. af (sym k)) ∙ fz in
    let s2 : IsLinked (set n1 z u) (set p1 u z) t xs u =
    relink_end n1 p1 t xs f z u (rw (length-set next t a) zl)
    (rw (length-set prev a t, same) ul) z1 xt ox xu s1 in
    let s3 : IsLinked (set (set n1 z u) f f) (set (set p1 u z) f f) t xs u =
    linked-set (set n1 z u) (set p1 u z) f f f f t xs u (λ k. ft (sym k)) xf uf xf s2 in
    add ys yf yt ya yz oy lt s3
  where
    add : (ys : List ℕ) → has ys f ≡ false → has ys t ≡ false → has ys a ≡ false →
        has ys z ≡ false → IsOnce ys → IsLinked next prev t ys t →
        IsLinked (set (set (set next t a) z u) f f) (set (set (set prev a t) u z) f f) t xs u →
        IsLinked (set (set (set next t a) z u) f f) (set (set (set prev a t) u z) f f) t (xs ++ ys)
        t
    add [] yf yt ya yz oy lt s = rw append-nil
        (subst (λ (k : ℕ). IsLinked (set (set (set next t a) z u) f f)
        (set (set (set prev a t) u z) f f) t xs k) (sym tu ∙ lt.0) s)
    add (y ∷ ys) yf yt ya yz oy lt s =
        let y_is : u ≡ y = sym tu ∙ lt.0 in
        let kf = or_parts (eqb y f) (has ys f) yf in
        let kt = or_parts (eqb y t) (has ys t) yt in
        let ka = or_parts (eqb y a) (has ys a) ya in
        let kz = or_parts (eqb y z) (has ys z) yz in
        let tneu : t ≢ u = λ k. eqb-false y t kt.0 (sym y_is ∙ sym k) in
        let yu : has ys u ≡ false = ap (has ys) y_is ∙ oy.0 in
        join (set (set (set next t a) z u) f f) (set (set (set prev a t) u z) f f) t xs y ys t
        (subst (λ (k : ℕ). IsLinked (set (set (set next t a) z u) f f)
        (set (set (set prev a t) u z) f f) t xs k) y_is s)
        (linked-set (set (set next t a) z u) (set (set prev a t) u z) f f f f y ys t
        (eqb-false y f kf.0) kf.1 (λ k. ft (sym k)) kf.1
        (linked-set (set next t a) (set prev a t) z u u z y ys t (eqb-false y z kz.0) kz.1 tneu yu
        (linked-set next prev t a a t y ys t (eqb-false y t kt.0) kt.1 ta ka.1 lt.2)))
