-- Vertices numbered by the heads of their chains are a split by fans, in order.
use Rattle.std.proofs.Common.{◌≡◌, ℕ, ◌+◌, ◌*◌, ◌/◌, ◌%◌, ◌<◌, ◌≤◌, inl, inr, refl, sym, ap, ◌∙◌}
use Rattle.std.proofs.lemmas.Grind.{common_steps}
use Rattle.std.proofs.Common.{subst, Option, Some, None, List, length, slice_index}
use Rattle.std.proofs.Common.{slice_index_or, arith}
use Rattle.std.specs.Option.{MatchOption, unwrap_or}
use Rattle.std.proofs.lemmas.Bool.{cases_eq, cases_lt}
use Rattle.pm_base.specs.declared.mesh.Corners.{Corners}
use Rattle.pm_base.specs.Sides.{Net, net_of, side_count, prev, Stands, beside_side}
use Rattle.pm_base.specs.Fans.{IsUsed}
use Rattle.pm_base.proofs.Search.{option_cases}
use Rattle.pm_base.proofs.Sides.{next-next-next}
use Rattle.pm_base.proofs.NetLaws.{from-corner}
use Rattle.pm_fans.specs.Splits.{IsGlued, Turns, stay, on, IsSplitByFans, IsNumberedBy, IsCuttable}
use Rattle.pm_fans.specs.Splits.{AreGlued}
use Rattle.pm_fans.specs.Orders.{IsFirstSide, IsLeastSide, IsHead, Precedes, IsSplitMesh}
use Rattle.pm_fans.specs.Heads.{AreGluedInPairs, Leads, here, further, AreAllHeaded}
use Rattle.pm_fans.specs.HeadKeys.{order_key, side_of_key, AreHeadKeys, AreKeyPlaces, AreRenamed}
use Rattle.pm_fans.specs.HeadKeys.{new_of}
use Rattle.pm_fans.proofs.ChainLaws.{in_table, next_in, first_led, has_head}
use Rattle.pm_fans.proofs.NumberLaws.{key_side, place_of}
use Rattle.pm_fans.proofs.Splitting.{glued_back, there, turns_from, numberings_split}

module _ (m : Net) (glued : List (Option ℕ)) (ok : IsCuttable m)
    (g : AreGlued m (side_count m) glued) where
  in_net : (e : ℕ) → e < length glued → e < side_count m
  in_net e l = subst (λ n. e < n) g.sides l

  glued_of : (e k : ℕ) → beside_side glued e ≡ Some k → IsGlued m e k
  glued_of e k is =
      subst (λ r. MatchOption r ((i : ℕ) → IsGlued m e i → ⊥) (λ i. IsGlued m e i)) is
      (g.each e (in_net e (in_table glued e k is)))

  not_glued : (e : ℕ) → e < side_count m → beside_side glued e ≡ None → IsFirstSide m e
  not_glued e l is =
      subst (λ r. MatchOption r ((i : ℕ) → IsGlued m e i → ⊥) (λ i. IsGlued m e i)) is (g.each e l)

  table_of : (e k : ℕ) → IsGlued m e k → beside_side glued e ≡ Some k
  table_of e k w =
      elim (option_cases (beside_side glued e)) [
        | inl none ↦ absurd (not_glued e w.stands.is_side none k w)
        | inr (j, is) ↦ is ∙ ap Some (w.other j (glued_of e j is).twin)
      ]

  first_none : (e : ℕ) → IsFirstSide m e → beside_side glued e ≡ None
  first_none e first =
      elim (option_cases (beside_side glued e)) [
        | inl none ↦ none
        | inr (k, is) ↦
            absurd (first k (glued_of e k is))
      ]

  pub are_paired : AreGluedInPairs glued
  are_paired = record {
    faces = m.faces;
    sides = g.sides;
    short = ok.short;
    back = λ e k is.
        let w = glued_of e k is in
        (subst (λ n. k < n) (sym g.sides) w.twin.stands.is_side, table_of k e (glued_back m e k w));
  }

  turns : (s e : ℕ) → Leads glued s e → Turns m s e
  turns s e here = stay
  turns s k (further {e} w f) =
      let low : prev e < length glued = in_table glued (prev e) k f in
      let l : e < length glued =
      subst (λ i. i < length glued) (next-next-next e)
      (next_in glued are_paired (prev e) low) in
      on (turns s e w) (ok.stand e (in_net e l)) (glued_of (prev e) k f)

order_open : (m : Net) (glued : List (Option ℕ)) (e : ℕ) → beside_side glued e ≡ None
    → order_key m glued e ≡ m.from e * 8388608 + e
unfolding order_key
order_open m glued e is = grind (arith, common_steps)

order_closed : (m : Net) (glued : List (Option ℕ)) (e k : ℕ) → beside_side glued e ≡ Some k
    → order_key m glued e ≡ m.from e * 8388608 + 4194304 + e
unfolding order_key
order_closed m glued e k is = grind (arith, common_steps)

module _ (m : Net) (glued heads : List (Option ℕ)) (keys places : List ℕ) (fs : List Corners)
    (ok : IsCuttable m) (g : AreGlued m (side_count m) glued) (a : AreAllHeaded glued heads)
    (ks : AreHeadKeys m glued heads keys)
    (ps : AreKeyPlaces keys places (length heads) (length keys))
    (r : AreRenamed heads places m.faces fs) where
  few : length heads ≤ 3145728
  few = omega (arith, a.headed.long, g.sides, ok.short)

  in_heads : (e h : ℕ) → beside_side heads e ≡ Some h → e < side_count m
  in_heads e h is = in_net m glued ok g e (subst (λ i. e < i) a.headed.long (in_table heads e h is))

  head : (e : ℕ) → e < side_count m → (h : ℕ) × (beside_side heads e ≡ Some h)
  head e l = has_head heads e (a.all e (subst (λ i. e < i) (sym g.sides) l))

  new_at : (e : ℕ) → e < side_count m → (net_of fs).from e ≡ new_of heads places e
  new_at e l =
      let f : e / 3 < m.faces = omega arith in
      elim (cases_eq (e % 3) 0) [
        | inl is ↦
            let e' : 3 * (e / 3) ≡ e = omega arith in
            from-corner fs e (e / 3) 0 refl is ∙ r.a (e / 3) f ∙ ap (new_of heads places) e'
        | inr n0 ↦
            elim (cases_eq (e % 3) 1) [
              | inl is ↦
                  let e' : 3 * (e / 3) + 1 ≡ e = omega arith in
                  from-corner fs e (e / 3) 1 refl is ∙ r.b (e / 3) f ∙ ap (new_of heads places) e'
              | inr n1 ↦
                  let e' : 3 * (e / 3) + 2 ≡ e = omega arith in
                  from-corner fs e (e / 3) 2 refl (omega arith) ∙ r.c (e / 3) f
                  ∙ ap (new_of heads places) e'
            ]
      ]

  new_is : (e h : ℕ) → beside_side heads e ≡ Some h → (net_of fs).from e ≡ slice_index places h
  new_is e h is =
      new_at e (in_heads e h is) ∙ ap (λ (o : Option ℕ). slice_index places (unwrap_or o 0)) is

  place : (e h : ℕ) → beside_side heads e ≡ Some h → (slice_index places h < length keys)
      × (slice_index keys (slice_index places h) ≡ order_key m glued h)
  place e h is = place_of m glued heads keys ks places ps few h (a.headed.own e h is)

  first_is : (e h : ℕ) → beside_side heads e ≡ Some h
      → side_of_key (slice_index keys ((net_of fs).from e)) ≡ h
  first_is e h is =
      let low = in_heads h h (a.headed.own e h is) in
      let short = ok.short in
      ap (λ v. side_of_key (slice_index keys v)) (new_is e h is) ∙ ap side_of_key (place e h is).1
      ∙ key_side m glued h (omega arith)

  around : (e h : ℕ) → beside_side heads e ≡ Some h → Turns m h e
  around e h is = turns m glued ok g h e (a.headed.led e h is)

  numbered : IsNumberedBy m (net_of fs) (λ v. side_of_key (slice_index keys v))
  numbered = record {
    faces = r.long;
    along = λ e k t w.
        let (h, is) = head e t.is_side in
        let is' = a.headed.on e k h (table_of m glued ok g (prev e) k w) is in
        new_is k h is' ∙ sym (new_is e h is);
    stands = λ e t.
        let (h, is) = head e t.is_side in
        subst (Stands m) (sym (first_is e h is)) (ok.stand h (in_heads h h (a.headed.own e h is)));
    met = λ e t.
        let (h, is) = head e t.is_side in
        subst (λ s. Turns m s e) (sym (first_is e h is)) (around e h is);
  }

  split : IsSplitByFans m (net_of fs)
  split = numberings_split m (net_of fs) (λ v. side_of_key (slice_index keys v)) ok.stand numbered

  -- A side by which a new vertex has its number is the head of its chain.
  own_first : (e : ℕ) → Stands m e → IsFirstSide m e → beside_side heads e ≡ Some e
  own_first e t none =
      let (h, is) = head e t.is_side in
      is ∙ ap Some
      (first_led glued (are_paired m glued ok g) h e (a.headed.led e h is)
      (first_none m glued ok g e none))

  own_least : (e : ℕ) → Stands m e → IsLeastSide m (net_of fs) e → beside_side heads e ≡ Some e
  own_least e t least =
      let (h, is) = head e t.is_side in
      let own = a.headed.own e h is in
      let low = in_heads h h own in
      let (closed, le) = least h (ok.stand h low) (new_is h h own ∙ sym (new_is e h is)) in
      elim (a.headed.kind e h is) [
        | inl none ↦ absurd (closed (not_glued m glued ok g h low none))
        | inr ge ↦ let same : h ≡ e = omega arith in is ∙ ap Some same
      ]

  least_glued : (e : ℕ) → Stands m e → IsLeastSide m (net_of fs) e
      → (k : ℕ) × (beside_side glued e ≡ Some k)
  least_glued e t least =
      elim (option_cases (beside_side glued e)) [
        | inl none ↦ absurd ((least e t refl).0 (not_glued m glued ok g e t.is_side none))
        | inr some ↦ some
      ]

  own_of : (e : ℕ) → Stands m e → IsHead m (net_of fs) e → beside_side heads e ≡ Some e
  own_of e t (inl none) = own_first e t none
  own_of e t (inr least) = own_least e t least

  keys_rise : (e k : ℕ) → Stands m e → Stands m k → IsHead m (net_of fs) e → IsHead m (net_of fs) k
      → (net_of fs).from e < (net_of fs).from k → order_key m glued e < order_key m glued k
  keys_rise e k te tk he hk less =
      let oe = own_of e te he in
      let o = own_of k tk hk in
      let less' : slice_index places e < slice_index places k =
      subst (λ v. v < slice_index places k) (new_is e e oe)
      (subst (λ v. (net_of fs).from e < v) (new_is k k o) less) in
      let up = ks.ascend (slice_index places e) (slice_index places k) less' (place k k o).0 in
      subst (λ v. v < order_key m glued k) (place e e oe).1
      (subst (λ v. slice_index keys (slice_index places e) < v) (place k k o).1 up)

  low : (e : ℕ) → Stands m e → e < 4194304
  low e t = let l = t.is_side in let s = ok.short in omega arith

  order : (e k : ℕ) → Stands m e → Stands m k → IsHead m (net_of fs) e → IsHead m (net_of fs) k
      → order_key m glued e < order_key m glued k → Precedes m (net_of fs) e k
  order e k te tk (inl fe) (inl fk) up =
      let a = order_open m glued e (first_none m glued ok g e fe) in
      let b = order_open m glued k (first_none m glued ok g k fk) in
      let el = low e te in
      let kl = low k tk in
      elim (cases_lt (m.from e) (m.from k)) [
        | inl l ↦ inl l
        | inr ge ↦ let same : m.from e ≡ m.from k =
            omega arith in inr (same, inr (inl (fe, fk), omega arith))
      ]
  order e k te tk (inl fe) (inr lk) up =
      let (j, is) = least_glued k tk lk in
      let a = order_open m glued e (first_none m glued ok g e fe) in
      let b = order_closed m glued k j is in
      let el = low e te in
      let kl = low k tk in
      elim (cases_lt (m.from e) (m.from k)) [
        | inl l ↦ inl l
        | inr ge ↦ let same : m.from e ≡ m.from k = omega arith in inr (same, inl (fe, lk))
      ]
  order e k te tk (inr le) (inl fk) up =
      let (j, is) = least_glued e te le in
      let a = order_closed m glued e j is in
      let b = order_open m glued k (first_none m glued ok g k fk) in
      let el = low e te in
      let kl = low k tk in
      elim (cases_lt (m.from e) (m.from k)) [ inl l ↦ inl l | inr ge ↦ absurd (omega arith) ]
  order e k te tk (inr le) (inr lk) up =
      let (i, ie) = least_glued e te le in
      let (j, ik) = least_glued k tk lk in
      let a = order_closed m glued e i ie in
      let b = order_closed m glued k j ik in
      let el = low e te in
      let kl = low k tk in
      elim (cases_lt (m.from e) (m.from k)) [
        | inl l ↦ inl l
        | inr ge ↦ let same : m.from e ≡ m.from k =
            omega arith in inr (same, inr (inr (le, lk), omega arith))
      ]

  module _ (old : List ℕ) (long : length old ≡ length keys) (backs : (i : ℕ) → i < length keys
      → slice_index old i ≡ m.from (side_of_key (slice_index keys i))) where
    used : (v : ℕ) → v < length old → IsUsed (net_of fs) v
    used v l =
        let l' : v < length keys = subst (λ i. v < i) long l in
        let own = (ks.each v l').own in
        let e : ℕ = side_of_key (slice_index keys v) in (
          side_of_key (slice_index keys v),
          there m (net_of fs) split e
              (ok.stand e (in_heads e e own)),
          new_is e e own ∙ ps.each v l',
        )

    within : (e : ℕ) → e < side_count m → (net_of fs).from e < length old
    within e l =
        let (h, is) = head e l in
        subst (λ i. (net_of fs).from e < i) (sym long)
        (subst (λ i. i < length keys) (sym (new_is e h is)) (place e h is).0)

    back : (e : ℕ) → e < side_count m → slice_index_or old ((net_of fs).from e) 0 ≡ m.from e
    back e l =
        let (h, is) = head e l in
        let low : (net_of fs).from e < length keys =
        subst (λ i. i < length keys) (sym (new_is e h is)) (place e h is).0 in
        backs ((net_of fs).from e) low ∙ ap m.from (first_is e h is)
        ∙ sym (turns_from m h e (around e h is))

    pub heads_split : IsSplitMesh m fs old
    heads_split = record {
      split = split;
      ordered = λ e k te tk he hk less. order e k te tk he hk (keys_rise e k te tk he hk less);
      used = used;
      within = within;
      back = back;
    }
