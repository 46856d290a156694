-- Laws of slots and a map that have the numbers of points.
use Rattle.std.proofs.Common.{◌≡◌, ◌≢◌, ℕ, ◌+◌, ◌<◌, true, false, inl, inr, refl}
use Rattle.std.proofs.Common.{sym, ap, ◌∙◌, Some, None, Option, List, [], ◌∷◌, ◌++◌, length}
use Rattle.std.proofs.Common.{replicate, set, if◌then◌else◌, arith}
use Rattle.std.proofs.lemmas.Bool.{cases_Bool, cases_lt, cases_eq, cond-true, cond-false}
use Rattle.std.proofs.lemmas.List.{length_push, length-set, length-replicate, get_or-replicate}
use Rattle.std.proofs.lemmas.List.{get_or_append_left, get_or-set_same, get_or-append-add}
use Rattle.std.proofs.lemmas.List.{get_or-set_other}
use Rattle.std.proofs.lemmas.List.Elements.{All-weaker, All-replicate, All-set}
use Rattle.std.specs.Prelude.{IfSome, All, slice_index_or}
use Rattle.std.specs.HashMap.{HashMap, get, Updates}
use Rattle.pm_base.specs.Place.{Place}
use Rattle.stl_read.specs.Vertices.{is_same, number_of}
use Rattle.stl_read.specs.Numbering.{Key, key_of, same_key, number_if, number_by, slot_of}
use Rattle.stl_read.specs.Numbering.{HaveNumbers}
use Rattle.stl_read.proofs.VertexLaws.{is_same_is, more_old, more_new, number_within}
use Rattle.stl_read.proofs.VertexLaws.{number_there, number_gone, some_not_none}

abbrev IsBelow : ℕ → Option ℕ → Type 0
IsBelow n slot = IfSome slot (λ v. v < n)

pub slot_within : (count : ℕ) (p : Place) → 0 < count → slot_of count p < count
unfolding slot_of
slot_within count p some = omega arith

abbrev nowhere : Option ℕ
nowhere = None

pub no_numbers : {S : Type 0} (count : ℕ) (others : HashMap Key ℕ S) → 0 < count
    → others.entries ≡ [] → HaveNumbers [] (replicate count None) others
no_numbers count others some is = record {
  some = omega (arith, length-replicate count nowhere);
  within = All-replicate (IsBelow 0) count nowhere tt;
  other = λ p v e. absurd (some_not_none v (sym e ∙ none p));
  each = λ p. ap (number_by [] (get same_key others (key_of p)) p) (at p);
}
  where
    none : (p : Place) → get same_key others (key_of p) ≡ None
    none p = rw is refl

    at : (p : Place) → slice_index_or (replicate count nowhere)
        (slot_of (length (replicate count nowhere)) p) None ≡ nowhere
    at p =
        rw (length-replicate count nowhere)
        (get_or-replicate count (slot_of count p) nowhere nowhere (slot_within count p some))

module _ (points : List Place) (p : Place) (new : number_of points p ≡ length points) where
  -- What isn't the new point has the number that it had.
  still : (q : Place) → is_same p q ≡ false → number_if points q ≡ number_if (points ++ p ∷ []) q
  still q apart =
      elim (cases_lt (number_of points q) (length points)) [
        | inl l ↦
            let at = more_old points p q l in
            number_there points q l
            ∙ sym (number_there (points ++ p ∷ []) q (omega (arith, at, l, length_push points p))
            ∙ ap (λ (k : ℕ). Some k) at)
        | inr l ↦
            let none : number_of points q ≡ length points =
            omega (arith, number_within points q, l) in
            let last : number_of (p ∷ []) q ≡ 1 + 0 = cond-false (is_same p q) 0 (1 + 0) apart in
            let at = more_new points p q none in
            number_gone points q l
            ∙ sym (number_gone (points ++ p ∷ []) q
            (omega (arith, at, last, length_push points p)))
      ]

  none : (q : Place) → is_same p q ≡ true → number_if points q ≡ None
  none q same =
      let one : p ≡ q = is_same_is p q same in
      number_gone points q (omega (arith, ap (number_of points) (sym one), new))

  put : (q : Place) → is_same p q ≡ true
      → number_if (points ++ p ∷ []) q ≡ Some (length points)
  put q same =
      let one : p ≡ q = is_same_is p q same in
      let gone : number_of points q ≡ length points = ap (number_of points) (sym one) ∙ new in
      let last : number_of (p ∷ []) q ≡ 0 = cond-true (is_same p q) 0 (1 + 0) same in
      let at : number_of (points ++ p ∷ []) q ≡ length points =
      omega (arith, more_new points p q gone, last) in
      number_there (points ++ p ∷ []) q (omega (arith, at, length_push points p))
      ∙ ap (λ (k : ℕ). Some k) at

  kept : (q : Place) (v : ℕ) → number_if points q ≡ Some v
      → number_if (points ++ p ∷ []) q ≡ Some v
  kept q v is =
      elim (cases_Bool (is_same p q)) [
        | inl same ↦ absurd (some_not_none v (sym is ∙ none q same))
        | inr apart ↦ sym (still q apart) ∙ is
      ]

  -- A slot tells what it told.
  by_kept : (other : Option ℕ) (q : Place) (slot : Option ℕ) → IsBelow (length points) slot
      → number_by (points ++ p ∷ []) other q slot ≡ number_by points other q slot
  by_kept other q None below = refl
  by_kept other q (Some v) below =
      ap (λ (r : Place). if is_same r q then Some v else other)
      (get_or_append_left points (p ∷ []) q v below)

  below_kept : (slot : Option ℕ) → IsBelow (length points) slot
      → IsBelow (length (points ++ p ∷ [])) slot
  below_kept None below = tt
  below_kept (Some v) below = omega (arith, below, length_push points p)

  all_kept : (slots : List (Option ℕ)) → All (IsBelow (length points)) slots
      → All (IsBelow (length (points ++ p ∷ []))) slots
  all_kept slots below =
      All-weaker (IsBelow (length points)) (IsBelow (length (points ++ p ∷ []))) below_kept slots
      below

module _ {S : Type 0} (points : List Place) (p : Place) (slots : List (Option ℕ))
    (others : HashMap Key ℕ S) (n : ℕ) (new : number_of points p ≡ length points)
    (is : n ≡ length points) (old : HaveNumbers points slots others) where
  abbrev at : Place → ℕ
  at q = slot_of (length slots) q

  abbrev slot : Place → Option ℕ
  slot q = slice_index_or slots (at q) None

  abbrev other : Place → Option ℕ
  other q = get same_key others (key_of q)

  below : (q : Place) → IsBelow (length points) (slot q)
  below q = old.within (at q) None (slot_within (length slots) q old.some)

  number : (q : Place) → is_same p q ≡ true → number_if (points ++ p ∷ []) q ≡ Some n
  number q same = put points p new q same ∙ ap (λ (k : ℕ). Some k) (sym is)

  -- Where nothing has a point, the map hasn't.
  nothing : (q : Place) (o : Option ℕ) → other q ≡ o → number_if points q ≡ None → o ≡ None
  nothing q None e gone = refl
  nothing q (Some v) e gone = absurd (some_not_none v (sym (old.other q v e) ∙ gone))

  last : (q : Place) → slice_index_or (points ++ p ∷ []) n q ≡ p
  last q =
      let end : n ≡ length points + 0 = omega (arith, is) in
      ap (λ (k : ℕ). slice_index_or (points ++ p ∷ []) k q) end
      ∙ get_or-append-add points (p ∷ []) 0 q

  module _ (free : slot p ≡ None) where
    abbrev filled : List (Option ℕ)
    filled = set slots (at p) (Some n)

    in_slot : (q : Place) → at q ≡ at p → slice_index_or filled (at q) None ≡ Some n
    in_slot q e =
        ap (λ (k : ℕ). slice_index_or filled k None) e
        ∙ get_or-set_same slots (at p) (Some n) None (slot_within (length slots) p old.some)

    -- A point of that slot: the new one, or none.
    here : (q : Place) → at q ≡ at p
        → number_by (points ++ p ∷ []) (other q) q (Some n) ≡ number_if (points ++ p ∷ []) q
    here q e =
        let eye : number_by (points ++ p ∷ []) (other q) q (Some n)
        ≡ (if is_same p q then Some n else other q) =
        ap (λ (r : Place). if is_same r q then Some n else other q) (last q) in
        elim (cases_Bool (is_same p q)) [
          | inl same ↦ eye ∙ cond-true _ _ _ same ∙ sym (number q same)
          | inr apart ↦
              let empty : slot q ≡ None =
              ap (λ (k : ℕ). slice_index_or slots k None) e ∙ free in
              let gone : number_if points q ≡ None =
              sym (sym (ap (number_by points (other q) q) empty) ∙ old.each q) in
              eye ∙ cond-false _ _ _ apart ∙ nothing q (other q) refl gone
              ∙ sym gone ∙ still points p new q apart
        ]

    -- A point of another slot.
    there : (q : Place) → at q ≢ at p
        → number_by (points ++ p ∷ []) (other q) q (slot q) ≡ number_if (points ++ p ∷ []) q
    there q e =
        elim (cases_Bool (is_same p q)) [
          | inl same ↦ absurd (e (ap at (sym (is_same_is p q same))))
          | inr apart ↦
              by_kept points p new (other q) q (slot q) (below q) ∙ old.each q
              ∙ still points p new q apart
        ]

    by_slot : (q : Place) → number_by (points ++ p ∷ []) (other q) q
        (slice_index_or filled (at q) None) ≡ number_if (points ++ p ∷ []) q
    by_slot q =
        elim (cases_eq (at q) (at p)) [
          | inl e ↦
              ap (number_by (points ++ p ∷ []) (other q) q) (in_slot q e) ∙ here q e
          | inr e ↦
              ap (number_by (points ++ p ∷ []) (other q) q)
              (get_or-set_other slots (at p) (at q) (Some n) None e)
              ∙ there q e
        ]

    pub put_in_slot : HaveNumbers (points ++ p ∷ []) filled others
    put_in_slot =
        let long : length filled ≡ length slots = length-set slots (at p) (Some n) in
        record {
          some = omega (arith, long, old.some);
          within = All-set (IsBelow (length (points ++ p ∷ []))) slots (at p) (Some n)
              (omega (arith, is, length_push points p)) (all_kept points p new slots old.within);
          other = λ q v e. kept points p new q v (old.other q v e);
          each = λ q.
              ap (λ (k : ℕ). number_by (points ++ p ∷ []) (other q) q
              (slice_index_or filled (slot_of k q) None)) long
              ∙ by_slot q;
        }

  module _ (v : ℕ) (more : HashMap Key ℕ S) (full : slot p ≡ Some v)
      (updates : Updates same_key others more (key_of p) (Some n)) where
    abbrev answer : Place → Option ℕ
    answer q = get same_key more (key_of q)

    put_there : (q : Place) → is_same p q ≡ true → answer q ≡ Some n
    put_there q same =
        updates.0 (key_of q) ∙ cond-true (is_same p q) (Some n) (other q) same

    as_before : (q : Place) → is_same p q ≡ false → answer q ≡ other q
    as_before q apart =
        updates.0 (key_of q) ∙ cond-false (is_same p q) (Some n) (other q) apart

    -- The slot has another point.
    differs : (q : Place) → is_same p q ≡ true → slot q ≡ Some v
        → is_same (slice_index_or points v q) q ≡ false
    differs q same e =
        elim (cases_Bool (is_same (slice_index_or points v q) q)) [
          | inl met ↦
              let found : number_by points (other q) q (Some v) ≡ Some v =
              cond-true _ _ _ met in
              let gone : number_by points (other q) q (Some v) ≡ None =
              sym (ap (number_by points (other q) q) e) ∙ old.each q ∙ none points p new q same in
              absurd (some_not_none v (sym found ∙ gone))
          | inr apart ↦ apart
        ]

    by_map : (q : Place)
        → number_by (points ++ p ∷ []) (answer q) q (slot q) ≡ number_if (points ++ p ∷ []) q
    by_map q =
        elim (cases_Bool (is_same p q)) [
          | inl same ↦
              let one : slot q ≡ Some v = ap slot (sym (is_same_is p q same)) ∙ full in
              by_kept points p new (answer q) q (slot q) (below q)
              ∙ ap (number_by points (answer q) q) one
              ∙ cond-false _ _ _ (differs q same one) ∙ put_there q same ∙ sym (number q same)
          | inr apart ↦
              by_kept points p new (answer q) q (slot q) (below q)
              ∙ ap (λ (o : Option ℕ). number_by points o q (slot q)) (as_before q apart)
              ∙ old.each q ∙ still points p new q apart
        ]

    map_tells : (q : Place) (w : ℕ) → answer q ≡ Some w
        → number_if (points ++ p ∷ []) q ≡ Some w
    map_tells q w e =
        elim (cases_Bool (is_same p q)) [
          | inl same ↦ number q same ∙ sym (put_there q same) ∙ e
          | inr apart ↦ kept points p new q w (old.other q w (sym (as_before q apart) ∙ e))
        ]

    pub put_in_map : HaveNumbers (points ++ p ∷ []) slots more
    put_in_map = record {
      some = old.some;
      within = all_kept points p new slots old.within;
      other = map_tells;
      each = by_map;
    }

-- What the slots and the map answer.
pub number_read : {S : Type 0} (points : List Place) (slots : List (Option ℕ))
    (others : HashMap Key ℕ S) (p : Place) (slot : Option ℕ) → HaveNumbers points slots others
    → slice_index_or slots (slot_of (length slots) p) None ≡ slot
    → number_by points (get same_key others (key_of p)) p slot ≡ number_if points p
number_read points slots others p slot old is =
    sym (ap (number_by points (get same_key others (key_of p)) p) is) ∙ old.each p

-- With one point more, by what was read and written.
pub added_in_slot : {S : Type 0} (points after : List Place) (p : Place)
    (slots : List (Option ℕ)) (others : HashMap Key ℕ S) (n i : ℕ)
    → HaveNumbers points slots others → number_of points p ≡ length points → n ≡ length points
    → after ≡ points ++ p ∷ [] → i ≡ slot_of (length slots) p
    → slice_index_or slots i None ≡ None → HaveNumbers after (set slots i (Some n)) others
added_in_slot points after p slots others n i old new is made at free =
    rw (made, at) (put_in_slot points p slots others n new is old
    (sym (ap (λ (k : ℕ). slice_index_or slots k None) at) ∙ free))

pub added_in_map : {S : Type 0} (points after : List Place) (p : Place)
    (slots : List (Option ℕ)) (others more : HashMap Key ℕ S) (n i v : ℕ)
    → HaveNumbers points slots others → number_of points p ≡ length points → n ≡ length points
    → after ≡ points ++ p ∷ [] → i ≡ slot_of (length slots) p
    → slice_index_or slots i None ≡ Some v
    → Updates same_key others more (key_of p) (Some n) → HaveNumbers after slots more
added_in_map points after p slots others more n i v old new is made at full updates =
    rw made (put_in_map points p slots others n new is old v more
    (sym (ap (λ (k : ℕ). slice_index_or slots k None) at) ∙ full) updates)
