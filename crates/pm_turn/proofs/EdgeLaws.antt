-- The sides of an edge are told by its two vertices, and where it has two they are mates.
use Rattle.std.proofs.Common.{◌≡◌, ◌≢◌, ℕ, ◌+◌, ◌*◌, ◌<◌, ◌≤◌, inl, inr, refl, sym, ap, ◌∙◌, subst}
use Rattle.std.proofs.Common.{Option, Some, None, [], arith}
use Rattle.std.proofs.lemmas.Grind.{common_steps}
use Rattle.std.specs.Option.{MatchOption}
use Rattle.std.specs.Ordering.{nat_cmp}
use Rattle.std.specs.BTreeMap.{BTreeMap, get, is_at, Updates}
use Rattle.std.specs.Map.{lookup}
use Rattle.std.proofs.lemmas.Bool.{cases_eq, cond-true, cond-false, eq-eqb, ne_eqb, lt-ltb, le-ltb}
use Rattle.std.proofs.lemmas.Nat.{div-mul-add}
use Rattle.pm_base.specs.declared.ids.Side.{Side}
use Rattle.pm_base.specs.Sides.{Net, side_count, next, to}
use Rattle.pm_base.proofs.Sides.{next-lt}
use Rattle.pm_fans.specs.Splits.{IsCuttable}
use Rattle.pm_fans.proofs.KeyLaws.{equal_is}
use Rattle.pm_turn.specs.declared.edges.Edge.{Edge}
use Rattle.pm_turn.specs.Turning.{JoinsSame, AreMates}
use Rattle.pm_turn.specs.Edges.{edge_key, edge_key_at, AreTwo, AreMore, IsEdge, AreEdges, edge_with}
use Rattle.pm_turn.specs.Edges.{mate_in}
use Rattle.pm_turn.proofs.TurnedSides.{SameEnds}

-- Two ends in ascending order are known from their key.
parts_are : (p q r s : ℕ) → q < 4294967296 → s < 4294967296
    → p * 4294967296 + q ≡ r * 4294967296 + s → (p ≡ r) × (q ≡ s)
parts_are p q r s ql sl e = grind (arith, common_steps, div-mul-add)

key_up : (p q : ℕ) → p < q → edge_key p q ≡ p * 4294967296 + q
key_up p q l = cond-true _ _ _ (lt-ltb p q l)

key_down : (p q : ℕ) → q ≤ p → edge_key p q ≡ q * 4294967296 + p
key_down p q l = cond-false _ _ _ (le-ltb p q l)

-- Sides that join the same two vertices have one key, and sides of one key join the same two.
key_back : (p q : ℕ) → edge_key p q ≡ edge_key q p
key_back p q = grind (arith, common_steps, key_down, key_up)

pub same_key : (p q r s : ℕ) → SameEnds p q r s → edge_key p q ≡ edge_key r s
same_key p q r s (inl (a, b)) = ap (λ i. edge_key i q) a ∙ ap (edge_key r) b
same_key p q r s (inr (a, b)) = ap (λ i. edge_key i q) a ∙ ap (edge_key s) b ∙ key_back s r

pub key_ends : (p q r s : ℕ) → p < 4294967296 → q < 4294967296 → r < 4294967296 → s < 4294967296
    → edge_key p q ≡ edge_key r s → SameEnds p q r s
key_ends p q r s pl ql rl sl e = grind (arith, common_steps, key_down, key_up, parts_are)

-- Before any side none has a key.
pub none_noted : (m : Net) (map : BTreeMap ℕ Edge) → map.entries ≡ [] → AreEdges m 0 map
none_noted m map is k =
    subst (IsEdge m 0 k) (sym (ap (lookup (is_at (nat_cmp k))) is)) (λ e l. absurd (omega arith))

more_on : (m : Net) (n k : ℕ) → AreMore m n k → AreMore m (n + 1) k
more_on m n k s = grind (arith, common_steps)

-- One more side with another key.
noted_other : (m : Net) (n k : ℕ) (r : Option Edge) → edge_key_at m n ≢ k → IsEdge m n k r
    → IsEdge m (n + 1) k r
noted_other m n k None ne h = λ e l. grind (arith, common_steps, h e)
noted_other m n k (Some (Edge.One v)) ne h = record {
  in_range = omega (arith, h.in_range);
  has = h.has;
  alone = λ e l is. grind (arith, common_steps, h.alone e);
}
noted_other m n k (Some (Edge.Two v w)) ne h = record {
  one_in = omega (arith, h.one_in);
  other_in = omega (arith, h.other_in);
  differ = h.differ;
  one_has = h.one_has;
  other_has = h.other_has;
  alone = λ e l is. grind (arith, common_steps, h.alone e);
}
noted_other m n k (Some Edge.More) ne h = more_on m n k h

-- One more side with this key.
noted_same : (m : Net) (n k : ℕ) (r : Option Edge) (e : Side) → e.0 ≡ n → edge_key_at m n ≡ k
    → IsEdge m n k r
    → IsEdge m (n + 1) k (Some (edge_with r e))
noted_same m n k None e at is none = grind (arith, common_steps)
noted_same m n k (Some (Edge.One v)) e at is h = record {
  one_in = omega (arith, h.in_range);
  other_in = omega (arith, at);
  differ = λ i. absurd (omega (arith, h.in_range, at, i));
  one_has = h.has;
  other_has = ap (edge_key_at m) at ∙ is;
  alone = λ g l has. grind (arith, common_steps, h.alone g);
}
noted_same m n k (Some (Edge.Two v w)) e at is h = record {
  one = v.0;
  two = w.0;
  three = n;
  one_in = omega (arith, h.one_in);
  two_in = omega (arith, h.other_in);
  three_in = omega arith;
  one_two = h.differ;
  one_three = λ i. absurd (omega (arith, h.one_in, i));
  two_three = λ i. absurd (omega (arith, h.other_in, i));
  one_has = h.one_has;
  two_has = h.other_has;
  three_has = is;
}
noted_same m n k (Some Edge.More) e at is h = more_on m n k h

pub one_noted : (m : Net) (s t : BTreeMap ℕ Edge) (e : Side) (key : ℕ) (r : Option Edge)
    (now : Edge) → AreEdges m e.0 s
    → key ≡ edge_key_at m e.0 → r ≡ get nat_cmp s key → now ≡ edge_with r e
    → Updates nat_cmp s t key (Some now)
    → AreEdges m (e.0 + 1) t
one_noted m s t e key r now noted is at new u k =
    elim (cases_eq key k) [
      | inl same ↦ grind (arith, common_steps, cond-true, eq-eqb, equal_is, noted_same)
      | inr ne ↦
          let here : get nat_cmp t k ≡ get nat_cmp s k =
          u.0 k ∙ cond-false _ _ _ (equal_is key k ∙ ne_eqb _ _ ne) in
          subst (IsEdge m (e.0 + 1) k) (sym here)
          (noted_other m e.0 k (get nat_cmp s k) (λ i. ne (is ∙ i)) (noted k))
    ]

module _ (m : Net) (ok : IsCuttable m) where
  to_low : (e : ℕ) → e < side_count m → to m e < 4294967296
  to_low e l = ok.low (next e) (next-lt m.faces e l)

  joins : (e g : ℕ) → e < side_count m → g < side_count m → edge_key_at m g ≡ edge_key_at m e
      → JoinsSame m e g
  joins e g el gl is = grind (arith, common_steps, key_ends, to_low)

  has_key : (e g : ℕ) → JoinsSame m e g → edge_key_at m g ≡ edge_key_at m e
  has_key e g j = same_key (m.from g) (to m g) (m.from e) (to m e) j.ends

  are_mates : (e k : ℕ) → e < side_count m → AreTwo m (side_count m) (edge_key_at m e) e k
      → AreMates m e k
  are_mates e k l t = record {
    stands = ok.stand e l;
    differ = t.differ;
    same = joins e k l t.other_in t.other_has;
    alone = λ g j. t.alone g j.stands.is_side (has_key e g j);
  }

  swapped : (n k v w : ℕ) → AreTwo m n k v w → AreTwo m n k w v
  swapped n k v w t = grind (arith, common_steps)

  three_apart : (e k : ℕ) → AreMates m e k → AreMore m (side_count m) (edge_key_at m e) → ⊥
  three_apart e k a t =
      let el = a.stands.is_side in
      let one = a.alone t.one (joins e t.one el t.one_in t.one_has) in
      let two = a.alone t.two (joins e t.two el t.two_in t.two_has) in
      let three = a.alone t.three (joins e t.three el t.three_in t.three_has) in
      elim one [
        | inl i ↦ grind (arith, common_steps)
        | inr i ↦ grind (arith, common_steps)
      ]

  mate_is : (e : Side) (r : Option Edge) → e.0 < side_count m
      → IsEdge m (side_count m) (edge_key_at m e.0) r
      → MatchOption (mate_in r e) ((k : ℕ) → AreMates m e.0 k → ⊥) (λ k. AreMates m e.0 k.0)
  mate_is e None l none = absurd (none e.0 l refl)
  mate_is e (Some (Edge.One v)) l only = λ k a.
      let here = only.alone e.0 l refl in
      let there = only.alone k a.same.stands.is_side (has_key e.0 k a.same) in
      a.differ (here ∙ sym there)
  mate_is e (Some (Edge.Two v w)) l two =
      elim (cases_eq v.0 e.0) [
        | inl is ↦ grind (arith, common_steps, are_mates, cond-true, eq-eqb)
        | inr ne ↦
            let at : w.0 ≡ e.0 =
            elim (two.alone e.0 l refl) [ inl is ↦ absurd (ne (sym is)) | inr is ↦ sym is ] in
            let turned = swapped (side_count m) (edge_key_at m e.0) v.0 w.0 two in
            subst (λ (x : Side). AreMates m e.0 x.0) (sym (cond-false _ _ _ (ne_eqb _ _ ne)))
            (are_mates e.0 v.0 l
            (subst (λ i. AreTwo m (side_count m) (edge_key_at m e.0) i v.0) at turned))
      ]
  mate_is e (Some Edge.More) l more = λ k a. three_apart e.0 k a more

  pub mate_found : (e : Side) (map : BTreeMap ℕ Edge) (key : ℕ) (r : Option Edge)
      (found : Option Side)
      → e.0 < side_count m → AreEdges m (side_count m) map → key ≡ edge_key_at m e.0
      → r ≡ get nat_cmp map key
      → found ≡ mate_in r e
      → MatchOption found ((k : ℕ) → AreMates m e.0 k → ⊥) (λ k. AreMates m e.0 k.0)
  mate_found e map key r found l noted is at answer = grind (arith, common_steps, mate_is)
