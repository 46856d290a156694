-- Faces that were turned aren't turned again.
use Rattle.std.proofs.Common.{◌≡◌, ◌≢◌, ℕ, ◌*◌, ◌<◌, ◌⊎◌, inl, inr, refl, sym, ap, ◌∙◌, subst, List}
use Rattle.std.proofs.Common.{arith, [], ◌∷◌, length, Bool, true, false, not}
use Rattle.std.proofs.lemmas.Grind.{common_steps}
use Rattle.std.specs.Prelude.{◌==◌}
use Rattle.std.proofs.lemmas.Bool.{cases_Bool, eq-eqb, ne_eqb}
use Rattle.std.proofs.Math.Bool.{not-not}
use Rattle.pm_base.specs.declared.mesh.Corners.{Corners}
use Rattle.pm_base.specs.Sides.{Net, face_of, to, net_of, Stands}
use Rattle.pm_fans.specs.Splits.{AllStand}
use Rattle.pm_fans.specs.Kept.{kept_of}
use Rattle.pm_turn.specs.Turning.{turned_by, flag_of, moved, JoinsSame, AreMates, clash, flipped_if}
use Rattle.pm_turn.specs.Turning.{Way, stay, over, AgreeOnceTurned, AreTurns}
use Rattle.pm_fans.proofs.KeptLaws.{kept_are_fit}
use Rattle.pm_turn.proofs.TurnedFaces.{turned_length, none_turned, flip_flip, not_both, along}
use Rattle.pm_turn.proofs.TurnedFaces.{parity_is}
use Rattle.pm_turn.proofs.TurnedSides.{SameEnds, ends_back, ends_on, moved_face, moved_back}
use Rattle.pm_turn.proofs.TurnedSides.{moved_in, runs_cases, ends_moved, stand_turned}

-- Turned twice is as before.
turned_twice : (flags : List Bool) (fs : List Corners) → turned_by flags (turned_by flags fs) ≡ fs
turned_twice flags [] = refl
turned_twice [] (f ∷ fs) = refl
turned_twice (true ∷ flags) (f ∷ fs) = ap (λ (l : List Corners). f ∷ l) (turned_twice flags fs)
turned_twice (false ∷ flags) (f ∷ fs) = ap (λ (l : List Corners). f ∷ l) (turned_twice flags fs)

round : (cn p fk fe : Bool)
    → flipped_if (flipped_if cn p) fk
    ≡ flipped_if (flipped_if fe (flipped_if fk cn)) (flipped_if p fe)
round cn p fk fe = grind (arith, common_steps)

-- Four ends of two sides, of which each is turned or not.
module _ (a b x y : ℕ) (ab : a ≢ b) where
  back_ab : (b == a) ≡ (a == b)
  back_ab = ne_eqb _ _ (λ is. ab (sym is)) ∙ sym (ne_eqb _ _ ab)

  tests : SameEnds x y a b → ((b == y) ≡ (a == x)) × ((a == y) ≡ not (a == x))
      × ((b == x) ≡ not (a == x))
  tests (inl (c, d)) = grind (arith, common_steps, eq-eqb, ne_eqb)
  tests (inr (c, d)) = grind (arith, common_steps, eq-eqb, ne_eqb)

module _ (flags : List Bool) (fs : List Corners) (stand : AllStand (net_of fs))
    (stand' : AllStand (net_of (turned_by flags fs))) where
  abbrev m : Net
  m = net_of fs

  abbrev n : Net
  n = net_of (turned_by flags fs)

  low : (e : ℕ) → Stands n e → e < 3 * length fs
  low e t = subst (λ i. e < 3 * i) (turned_length flags fs) t.is_side

  was_there : (e : ℕ) → Stands n e → Stands m (moved flags e)
  was_there e t = stand (moved flags e) (moved_in flags fs e (low e t))

  was_ends : (e : ℕ) → Stands n e
      → SameEnds (n.from e) (to n e) (m.from (moved flags e)) (to m (moved flags e))
  was_ends e t =
      subst (λ i. SameEnds (n.from i) (to n i) (m.from (moved flags e)) (to m (moved flags e)))
      (moved_back flags fs e) (ends_moved flags fs (moved flags e) (moved_in flags fs e (low e t)))

  -- Where the sides of a moved pair began.
  flag_moved : (e : ℕ) → flag_of flags (face_of (moved flags e)) ≡ flag_of flags (face_of e)
  flag_moved e = ap (flag_of flags) (moved_face flags fs e)

  begins : (e : ℕ) → Stands n e
      → ((flag_of flags (face_of e) ≡ false) × (m.from (moved flags e) ≡ n.from e))
      ⊎ ((flag_of flags (face_of e) ≡ true) × (m.from (moved flags e) ≡ to n e))
  begins e t =
      elim (runs_cases flags fs (moved flags e) (moved_in flags fs e (low e t))) [
        | inl r ↦ inl (
          sym (flag_moved e) ∙ r.unset,
          sym r.from_is
              ∙ ap n.from (moved_back flags fs e),
        )
        | inr r ↦ inr (sym (flag_moved e) ∙ r.set, sym r.to_is ∙ ap (to n) (moved_back flags fs e))
      ]

  pub clash_moved : (e k : ℕ) → AreMates n e k → clash m (moved flags e) (moved flags k)
      ≡ flipped_if (flag_of flags (face_of e))
      (flipped_if (flag_of flags (face_of k)) (clash n e k))
  clash_moved e k a =
      let (both, second, first) = tests (n.from e) (to n e) (n.from k) (to n k) a.stands.first
      a.same.ends in
      let fold =
      λ (u v c : Bool) (p : flag_of flags (face_of e) ≡ u) (q : flag_of flags (face_of k) ≡ v)
      (h : c ≡ flipped_if u (flipped_if v (clash n e k))).
      h ∙ ap (λ (b : Bool). flipped_if b (flipped_if v (clash n e k))) (sym p)
      ∙ ap (λ (b : Bool). flipped_if (flag_of flags (face_of e)) (flipped_if b (clash n e k)))
      (sym q) in
      elim (begins e a.stands) [
        | inl (p, i) ↦
            elim (begins k a.same.stands) [
              | inl (q, j) ↦
                  fold false false _ p q (ap (λ (v : ℕ). v == m.from (moved flags k)) i
                  ∙ ap (λ (v : ℕ). n.from e == v) j)
              | inr (q, j) ↦
                  fold false true _ p q (ap (λ (v : ℕ). v == m.from (moved flags k)) i
                  ∙ ap (λ (v : ℕ). n.from e == v) j ∙ second)
            ]
        | inr (p, i) ↦
            elim (begins k a.same.stands) [
              | inl (q, j) ↦
                  fold true false _ p q (ap (λ (v : ℕ). v == m.from (moved flags k)) i
                  ∙ ap (λ (v : ℕ). to n e == v) j ∙ first)
              | inr (q, j) ↦
                  fold true true _ p q (ap (λ (v : ℕ). v == m.from (moved flags k)) i
                  ∙ ap (λ (v : ℕ). to n e == v) j ∙ both ∙ sym (not-not (clash n e k)))
            ]
      ]

  pub mates_before : (e k : ℕ) → AreMates n e k → AreMates m (moved flags e) (moved flags k)
  mates_before e k a = record {
    stands = was_there e a.stands;
    differ = λ is. a.differ (sym (moved_back flags fs e) ∙ ap (moved flags) is
        ∙ moved_back flags fs k);
    same = record {
      stands = was_there k a.same.stands;
      ends = ends_on (ends_back (was_ends k a.same.stands))
          (ends_on a.same.ends (was_ends e a.stands));
    };
    alone = λ g s.
        let l : moved flags g < 3 * length (turned_by flags fs) =
        subst (λ i. moved flags g < 3 * i) (sym (turned_length flags fs))
        (moved_in flags fs g s.stands.is_side) in
        let now = ends_moved flags fs g s.stands.is_side in
        let j : JoinsSame n e (moved flags g) =
        record {
          stands = stand' (moved flags g) l;
          ends =
              ends_on now (ends_on s.ends (ends_back (was_ends e a.stands)));
        } in
        elim (a.alone (moved flags g) j) [
          | inl is ↦ inl (sym (moved_back flags fs g) ∙ ap (moved flags) is)
          | inr is ↦ inr (sym (moved_back flags fs g) ∙ ap (moved flags) is)
        ];
  }

  pub way_before : (f g : ℕ) (p : Bool) → Way n f g p → (q : Bool) × Way m f g q
      × (flipped_if p (flag_of flags g) ≡ flipped_if q (flag_of flags f))
  way_before f g p stay = (false, stay, refl)
  way_before f g r (over {e} {k} {p} w a) =
      let (q, v, is) = way_before f (face_of e) p w in
      let v' : Way m f (face_of (moved flags e)) q =
      subst (λ i. Way m f i q) (sym (moved_face flags fs e)) v in
      let u = over v' (mates_before e k a) in
      let c = clash_moved e k a in (
        flipped_if (clash m (moved flags e) (moved flags k)) q,
        subst (λ i. Way m f i (flipped_if (clash m (moved flags e) (moved flags k)) q))
            (moved_face flags fs k) u,
        round (clash n e k) p (flag_of flags (face_of k)) (flag_of flags (face_of e))
            ∙ ap (λ (b : Bool). flipped_if b (flipped_if p (flag_of flags (face_of e)))) (sym c)
            ∙ ap (flipped_if (clash m (moved flags e) (moved flags k))) is
            ∙ flip_flip (clash m (moved flags e) (moved flags k)) q (flag_of flags f),
      )

same_even : (p x : Bool) → flipped_if p x ≡ x → p ≡ false
same_even p x h = grind (arith, common_steps)

not_same : (p x : Bool) → flipped_if p x ≡ flipped_if true x → p ≡ true
not_same p x h = grind (arith, common_steps)

module _ (fs : List Corners) (flags : List Bool) (t : AgreeOnceTurned (net_of (kept_of fs)) flags)
  where
    abbrev pub m2 : Net
    m2 = net_of (kept_of fs)

    abbrev pub n2 : Net
    n2 = net_of (turned_by flags (kept_of fs))

    pub stand_m : AllStand m2
    stand_m = (kept_are_fit fs).0

    pub stand_n : AllStand n2
    stand_n = stand_turned fs flags t

    -- An odd closed way stays odd.
    pub odd_on : (f : ℕ) → Way m2 f f true → Way n2 f f true
    odd_on f w =
        let back : turned_by flags (turned_by flags (kept_of fs)) ≡ kept_of fs =
        turned_twice flags (kept_of fs) in
        let stand' = subst (λ (l : List Corners). AllStand (net_of l)) (sym back) stand_m in
        let w' = subst (λ (l : List Corners). Way (net_of l) f f true) (sym back) w in
        let (q, v, is) = way_before flags (turned_by flags (kept_of fs)) stand_n stand' f f true
        w' in
        subst (λ (b : Bool). Way n2 f f b) (not_same q (flag_of flags f) (sym is)) v

module _ (fs : List Corners) (flags again : List Bool)
    (t : AgreeOnceTurned (net_of (kept_of fs)) flags)
    (s : AreTurns (net_of (turned_by flags (kept_of fs))) again) where
  none_again : (f : ℕ) → f < length (turned_by flags (kept_of fs)) → flag_of again f ≡ false
  none_again f l =
      elim (cases_Bool (s.agreeing.twisted f)) [
        | inl set ↦ (s.agreeing.odd f l set).1
        | inr un ↦
            elim (cases_Bool (t.twisted f)) [
              | inl set ↦ absurd
                  (not_both (net_of (turned_by flags (kept_of fs))) again s.agreeing f un
                  (odd_on fs flags t f
                  (t.odd f (subst (λ i. f < i) (turned_length flags (kept_of fs)) l) set).0))
              | inr un2 ↦
                  let w = s.way f l in
                  let (q, v, is) =
                  way_before flags (kept_of fs) (stand_m fs flags t) (stand_n fs flags t) f
                  (s.least f) (s.parity f) w in
                  let flag = (along (net_of (kept_of fs)) flags t f (s.least f) q v un2).1 in
                  parity_is (net_of (turned_by flags (kept_of fs))) again s f (s.parity f) l un w
                  ∙ same_even (s.parity f) (flag_of flags (s.least f)) (is ∙ sym flag)
            ]
      ]

  pub turned_faces_are_turned_once : turned_by again (turned_by flags (kept_of fs))
      ≡ turned_by flags (kept_of fs)
  turned_faces_are_turned_once = none_turned again (turned_by flags (kept_of fs)) none_again
