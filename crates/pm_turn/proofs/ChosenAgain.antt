-- Faces that agree are kept, and those that were turned aren't turned again.
use Rattle.std.proofs.Common.{arith, ◌≡◌, ℕ, ◌<◌, inl, inr, sym, ap, ◌∙◌, subst, List, length, Bool}
use Rattle.std.proofs.Common.{true, false}
use Rattle.std.proofs.lemmas.Grind.{common_steps}
use Rattle.std.proofs.lemmas.Bool.{cases_Bool}
use Rattle.pm_base.specs.declared.mesh.Corners.{Corners}
use Rattle.pm_base.specs.Place.{Place}
use Rattle.pm_base.specs.Sides.{Net, face_of, net_of}
use Rattle.pm_base.specs.Fans.{IsOrientedManifold}
use Rattle.pm_fans.specs.Splits.{AllStand}
use Rattle.pm_fans.specs.Kept.{kept_of}
use Rattle.pm_turn.specs.Turning.{turned_by, flag_of, moved, AreMates, clash, flipped_if, Way}
use Rattle.pm_turn.specs.Turning.{AgreeOnceTurned, AllAgree}
use Rattle.pm_turn.specs.Choice.{AreChosenTurns}
use Rattle.pm_turn.proofs.TurnedFaces.{none_turned, not_both, along, once_agree}
use Rattle.pm_turn.proofs.TurnedSides.{moved_face}
use Rattle.pm_turn.proofs.TurnedAgain.{stand_m, stand_n, odd_on, mates_before, clash_moved}
use Rattle.pm_turn.proofs.Traced.{one_in, way_back}

pub agreeing_faces_are_kept : (fs : List Corners) (places : List Place) (flags : List Bool)
    → AllAgree (net_of fs) → AreChosenTurns (net_of fs) places flags → turned_by flags fs ≡ fs
agreeing_faces_are_kept fs places flags all t =
    none_turned flags fs (λ f l. t.same f l (λ e k a _. all e k a))

pub manifolds_are_kept : (fs : List Corners) (places : List Place) (flags : List Bool)
    → AllStand (net_of fs) → IsOrientedManifold (net_of fs)
    → AreChosenTurns (net_of fs) places flags → turned_by flags fs ≡ fs
manifolds_are_kept fs places flags stand is t =
    agreeing_faces_are_kept fs places flags (once_agree (net_of fs) is.no_side_twice) t

undone : (c d p q : Bool) → d ≡ flipped_if p (flipped_if q c) → q ≡ flipped_if d p → c ≡ false
undone c d p q e f = grind (arith, common_steps)

module _ (fs : List Corners) (places : List Place) (flags again : List Bool)
    (t : AgreeOnceTurned (net_of (kept_of fs)) flags)
    (s : AreChosenTurns (net_of (turned_by flags (kept_of fs))) places again) where
  abbrev m : Net
  m = net_of (kept_of fs)

  abbrev n : Net
  n = net_of (turned_by flags (kept_of fs))

  -- Where the turned faces aren't twisted they agree.
  mates_agree : (e k : ℕ) → AreMates n e k → s.agreeing.twisted (face_of e) ≡ false
      → clash n e k ≡ false
  mates_agree e k a un =
      let before =
      mates_before flags (kept_of fs) (stand_m fs flags t) (stand_n fs flags t) e k a in
      let fe = moved_face flags (kept_of fs) e in
      let fk = moved_face flags (kept_of fs) k in
      let straight : t.twisted (face_of (moved flags e)) ≡ false =
      elim (cases_Bool (t.twisted (face_of (moved flags e)))) [
        | inr is ↦ is
        | inl set ↦
            let (w, _) =
            t.odd (face_of (moved flags e)) (one_in m (moved flags e) (moved flags k) before)
            set in
            absurd (not_both n again s.agreeing (face_of e) un
            (odd_on fs flags t (face_of e) (subst (λ i. Way m i i true) fe w)))
      ] in
      let is = (t.agree (moved flags e) (moved flags k) before straight).1 in
      let is' : flag_of flags (face_of k) ≡ flipped_if (clash m (moved flags e) (moved flags k))
      (flag_of flags (face_of e)) =
      ap (flag_of flags) (sym fk) ∙ is
      ∙ ap (λ i. flipped_if (clash m (moved flags e) (moved flags k)) (flag_of flags i)) fe in
      undone (clash n e k) (clash m (moved flags e) (moved flags k)) (flag_of flags (face_of e))
      (flag_of flags (face_of k))
      (clash_moved flags (kept_of fs) (stand_m fs flags t) (stand_n fs flags t) e k a) is'

  none_again : (f : ℕ) → f < length (turned_by flags (kept_of fs)) → flag_of again f ≡ false
  none_again f l =
      elim (cases_Bool (s.agreeing.twisted f)) [
        | inl set ↦ (s.agreeing.odd f l set).1
        | inr un ↦
            let (p, w) = s.patches.way f l in
            let un_r = (along n again s.agreeing f (s.least f) p w un).0 in
            s.same f l (λ e k a at.
            let (q, v) = s.patches.way (face_of e) (one_in n e k a) in
            let back = way_back n (face_of e) (s.least f) q
            (subst (λ i. Way n (face_of e) i q) at v) in
            mates_agree e k a (along n again s.agreeing (s.least f) (face_of e) q back un_r).0)
      ]

  pub chosen_faces_are_turned_once : turned_by again (turned_by flags (kept_of fs))
      ≡ turned_by flags (kept_of fs)
  chosen_faces_are_turned_once = none_turned again (turned_by flags (kept_of fs)) none_again
