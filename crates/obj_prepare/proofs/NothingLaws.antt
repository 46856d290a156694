-- Where nothing needs to be done, nothing is told of it: all numbers are 0.
use Rattle.std.proofs.Common.{◌≡◌, ℕ, zero, suc, ◌<◌, ◌≤◌, Bool, true, false, not}
use Rattle.std.proofs.lemmas.Grind.{common_steps}
use Rattle.std.proofs.Common.{nat_lt, inl, inr, refl, sym, ap, ◌∙◌, subst, List, [], ◌∷◌, length}
use Rattle.std.proofs.Common.{get_or, arith}
use Rattle.std.specs.List.{All}
use Rattle.std.proofs.lemmas.Bool.{cases_eq, and_parts, eq-eqb, eqb-true, le-ltb}
use Rattle.std.proofs.lemmas.Bool.{or_from, true≢false}
use Rattle.std.proofs.lemmas.List.Elements.{All-head, All-tail}
use Rattle.pm_base.specs.declared.mesh.Corners.{Corners}
use Rattle.pm_base.specs.Meshes.{Mesh}
use Rattle.pm_base.specs.Sides.{Net, net_of, side_count, to}
use Rattle.pm_base.specs.Fans.{IsOrientedManifold}
use Rattle.pm_base.specs.Counts.{count}
use Rattle.pm_base.proofs.Counts.{count-true, count-false, count-zero}
use Rattle.pm_base.proofs.TwinLaws.{stands-true}
use Rattle.pm_fans.specs.Cuts.{side_runs, is_cut, cut_count}
use Rattle.pm_fans.specs.Splits.{AllStand}
use Rattle.pm_base.proofs.Counted.{count_never}
use Rattle.pm_fans.proofs.KeptLaws.{kept_are_fit}
use Rattle.pm_turn.specs.declared.counts.TurnCounts.{TurnCounts}
use Rattle.pm_turn.specs.Turning.{turned_by}
use Rattle.pm_turn.specs.Choice.{AreChosenTurns}
use Rattle.pm_turn.specs.Told.{AreInsideOut, AreTurnCounts}
use Rattle.pm_turn.proofs.ChosenAgain.{manifolds_are_kept}
use Rattle.pm_turn.proofs.ToldAlways.{turn_counts_are_there, manifolds_are_straight}
use Rattle.obj_prepare.specs.Named.{AreVerticesBelow}
use Rattle.obj_prepare.specs.Joining.{renamed, joined_faces}
use Rattle.obj_prepare.specs.Prepared.{staying, IsPrepared, joined_count, AreNotes}
use Rattle.obj_prepare.specs.Laws.{AreFit}
use Rattle.obj_prepare.specs.Nothing.{no_turns, nothing_done}
use Rattle.obj_prepare.proofs.PieceLaws.{named_low}
use Rattle.obj_prepare.proofs.TurnedLaws.{none_turned}
use Rattle.obj_prepare.proofs.RestoredLaws.{all_stay, none_flat, none_double, none_unnamed}
use Rattle.obj_prepare.proofs.RestoredLaws.{none_gone, all_named, split_as_joined}

-- Of numbers that pass no two are different.
count_lone : (p : ℕ → Bool) (n : ℕ) → ((i j : ℕ) → p i ≡ true → p j ≡ true → i ≡ j) → count p n ≤ 1
count_lone p zero lone = omega (arith, count-zero p)
count_lone p (suc n) lone =
    grind (arith, common_steps, count-false, count-true, count_never, count_lone p n lone)

-- No side of an oriented manifold is cut open.

runs_once : (m : Net) (p q : ℕ) → IsOrientedManifold m
    → nat_lt 1 (count (side_runs m p q) (side_count m)) ≡ false
runs_once m p q is =
    grind (arith, common_steps, and_parts, count_lone, eqb-true, le-ltb, stands-true)

none_cut : (m : Net) → IsOrientedManifold m → cut_count m ≡ 0
unfolding is_cut cut_count
none_cut m is = count_never (is_cut m) (side_count m)
    (λ e l t. true≢false (sym t
    ∙ or_from _ _ (runs_once m (m.from e) (to m e) is) (runs_once m (to m e) (m.from e) is)))

module _ (m : Mesh) (corners : All (AreVerticesBelow (length m.points)) m.faces)
    (manifold : IsOrientedManifold (net_of m.faces)) (fit : AreFit m.points m.faces)
    (p : IsPrepared m.points m.faces m) where
  own_name : (v : ℕ) → v < length m.points → get_or p.names v 0 ≡ v
  own_name v l =
      let first = p.joined.each v l (all_named m fit.used p v l) in
      let low = named_low (length m.points) m.faces (get_or p.names v 0) corners first.named in
      elim (cases_eq (get_or p.names v 0) v) [
        | inl is ↦ is
        | inr other ↦
            absurd (fit.apart (get_or p.names v 0) v low l other first.same)
      ]

  own_face : (f : Corners) → AreVerticesBelow (length m.points) f → renamed p.names f ≡ f
  own_face f are = grind (arith, common_steps, own_name)

  own_faces : (fs : List Corners) → All (AreVerticesBelow (length m.points)) fs
      → joined_faces p.names fs ≡ fs
  own_faces [] are = refl
  own_faces (f ∷ fs) are =
      let first = own_face f (All-head (AreVerticesBelow (length m.points)) f fs are) in
      let rest = own_faces fs (All-tail (AreVerticesBelow (length m.points)) f fs are) in
      λ i. first i ∷ rest i

  stay_same : staying p.names m.faces ≡ m.faces
  stay_same = all_stay m fit.used p ∙ own_faces m.faces corners

  none_joined : joined_count p.names m.faces ≡ 0
  unfolding joined_count
  none_joined = count_never _ (length p.names) (λ v l t.
      let low : v < length m.points = omega (arith, l, p.joined.all) in
      true≢false (sym (and_parts _ _ t).1 ∙ ap not (eq-eqb _ _ (own_name v low))))

  all_stand : AllStand (net_of m.faces)
  all_stand = subst (λ (fs : List Corners). AllStand (net_of fs)) stay_same
      (kept_are_fit (joined_faces p.names m.faces)).0

  -- None is turned.
  turned_same : turned_by p.flags m.faces ≡ m.faces
  turned_same =
      manifolds_are_kept m.faces m.points p.flags all_stand manifold
      (subst (λ (fs : List Corners). AreChosenTurns (net_of fs) m.points p.flags) stay_same p.turns)

  stay_turned : turned_by p.flags (staying p.names m.faces) ≡ m.faces
  stay_turned = ap (turned_by p.flags) stay_same ∙ turned_same

  -- What is told of turning.
  abbrev AreInward : ℕ → Type 0
  AreInward = AreInsideOut (net_of m.faces) m.points

  abbrev AreTold : TurnCounts → Type 0
  AreTold = AreTurnCounts (net_of m.faces) m.points p.flags

  none_told : (c : TurnCounts) → AreTold c → c ≡ no_turns c.inside_out
  none_told c told =
      let turned = told.turned ∙ none_turned p.flags m.faces all_stand turned_same in
      let (twisted, crowded) =
      manifolds_are_straight (net_of m.faces) m.points p.flags c all_stand manifold told in
      λ i. record {
        turned = turned i;
        twisted = twisted i;
        crowded = crowded i;
        inside_out = c.inside_out;
      }

  told_turns : (k : ℕ) → AreInward k → AreTold (no_turns k)
  told_turns k inward =
      let (c, told) = turn_counts_are_there (net_of m.faces) m.points p.flags in
      let none : AreTold (no_turns c.inside_out) = subst AreTold (none_told c told) told in
      record {
        turned = none.turned;
        twisted = none.twisted;
        crowded = none.crowded;
        inside_out = inward;
      }

  pub told_nothing : (k : ℕ) → AreInward k
      → AreNotes m.points m.faces p.names p.flags p.old (nothing_done k)
  told_nothing k inward = record {
    joined = sym none_joined;
    flat = sym (none_flat m fit.used p);
    double = sym (none_double m fit.used p);
    turns = subst
        (λ (fs : List Corners). AreTurnCounts (net_of fs) m.points p.flags (no_turns k))
        (sym stay_same) (told_turns k inward);
    cut = sym
        (ap (λ (fs : List Corners). cut_count (net_of fs)) stay_turned
        ∙ none_cut (net_of m.faces) manifold);
    split = sym (split_as_joined m fit.used p corners ∙ none_joined);
    unnamed = sym (none_unnamed m fit.used p);
    gone = sym (none_gone m fit.used p);
  }

  pub nothing_told : (k : ℕ) × AreInward k
      × AreNotes m.points m.faces p.names p.flags p.old (nothing_done k)
  nothing_told =
      let (c, told) = turn_counts_are_there (net_of m.faces) m.points p.flags in
      (c.inside_out, told.inside_out, told_nothing c.inside_out told.inside_out)
