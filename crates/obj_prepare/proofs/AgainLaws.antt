-- Preparing again changes nothing: each new vertex goes to the first one of its old vertex, which
-- changes no side's twins, and the order stays.
use Rattle.std.proofs.Common.{◌≡◌, ℕ, ◌+◌, ◌*◌, ◌/◌, ◌%◌, ◌<◌, true, List, length, get_or, map}
use Rattle.std.proofs.Common.{refl, sym, ap, ◌∙◌, subst, Bool, arith}
use Rattle.std.specs.List.{All}
use Rattle.std.proofs.lemmas.Bool.{true≢false}
use Rattle.std.proofs.lemmas.List.{length-map, get_or-map, ext_get_or}
use Rattle.pm_base.specs.declared.mesh.Corners.{Corners}
use Rattle.pm_base.specs.Place.{Place, origin}
use Rattle.pm_base.specs.Meshes.{Mesh}
use Rattle.pm_base.specs.Sides.{Net, net_of, side_count, no_corners}
use Rattle.pm_base.proofs.NetLaws.{face_at, first_side, second_side, third_side}
use Rattle.pm_fans.specs.Kept.{kept_of}
use Rattle.pm_fans.specs.Splits.{AllStand}
use Rattle.pm_fans.specs.Orders.{IsSplitMesh}
use Rattle.pm_fans.proofs.KeptLaws.{kept_are_fit}
use Rattle.pm_fans.proofs.KeptAgain.{renumbered, kept_renumbered}
use Rattle.pm_fans.proofs.SameEnds.{from_renumbered, same_ends, new_rise, split_there}
use Rattle.pm_turn.specs.Turning.{turned_by}
use Rattle.pm_turn.proofs.TurnedFaces.{turned_faces_stay}
use Rattle.pm_turn.proofs.ChosenAgain.{chosen_faces_are_turned_once}
use Rattle.pm_turn.specs.declared.counts.TurnCounts.{TurnCounts}
use Rattle.pm_turn.specs.Choice.{place_at, AreChosenTurns}
use Rattle.pm_turn.specs.ChoiceLaws.{IsRenumbered}
use Rattle.pm_turn.specs.Told.{AreTurnCounts}
use Rattle.pm_turn.proofs.Renumbered.{renumbered_back, chosen_turns_are_renumbered}
use Rattle.pm_turn.proofs.ChosenThere.{chosen_turns_are_there}
use Rattle.obj_prepare.specs.Named.{is_some_corner, AreVerticesBelow}
use Rattle.obj_prepare.specs.Joining.{place_in_list, IsFirstAt, AreJoined, renamed, joined_faces}
use Rattle.obj_prepare.specs.Prepared.{staying, IsPrepared}
use Rattle.obj_prepare.proofs.OwnVertices.{IsOwn, one_place, side_own}
use Rattle.obj_prepare.proofs.FirstLaws.{first_in, firsts_apart, first_found, none_before}
use Rattle.obj_prepare.proofs.PieceLaws.{named_low, corners_named, corner_in_has}
use Rattle.obj_prepare.proofs.TurnedLaws.{turned_stand, turned_renumbered, none_turned}

module _ (places : List Place) (faces : List Corners) (m : Mesh)
    (within : All (AreVerticesBelow (length places)) faces) (p : IsPrepared places faces m) where
  -- The faces that stay, as turned.
  abbrev turned : List Corners
  turned = turned_by p.flags (staying p.names faces)

  turned_fit : AllStand (net_of turned)
  turned_fit = turned_stand p.flags (joined_faces p.names faces)

  abbrev new : Net
  new = net_of m.faces

  old_side : (v : ℕ) → v < length p.old
      → (e : ℕ) × (e < side_count (net_of turned)) × (new.from e ≡ v)
  old_side v l = let (e, t, at) = p.split.used v l in
      (e, subst (λ k. e < 3 * k) p.split.split.faces t.is_side, at)

  old_own : (v : ℕ) → v < length p.old → IsOwn places faces (get_or p.old v 0)
  old_own v l =
      let (e, low, at) = old_side v l in
      subst (IsOwn places faces) (sym (p.split.back e low) ∙ ap (λ i. get_or p.old i 0) at)
      (side_own places faces p.names within p.joined p.flags e low)

  -- The first new vertex of an old one, and of each new vertex the first one of its old one.
  abbrev first : ℕ → ℕ
  first u = first_in p.old u

  abbrev firsts : List ℕ
  firsts = map first p.old

  firsts_at : (v : ℕ) → v < length p.old → get_or firsts v 0 ≡ first (get_or p.old v 0)
  firsts_at v l = get_or-map first p.old v 0 0 l

  points_long : length m.points ≡ length p.old
  points_long = ap length p.stand ∙ length-map p.old (place_in_list places)

  place_new : (v : ℕ) → v < length p.old
      → place_in_list m.points v ≡ place_in_list places (get_or p.old v 0)
  place_new v l = ap (λ ps. place_in_list ps v) p.stand
      ∙ get_or-map (place_in_list places) p.old v 0 origin l

  all_named : (v : ℕ) → v < length p.old → is_some_corner m.faces v ≡ true
  all_named v l =
      let (e, t, at) = p.split.used v l in
      let side = t.is_side in
      let are = corners_named m.faces (e / 3) (omega arith) in
      subst (λ i. is_some_corner m.faces i ≡ true) at
      (corner_in_has (λ i. is_some_corner m.faces i ≡ true) (face_at m.faces (e / 3))
      (e % 3) are.a are.b are.c)

  first_new : (v : ℕ) → v < length p.old → IsFirstAt m.points m.faces v (first (get_or p.old v 0))
  first_new v l =
      let (low, is) = first_found p.old v (get_or p.old v 0) l refl in
      record {
        named = all_named (first (get_or p.old v 0)) low;
        same = place_new (first (get_or p.old v 0)) low ∙ ap (place_in_list places) is
            ∙ sym (place_new v l);
        least = λ w before named same.
            let wl : w < length p.old = omega arith in
            none_before p.old (get_or p.old v 0) w wl before
            (one_place places faces _ _ (old_own w wl) (old_own v l)
            (sym (place_new w wl) ∙ same ∙ place_new v l));
      }

  joined_again : AreJoined m.points m.faces firsts
  joined_again = record {
    all = length-map p.old first ∙ sym points_long;
    each = λ v l named. let low : v < length p.old = omega (arith, points_long, l) in
        subst (IsFirstAt m.points m.faces v) (sym (firsts_at v low)) (first_new v low);
    others = λ v l out. absurd
        (true≢false (sym (all_named v (omega (arith, points_long, l))) ∙ out));
  }

  -- The faces of the mesh over its joined vertices are the turned faces under other numbers.
  side_again : (e : ℕ) → e < side_count (net_of turned)
      → get_or firsts (new.from e) 0 ≡ first ((net_of turned).from e)
  side_again e l = firsts_at (new.from e) (p.split.within e l) ∙ ap first (p.split.back e l)

  face_again : (i : ℕ) → i < length turned
      → renamed firsts (face_at m.faces i) ≡ renumbered first (face_at turned i)
  face_again i l =
      let a = ap (λ v. get_or firsts v 0) (sym (first_side m.faces i).0)
      ∙ side_again (3 * i) (omega arith) ∙ ap first (first_side turned i).0 in
      let b = ap (λ v. get_or firsts v 0) (sym (second_side m.faces i).0)
      ∙ side_again (3 * i + 1) (omega arith) ∙ ap first (second_side turned i).0 in
      let c = ap (λ v. get_or firsts v 0) (sym (third_side m.faces i).0)
      ∙ side_again (3 * i + 2) (omega arith) ∙ ap first (third_side turned i).0 in
      rw (a, b, c) refl

  faces_again : joined_faces firsts m.faces ≡ map (renumbered first) turned
  faces_again = ext_get_or no_corners (joined_faces firsts m.faces) (map (renumbered first) turned)
      (length-map m.faces (renamed firsts) ∙ p.split.split.faces
      ∙ sym (length-map turned (renumbered first))) (λ i l.
      let low : i < length m.faces = omega (arith, length-map m.faces (renamed firsts), l) in
      let in_turned : i < length turned = omega (arith, p.split.split.faces, low) in
      get_or-map (renamed firsts) m.faces i no_corners no_corners low ∙ face_again i in_turned
      ∙ sym (get_or-map (renumbered first) turned i no_corners no_corners in_turned))

  kept_same : staying firsts m.faces ≡ map (renumbered first) turned
  kept_same =
      ap kept_of faces_again ∙ kept_renumbered first (firsts_apart p.old) turned
      ∙ ap (map (renumbered first)) (turned_faces_stay p.flags (joined_faces p.names faces))

  first_old : (e : ℕ) → e < side_count (net_of turned)
      → (first ((net_of turned).from e) < length p.old)
      × (get_or p.old (first ((net_of turned).from e)) 0 ≡ (net_of turned).from e)
  first_old e l = first_found p.old (new.from e) ((net_of turned).from e) (p.split.within e l)
      (p.split.back e l)

  rises : (e g : ℕ) → e < side_count (net_of turned) → g < side_count (net_of turned)
      → (net_of turned).from e < (net_of turned).from g
      → (net_of (map (renumbered first) turned)).from e
      < (net_of (map (renumbered first) turned)).from g
  rises e g el gl less =
      let (low_e, is_e) = first_old e el in
      let (low_g, is_g) = first_old g gl in
      let up = new_rise (net_of turned) m.faces p.old turned_fit p.split _ _ low_e low_g
      (omega (arith, is_e, is_g, less)) in
      omega (arith, up, from_renumbered first turned e el, from_renumbered first turned g gl)

  split_again : IsSplitMesh (net_of (map (renumbered first) turned)) m.faces firsts
  split_again =
      split_there (net_of turned) m.faces p.old turned_fit p.split
      (net_of (map (renumbered first) turned))
      (same_ends first (firsts_apart p.old) turned) rises firsts (length-map p.old first)
      (λ e l. side_again e l ∙ sym (from_renumbered first turned e l))

  stand_again : m.points ≡ map (place_in_list m.points) firsts
  stand_again = ext_get_or origin m.points (map (place_in_list m.points) firsts)
      (points_long ∙ sym (length-map p.old first)
      ∙ sym (length-map firsts (place_in_list m.points))) (λ v l.
      let low : v < length p.old = omega (arith, points_long, l) in
      let in_firsts : v < length firsts = omega (arith, length-map p.old first, low) in
      sym (first_new v low).same ∙ ap (place_in_list m.points) (sym (firsts_at v low))
      ∙ sym (get_or-map (place_in_list m.points) firsts v 0 origin in_firsts))

  -- Each new vertex stands at the place of one that a face names.
  pub place_from : (v : ℕ) → v < length m.points
      → (u : ℕ) × (u < length places) × (is_some_corner faces u ≡ true)
      × (place_in_list m.points v ≡ place_in_list places u)
  place_from v l =
      let low : v < length p.old = omega (arith, points_long, l) in
      let named = (old_own v low).named in (
        get_or p.old v 0,
        named_low (length places) faces
            (get_or p.old v 0) within named,
        named,
        place_new v low,
      )

  -- Of these faces none is turned.
  again : (flags : List Bool) × AreChosenTurns
      (net_of (map (renumbered first) turned)) m.points flags
  again = chosen_turns_are_there (net_of (map (renumbered first) turned)) m.points

  numbers_back : IsRenumbered (net_of (map (renumbered first) turned)) (net_of turned)
  numbers_back =
      let ends = same_ends first (firsts_apart p.old) turned in
      renumbered_back (net_of turned) (net_of (map (renumbered first) turned))
      (record { faces = ends.faces; there = ends.there; back = ends.back })

  places_back : (e : ℕ) → e < side_count (net_of (map (renumbered first) turned))
      → place_at places ((net_of turned).from e)
      ≡ place_at m.points ((net_of (map (renumbered first) turned)).from e)
  places_back e l =
      let el : e < side_count (net_of turned) =
      subst (λ n. e < 3 * n) (length-map turned (renumbered first)) l in
      let (low, is) = first_old e el in
      sym (ap (place_in_list m.points) (from_renumbered first turned e el)
      ∙ place_new (first ((net_of turned).from e)) low ∙ ap (place_in_list places) is)

  turns_of_turned : AreChosenTurns (net_of turned) places again.0
  turns_of_turned =
      chosen_turns_are_renumbered (net_of (map (renumbered first) turned)) (net_of turned)
      m.points places again.0 numbers_back places_back again.1

  turned_same : turned_by again.0 (map (renumbered first) turned) ≡ map (renumbered first) turned
  turned_same =
      turned_renumbered first again.0 turned
      ∙ ap (map (renumbered first))
      (chosen_faces_are_turned_once (joined_faces p.names faces) places p.flags again.0
      p.turns.agreeing turns_of_turned)

  pub prepared_again : IsPrepared m.points m.faces m
  prepared_again = record {
    names = firsts;
    joined = joined_again;
    flags = again.0;
    turns = subst (λ (fs : List Corners). AreChosenTurns (net_of fs) m.points again.0)
        (sym kept_same) again.1;
    old = firsts;
    split = subst
        (λ (fs : List Corners). IsSplitMesh (net_of (turned_by again.0 fs)) m.faces firsts)
        (sym kept_same)
        (subst (λ (fs : List Corners). IsSplitMesh (net_of fs) m.faces firsts) (sym turned_same)
        split_again);
    stand = stand_again;
  }

  pub none_turned_again : (c : TurnCounts)
      → AreTurnCounts (net_of (staying prepared_again.names m.faces)) m.points prepared_again.flags
      c
      → c.turned ≡ 0
  unfolding prepared_again
  none_turned_again c told =
      told.turned
      ∙ none_turned again.0 (staying firsts m.faces) (kept_are_fit (joined_faces firsts m.faces)).0
      (ap (turned_by again.0) kept_same ∙ turned_same ∙ sym kept_same)
