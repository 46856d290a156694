-- All tables together: a collapse leaves what a `Shrink` keeps, with the collapsed surface.
use Rattle.std.proofs.Common.{◌≡◌, ℕ, ◌+◌, ◌-◌, ◌*◌, ◌<◌, List, length, get_or, set, take}
use Rattle.std.proofs.Common.{Option, Some, None, sym, ap, ◌∙◌, subst, arith}
use Rattle.std.specs.Prelude.{is_some}
use Rattle.std.proofs.lemmas.List.{length-set, length-map}
use Rattle.pm_base.specs.Counts.{one_if}
use Rattle.pm_base.specs.Place.{Place}
use Rattle.pm_base.specs.declared.log.Collapse.{Collapse}
use Rattle.pm_links.specs.Lists.{list_of, IsSound}
use Rattle.pm_runs.specs.Counts.{live_count_of}
use Rattle.pm_runs.specs.Laws.{IsCollapse}
use Rattle.pm_runs.specs.Runs.{IsStep}
use Rattle.pm_runs.specs.Surfaces.{Surface, next_vertex, net_of_surface, face_count_of}
use Rattle.pm_runs.proofs.Collapsed.{next_face}
use Rattle.pm_runs.proofs.Live.{next-after, surface-fresh}
use Rattle.pm_runs.proofs.StepLaws.{steps_keep_surfaces, legal_steps_keep_manifolds}
use Rattle.pm_shrink.specs.Shrinking.{IsKept}
use Rattle.pm_shrink.specs.Tables.{Tables, surface_in, net_in, surface_past, IsAcross, IsRoomy}
use Rattle.pm_shrink.specs.Tables.{IsShrink}
use Rattle.pm_shrink.specs.Writes.{with_corners, without_face, relinked, without_gone}
use Rattle.pm_shrink.specs.Writes.{with_merged, with_next}
use Rattle.pm_shrink.proofs.CollapseLaws.{left_is, right_is, next_is, first_low, second_low, differ}
use Rattle.pm_shrink.proofs.CollapseLaws.{fewer_faces, fewer_live, next_low, all_counted}
use Rattle.pm_shrink.proofs.CollapseLaws.{gone_lists, gone_items, gone_heads, first_move}
use Rattle.pm_shrink.proofs.CollapseLaws.{second_move, places_stay, next_stays}
use Rattle.pm_shrink.proofs.MergedCorners.{AreDropped, AreMerged, last_fan, second_list}
use Rattle.pm_shrink.proofs.MergedFaces.{faces-merged}
use Rattle.pm_shrink.proofs.MergedTables.{length-relinked, across-merged, places-merged}
use Rattle.pm_shrink.proofs.MergedTables.{places-fresh}

-- What each call of a collapse leaves of the tables t, from the two drops to the places.
pub record AreWritten (t : Tables) (c : Collapse) (one two three four last : Tables) : Type 0 where
  pub kept : IsShrink t
  pub step : IsStep (surface_in t) c
  pub left : one ≡ without_gone t c.left
  pub right : two ≡ without_gone one c.right
  pub first : three ≡ with_merged two c.t c.s
  pub second : four ≡ with_merged three c.u c.s
  pub placed : last ≡ with_next four c.t c.u c.place
  pub sound : IsSound four.corners

module _ {t : Tables} {c : Collapse} {one two three four last : Tables}
    (w : AreWritten t c one two three four last) where
  abbrev s : Surface
  s = surface_in t

  abbrev k : ℕ
  k = next_vertex (surface_in t)

  number_is : c.s ≡ k
  number_is = ap (λ (d : Collapse). d.s) w.step.entry

  collapse : IsCollapse (surface_in t) c.t c.u c.place
  collapse =
      steps_keep_surfaces s w.kept.kept.surface w.kept.kept.proper c.t c.u c.place w.step.legal

  dropped : AreDropped (net_in t) (net_of_surface (surface_past t c)) c.t c.u
      (next_vertex (surface_in t)) t.corners two.corners
  dropped = record {
    once = w.kept.kept.proper.once;
    drops = collapse.faces;
    fresh = surface-fresh s w.kept.kept.surface;
    fan = w.kept.kept.corners;
    lists = λ h. rw (← left_is w.kept w.step, ← right_is w.kept w.step)
        (gone_lists w.kept w.step w.left w.right h);
  }

  merged : AreMerged c.t c.u (next_vertex (surface_in t)) two.corners three.corners four.corners
  merged = subst (λ (n : ℕ). AreMerged c.t c.u n two.corners three.corners four.corners) number_is
      (record {
        differ = differ w.kept w.step;
        a_not = λ is. absurd (omega (arith, is, first_low w.kept w.step));
        b_not = λ is. absurd (omega (arith, is, second_low w.kept w.step));
        first = first_move w.kept w.step w.left w.right w.first;
        second = second_move w.kept w.step w.left w.right w.first w.second;
      })

  gone_both : two ≡ without_gone (without_gone t c.left) c.right
  gone_both = w.right ∙ ap (λ (x : Tables). without_gone x c.right) w.left

  faces_are : last.faces ≡ with_corners
      (with_corners (without_face (without_face t.faces c.left) c.right) (list_of two.corners c.t)
      c.s) (list_of three.corners c.u) c.s
  faces_are =
      ap (λ (x : Tables). x.faces) w.placed ∙ ap (λ (x : Tables). x.faces) w.second
      ∙ ap (λ (x : Tables). with_corners x.faces (list_of three.corners c.u) c.s) w.first
      ∙ ap (λ (x : Tables). with_corners (with_corners x.faces (list_of two.corners c.t) c.s)
      (list_of three.corners c.u) c.s) gone_both

  across_is : last.across ≡ relinked (relinked t.across c.left) c.right
  across_is =
      ap (λ (x : Tables). x.across) w.placed ∙ ap (λ (x : Tables). x.across) w.second
      ∙ ap (λ (x : Tables). x.across) w.first ∙ ap (λ (x : Tables). x.across) gone_both

  places_are : last.places ≡ set (set (set t.places c.t None) c.u None) t.next (Some c.place)
  places_are =
      ap (λ (x : Tables). x.places) w.placed
      ∙ ap (λ (n : ℕ). set (set (set four.places c.t None) c.u None) n (Some c.place))
      (next_stays w.kept w.step w.left w.right w.first w.second)
      ∙ ap (λ (xs : List (Option Place)). set (set (set xs c.t None) c.u None) t.next
      (Some c.place)) (places_stay w.kept w.step w.left w.right w.first w.second)

  next_after : last.next ≡ t.next + 1
  next_after = ap (λ (x : Tables). x.next) w.placed
      ∙ ap (λ (n : ℕ). n + 1) (next_stays w.kept w.step w.left w.right w.first w.second)

  count_is : last.face_count ≡ t.face_count - one_if (is_some c.left) - one_if (is_some c.right)
  count_is =
      ap (λ (x : Tables). x.face_count) w.placed ∙ ap (λ (x : Tables). x.face_count) w.second
      ∙ ap (λ (x : Tables). x.face_count) w.first ∙ ap (λ (x : Tables). x.face_count) gone_both

  same_faces : last.faces ≡ (surface_past t c).faces
  same_faces =
      faces_are
      ∙ rw (
        second_list dropped merged,
        number_is,
        left_is w.kept w.step,
        right_is w.kept w.step,
      ) (faces-merged s c.t c.u c.place w.kept.kept.surface dropped)

  same_places : take last.next last.places ≡ (surface_past t c).places
  same_places =
      ap (λ (n : ℕ). take n last.places) next_after ∙ ap (take (t.next + 1)) places_are
      ∙ places-merged t.places t.next c.t c.u c.place
      (omega (arith, first_low w.kept w.step, next_is w.kept w.step))
      (omega (arith, second_low w.kept w.step, next_is w.kept w.step))
      (omega (arith, next_low w.kept w.step, next_is w.kept w.step))

  pub done-surface : surface_in last ≡ surface_past t c
  done-surface = λ i. record { faces = same_faces i; places = same_places i }

  length-faces : length last.faces ≡ length t.faces
  length-faces = ap length same_faces ∙ length-map t.faces (next_face c.t c.u k)

  length-places : length last.places ≡ length t.places
  length-places =
      let one : List (Option Place) = set t.places c.t None in
      let both : List (Option Place) = set one c.u None in
      ap length places_are ∙ length-set both t.next (Some c.place) ∙ length-set one c.u None
      ∙ length-set t.places c.t None

  same_lists : last.corners ≡ four.corners
  same_lists = ap (λ (x : Tables). x.corners) w.placed

  new_kept : IsKept (record { surface = surface_past t c; corners = four.corners.lists })
  new_kept =
      let fewer = fewer_faces w.kept w.step in
      record {
        short = omega (arith, w.kept.kept.short, ap length same_faces, length-faces);
        room = omega (arith, w.kept.kept.room, next-after s c.t c.u c.place, fewer);
        surface = collapse.sound;
        proper = collapse.proper;
        manifold = legal_steps_keep_manifolds s w.kept.kept.surface w.kept.kept.manifold c.t c.u
            c.place w.step.legal;
        corners = last_fan dropped merged w.sound;
      }

  new_across : IsAcross (surface_past t c) last.across
  new_across =
      let len = ap length across_is ∙ length-relinked (relinked t.across c.left) c.right
      ∙ length-relinked t.across c.left in
      record {
        sides = omega
            (arith, len, w.kept.twins.sides, ap length same_faces, length-faces);
        each = λ e st. (
            let old = collapse.faces.stood e st in
            let low : e < length t.across = omega (arith, old.is_side, w.kept.twins.sides) in
            ap (λ xs. get_or xs e None) across_is
            ∙ rw (left_is w.kept w.step, right_is w.kept w.step)
            (across-merged w.kept.kept.proper.once collapse.twins t.across e low st
            (w.kept.twins.each e old)));
      }

  new_roomy : IsRoomy last
  new_roomy =
      let live = ap live_count_of done-surface in
      let faces = ap face_count_of done-surface in
      let counted = all_counted w.kept w.step in
      let one_less = fewer_live w.kept w.step in
      record {
        count = omega (arith, count_is, counted, faces);
        made = ap (λ (x : Surface). length x.places) done-surface
            ∙ next-after s c.t c.u c.place
            ∙ ap (λ (n : ℕ). n + 1) w.kept.roomy.made ∙ sym next_after;
        room = omega (arith, length-places, w.kept.roomy.room, live, one_less, next_after);
        most = omega (arith, length-places, w.kept.roomy.most);
        fresh = λ v l. ap (λ xs. get_or xs v None) places_are
            ∙ places-fresh t.places t.next c.t c.u v c.place (
              omega (arith, first_low w.kept w.step, next_is w.kept w.step),
              omega (arith, second_low w.kept w.step, next_is w.kept w.step),
            ) (omega (arith, next_after))
            (w.kept.roomy.fresh v (omega (arith, next_after)));
      }

  pub done-shrink : IsShrink last
  done-shrink = record {
    kept = rw (done-surface, same_lists) new_kept;
    twins = rw done-surface new_across;
    roomy = new_roomy;
    items = ap (λ (x : Tables). x.corners.items) w.placed ∙ merged.second.items
        ∙ merged.first.items ∙ gone_items w.kept w.step w.left w.right ∙ w.kept.items
        ∙ ap (λ n. 3 * n) (sym length-faces);
    heads = ap (λ (x : Tables). length x.corners.lists) w.placed ∙ merged.second.heads
        ∙ merged.first.heads ∙ gone_heads w.kept w.step w.left w.right ∙ sym length-places;
  }
