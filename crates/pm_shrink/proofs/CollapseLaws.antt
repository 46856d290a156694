-- What a collapse that may come next finds in the tables.
use Rattle.std.proofs.Common.{◌≡◌, ◌≢◌, ℕ, ◌+◌, ◌<◌, true, length, Option, refl, sym, ap}
use Rattle.std.proofs.Common.{◌∙◌, subst, arith}
use Rattle.std.specs.Prelude.{option_map, is_some, IfSome}
use Rattle.pm_base.specs.Counts.{one_if}
use Rattle.pm_base.specs.declared.log.Collapse.{Collapse}
use Rattle.pm_base.specs.declared.log.Gone.{Gone}
use Rattle.pm_base.specs.Sides.{face_of, Stands}
use Rattle.pm_links.specs.Lists.{list_of, has, IsHeld}
use Rattle.pm_links.proofs.Calls.{AfterMove, after_move}
use Rattle.pm_runs.specs.Counts.{live_count_of}
use Rattle.pm_runs.specs.Pairs.{Runs}
use Rattle.pm_runs.specs.Runs.{IsStep}
use Rattle.pm_runs.specs.Steps.{side_from_to, gone_at, gone_of}
use Rattle.pm_runs.specs.Surfaces.{is_live, face_count_of}
use Rattle.pm_runs.proofs.FacesLeft.{faces-left, faces-fewer}
use Rattle.pm_runs.proofs.Live.{live_below}
use Rattle.pm_runs.proofs.Living.{joined_live, live_fewer}
use Rattle.pm_runs.proofs.Present.{is_some-map}
use Rattle.pm_shrink.specs.Tables.{Tables, surface_in, net_in, surface_past, IsShrink}
use Rattle.pm_shrink.specs.Writes.{without_face, unlisted, without_gone, with_merged, IsIn}
use Rattle.pm_shrink.specs.Writes.{CanDrop, CanMerge, HavePlaces}
use Rattle.pm_shrink.proofs.GoneLaws.{gone_in, after_gone, unlisted-other, right_spared}
use Rattle.pm_shrink.proofs.MergedFaces.{length-without_face}
use Rattle.pm_shrink.proofs.MergedTables.{length-relinked}
use Rattle.pm_shrink.proofs.WriteLaws.{length-with_corners}

module _ {t : Tables} {c : Collapse} (kept : IsShrink t) (step : IsStep (surface_in t) c) where
  pub left_is : c.left ≡ gone_of (net_in t) c.t c.u
  left_is = ap (λ (d : Collapse). d.left) step.entry

  pub right_is : c.right ≡ gone_of (net_in t) c.u c.t
  right_is = ap (λ (d : Collapse). d.right) step.entry

  pub next_is : c.s ≡ t.next
  next_is = ap (λ (d : Collapse). d.s) step.entry ∙ kept.roomy.made

  both_live : (is_live (surface_in t) c.t ≡ true) × (is_live (surface_in t) c.u ≡ true)
  both_live = joined_live (surface_in t) kept.kept.surface c.t c.u step.legal.joined

  pub first_low : c.t < c.s
  first_low =
      let low = live_below (surface_in t) c.t both_live.0 in
      omega (arith, kept.roomy.made, next_is)

  pub second_low : c.u < c.s
  second_low =
      let low = live_below (surface_in t) c.u both_live.1 in
      omega (arith, kept.roomy.made, next_is)

  pub differ : c.t ≢ c.u
  differ is = absurd (omega (arith, is, step.ordered))

  pub fewer_faces : face_count_of (surface_past t c) < face_count_of (surface_in t)
  fewer_faces =
      faces-fewer (surface_in t) kept.kept.surface kept.kept.proper c.t c.u c.place
      step.legal.joined

  pub fewer_live : live_count_of (surface_past t c) < live_count_of (surface_in t)
  fewer_live = omega
      (arith, live_fewer (surface_in t) c.t c.u c.place both_live.0 both_live.1 differ)

  pub next_low : c.s < length t.places
  next_low = omega (arith, kept.roomy.room, fewer_live, next_is)

  gone-count : (p q : ℕ) → is_some (gone_of (net_in t) p q)
      ≡ is_some (option_map face_of (side_from_to (net_in t) p q))
  gone-count p q =
      is_some-map (gone_at (net_in t)) (side_from_to (net_in t) p q)
      ∙ sym (is_some-map face_of (side_from_to (net_in t) p q))

  pub all_counted : face_count_of (surface_past t c)
      + (one_if (is_some c.left) + one_if (is_some c.right)) ≡ t.face_count
  all_counted =
      let all = faces-left (surface_in t) kept.kept.surface kept.kept.proper c.t c.u c.place in
      let left = ap one_if (ap is_some left_is ∙ gone-count c.t c.u) in
      let right = ap one_if (ap is_some right_is ∙ gone-count c.u c.t) in
      omega (arith, kept.roomy.count)

  -- A corner that stands is in the list of its vertex.
  held : (g : ℕ) → Stands (net_in t) g → has (list_of t.corners ((net_in t).from g)) g ≡ true
  held g st = ((kept.kept.corners ((net_in t).from g)).each g).1 (st, refl)

  pub can_drop_left : CanDrop t c.left
  can_drop_left = record {
    few = kept.kept.short;
    sides = kept.twins.sides;
    counted = omega (arith, all_counted);
    is_in = subst (λ (o : Option Gone). IfSome o (IsIn t)) (sym left_is)
        (gone_in (net_in t) c.t c.u t refl kept.twins.sides
        (λ e r g st same. ((net_in t).from g, held g st)));
  }

  -- The corners of the right face stay in their lists when the left one goes.
  still_held : (e : ℕ) → Runs (net_in t) e c.u c.t → (g : ℕ) → Stands (net_in t) g
      → face_of g ≡ face_of e → IsHeld (without_gone t c.left).corners g
  still_held e r g st same = (
    (net_in t).from g,
    ap (λ xs. has xs g) ((after_gone t.corners c.left).lists ((net_in t).from g))
        ∙ unlisted-other c.left (list_of t.corners ((net_in t).from g)) g
        (subst (λ (o : Option Gone). IfSome o (λ k. face_of g ≢ k.face.0)) (sym left_is)
        (right_spared (net_in t) kept.kept.proper.once c.t c.u e g r same))
        ∙ held g st,
  )

  can_drop_next : CanDrop (without_gone t c.left) c.right
  can_drop_next =
      let faces = length-without_face t.faces c.left in
      let across = length-relinked t.across c.left in
      record {
        few = omega (arith, faces, kept.kept.short);
        sides = omega (arith, faces, across, kept.twins.sides);
        counted = omega (arith, all_counted);
        is_in = subst (λ (o : Option Gone). IfSome o (IsIn (without_gone t c.left)))
            (sym right_is) (gone_in (net_in t) c.u c.t (without_gone t c.left) faces
            (across ∙ kept.twins.sides) still_held);
      }

  pub can_drop_right : {one : Tables} → one ≡ without_gone t c.left → CanDrop one c.right
  can_drop_right {one} is = subst (λ (x : Tables). CanDrop x c.right) (sym is) can_drop_next

  -- The tables without the faces that go.
  module _ {one two : Tables} (left : one ≡ without_gone t c.left)
      (right : two ≡ without_gone one c.right) where
    gone : two ≡ without_gone (without_gone t c.left) c.right
    gone = right ∙ ap (λ (x : Tables). without_gone x c.right) left

    pub gone_lists : (h : ℕ) → list_of two.corners h
        ≡ unlisted c.right (unlisted c.left (list_of t.corners h))
    gone_lists h =
        ap (λ (x : Tables). list_of x.corners h) gone
        ∙ (after_gone (without_gone t c.left).corners c.right).lists h
        ∙ ap (unlisted c.right) ((after_gone t.corners c.left).lists h)

    pub gone_items : two.corners.items ≡ t.corners.items
    gone_items =
        ap (λ (x : Tables). x.corners.items) gone
        ∙ (after_gone (without_gone t c.left).corners c.right).items
        ∙ (after_gone t.corners c.left).items

    pub gone_heads : length two.corners.lists ≡ length t.places
    gone_heads =
        ap (λ (x : Tables). length x.corners.lists) gone
        ∙ (after_gone (without_gone t c.left).corners c.right).heads
        ∙ (after_gone t.corners c.left).heads ∙ kept.heads

    pub gone_faces : length two.faces ≡ length t.faces
    gone_faces =
        ap (λ (x : Tables). length x.faces) gone
        ∙ length-without_face (without_face t.faces c.left) c.right
        ∙ length-without_face t.faces c.left

    pub can_merge_first : CanMerge two c.t c.s
    can_merge_first = record {
      from_in = omega (arith, gone_heads, first_low, next_low);
      to_in = omega (arith, gone_heads, next_low);
      differ = λ is. absurd (omega (arith, is, first_low));
      small = omega (arith, kept.roomy.most, next_low);
      corners = omega (arith, gone_items, gone_faces, kept.items);
    }

    module _ {three : Tables} (first : three ≡ with_merged two c.t c.s) where
      pub first_move : AfterMove two.corners three.corners c.t c.s
      first_move =
          let can = can_merge_first in
          after_move two.corners three.corners c.t c.s can.from_in can.to_in can.differ
          (ap (λ (x : Tables). x.corners) first)

      pub can_merge_second : CanMerge three c.u c.s
      can_merge_second =
          let heads = first_move.heads in
          let items = first_move.items in
          let faces = ap (λ (x : Tables). length x.faces) first
          ∙ length-with_corners two.faces (list_of two.corners c.t) c.s in
          record {
            from_in = omega (arith, heads, gone_heads, second_low, next_low);
            to_in = omega (arith, heads, gone_heads, next_low);
            differ = λ is. absurd (omega (arith, is, second_low));
            small = can_merge_first.small;
            corners = omega (arith, items, faces, can_merge_first.corners);
          }

      module _ {four : Tables} (second : four ≡ with_merged three c.u c.s) where
        pub second_move : AfterMove three.corners four.corners c.u c.s
        second_move =
            let can = can_merge_second in
            after_move three.corners four.corners c.u c.s can.from_in can.to_in can.differ
            (ap (λ (x : Tables). x.corners) second)

        pub places_stay : four.places ≡ t.places
        places_stay =
            ap (λ (x : Tables). x.places) second ∙ ap (λ (x : Tables). x.places) first
            ∙ ap (λ (x : Tables). x.places) gone

        pub next_stays : four.next ≡ t.next
        next_stays =
            ap (λ (x : Tables). x.next) second ∙ ap (λ (x : Tables). x.next) first
            ∙ ap (λ (x : Tables). x.next) gone

        pub have_places : HavePlaces four c.t c.u
        have_places =
            let same = ap length places_stay in
            record {
              first = omega (arith, same, first_low, next_low);
              second = omega (arith, same, second_low, next_low);
              next = omega (arith, same, next_stays, next_is, next_low);
              most = omega (arith, same, kept.roomy.most);
            }
