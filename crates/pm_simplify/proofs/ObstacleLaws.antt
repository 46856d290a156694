-- What keeps a pair from being collapsed lasts while the vertices that it names are there.
use Rattle.std.proofs.lemmas.Grind.{common_steps}
use Rattle.std.proofs.Common.{◌≡◌, ℕ, inl, inr, refl, sym, ◌∙◌, subst, arith}
use Rattle.pm_base.specs.Place.{Place}
use Rattle.pm_base.specs.Sides.{Net, next, prev, to, third, Stands, IsBorderSide, twin_of}
use Rattle.pm_base.proofs.TwinLaws.{twin-none, none-twin}
use Rattle.pm_runs.specs.Surfaces.{Surface, place_at, net_of_surface, IsSurface, collapsed}
use Rattle.pm_runs.specs.Pairs.{Runs, Joined, Links, IsThird, HasFace, StaysUpright, IsLegalPair}
use Rattle.pm_runs.specs.Merged.{IsProper}
use Rattle.pm_runs.specs.Nearby.{IsOther}
use Rattle.pm_runs.proofs.Sides.{runs_next, runs_last}
use Rattle.pm_runs.proofs.StepLaws.{other_sides_stay, steps_move_nothing_else}
use Rattle.pm_shrink.specs.Obstacles.{TurnsOver, Strays, SharesTriangle, IsAlone}
use Rattle.pm_simplify.specs.SparedFaces.{IsFaceSpared}

-- Each is against a legal pair.
module _ (s : Surface) (a b : ℕ) (place : Place) (legal : IsLegalPair s a b place) where
  pub no_turn : (e : ℕ) → TurnsOver s a b place e → ⊥
  no_turn e x =
      x.turns (legal.upright e x.end x.other_end x.pair x.stands x.begins x.not_to x.not_third)

  pub no_stray : (w : ℕ) → Strays (net_of_surface s) a b w → ⊥
  no_stray w x = x.off ((legal.common w).0 (x.first, x.second))

  pub no_triangle : (e g : ℕ) → SharesTriangle (net_of_surface s) a b e g → ⊥
  no_triangle e g x = legal.triangles e g x.left x.right x.first x.second

  pub not_alone : (e : ℕ) → IsAlone (net_of_surface s) a b e → ⊥
  not_alone e x = legal.single e x.links x.own x.next_side x.prev_side

-- Another pair is collapsed.
module _ (s : Surface) (sound : IsSurface s) (proper : IsProper (net_of_surface s)) (t u : ℕ)
    (at : Place) (legal : IsLegalPair s t u at) where
  abbrev n : Net
  n = net_of_surface s

  abbrev o : Net
  o = net_of_surface (collapsed s t u at)

  abbrev Other : ℕ → Type 0
  Other p = IsOther s t u p

  pub stays : (e p q : ℕ) → Other p → Other q → Runs n e p q → Runs o e p q
  stays e p q x y r = (other_sides_stay s sound proper t u at legal e p q x y).0.0 r

  was : (e p q : ℕ) → Other p → Other q → Runs o e p q → Runs n e p q
  was e p q x y r = (other_sides_stay s sound proper t u at legal e p q x y).0.1 r

  twin_stays : (e p q : ℕ) → Other p → Other q → Runs n e p q → twin_of o e ≡ twin_of n e
  twin_stays e p q x y r = (other_sides_stay s sound proper t u at legal e p q x y).1 r

  joined_stay : (p q : ℕ) → Other p → Other q → Joined n p q → Joined o p q
  joined_stay p q x y j =
      elim j [ inl (e, r) ↦ inl (e, stays e p q x y r) | inr (e, r) ↦ inr (e, stays e q p y x r) ]

  third_stays : (e p q w : ℕ) → Other p → Other q → Other w → Runs n e p q → third n e ≡ w
      → third o e ≡ w
  third_stays e p q w x y z r is = (stays (next e) q w y z (runs_next n e p q w r is)).ends

  third_was : (e p q w : ℕ) → Other p → Other q → Other w → Runs o e p q → third o e ≡ w
      → third n e ≡ w
  third_was e p q w x y z r is = (was (next e) q w y z (runs_next o e p q w r is)).ends

  thirds_were : (a b w : ℕ) → Other a → Other b → Other w → IsThird o a b w → IsThird n a b w
  thirds_were a b w x y z h =
      let (e, l, is) = h in
      elim l [
        | inl r ↦ (e, inl (was e a b x y r), third_was e a b w x y z r is)
        | inr r ↦ (e, inr (was e b a y x r), third_was e b a w y x z r is)
      ]

  pub stray_stays : (a b w : ℕ) → Other a → Other b → Other w → Strays n a b w → Strays o a b w
  stray_stays a b w x y z h =
      record {
        first = joined_stay a w x z h.first;
        second = joined_stay b w y z h.second;
        off =
            λ third. h.off (thirds_were a b w x y z third);
      }

  pub corner_stays : (e a v w : ℕ) → Other a → Other v → Other w → Stands n e → n.from e ≡ a
      → to n e ≡ v → third n e ≡ w → Stands o e × (o.from e ≡ a) × (to o e ≡ v) × (third o e ≡ w)
  corner_stays e a v w x y z st is_a is_v is_w =
      grind (arith, common_steps, stays e a v x y, third_stays e a v w x y z)

  face_stays : (a v w : ℕ) → Other a → Other v → Other w → HasFace n a v w → HasFace o a v w
  face_stays a v w x y z h =
      let (e, st, is, ways) = h in
      elim ways [
        | inl (i, j) ↦ let (st', is', i', j') = corner_stays e a v w x y z st is i j in
            (e, st', is', inl (i', j'))
        | inr (i, j) ↦ let (st', is', i', j') = corner_stays e a w v x z y st is i j in
            (e, st', is', inr (i', j'))
      ]

  pub triangle_stays : (a b e g : ℕ) → Other a → Other b → Other (third n e) → Other (third n g)
      → SharesTriangle n a b e g → SharesTriangle o a b e g
  triangle_stays a b e g x y v w h =
      let is_v : third o e ≡ third n e = third_stays e a b (third n e) x y v h.left refl in
      let is_w : third o g ≡ third n g = third_stays g b a (third n g) y x w h.right refl in
      let at_ends : (c : ℕ) → HasFace o c (third n e) (third n g)
      → HasFace o c (third o e) (third o g) =
      λ c f. subst (λ p. HasFace o c p (third o g)) (sym is_v)
      (subst (HasFace o c (third n e)) (sym is_w) f) in
      record {
        left = stays e a b x y h.left;
        right = stays g b a y x h.right;
        first = at_ends a (face_stays a (third n e) (third n g) x v w h.first);
        second = at_ends b (face_stays b (third n e) (third n g) y v w h.second);
      }

  border_side_stays : (e p q : ℕ) → Other p → Other q → Runs n e p q → IsBorderSide n e
      → IsBorderSide o e
  border_side_stays e p q x y r h =
      record {
        stands = (stays e p q x y r).stands;
        alone =
            twin-none o e (twin_stays e p q x y r ∙ none-twin n e h.alone);
      }

  pub alone_stays : (a b e : ℕ) → Other a → Other b → Other (third n e) → IsAlone n a b e
      → IsAlone o a b e
  alone_stays a b e x y z h =
      let for : (p q : ℕ) → Other p → Other q → Runs n e p q → Links o e a b
      → IsAlone o a b e = λ p q i j r l. record {
        links = l;
        own = border_side_stays e p q i j r h.own;
        next_side = border_side_stays (next e) q (third n e) j z
            (runs_next n e p q (third n e) r refl) h.next_side;
        prev_side = border_side_stays (prev e) (third n e) p z i
            (runs_last n e p q (third n e) r refl) h.prev_side;
      } in
      elim h.links [
        | inl r ↦ for a b x y r (inl (stays e a b x y r))
        | inr r ↦
            for b a y x r (inr (stays e b a y x r))
      ]

  place_stays : (v : ℕ) → Other v → place_at (collapsed s t u at) v ≡ place_at s v
  place_stays v x = ((steps_move_nothing_else s t u at).2 v x).1

  upright_was : (place : Place) (p v w v' w' : ℕ) → Other p → Other v → Other w → v' ≡ v → w' ≡ w
      → StaysUpright (collapsed s t u at) place p v' w' → StaysUpright s place p v w
  upright_was place p v w v' w' x y z i j h =
      grind (arith, common_steps, place_stays p x, place_stays v y, place_stays w z)

  pub turn_stays : (a b e : ℕ) (place : Place) → IsFaceSpared s t u e → TurnsOver s a b place e
      → TurnsOver (collapsed s t u at) a b place e
  turn_stays a b e place spared h =
      grind (
        arith,
        common_steps,
        corner_stays e (n.from e) (to n e) (third n e) spared.from spared.to spared.third h.stands
            refl refl refl,
        upright_was place h.end (to n e) (third n e) (to o e) (third o e)
            (subst Other h.begins spared.from) spared.to spared.third,
      )
