-- A mesh in the place of another one, beside the same rest.
use Rattle.std.proofs.Common.{◌≡◌, ℕ, suc, ◌⊎◌, inl, inr, refl, sym, subst, arith}
use Rattle.pm_base.specs.Sides.{Net, to, third, NoSideTwice, IsBorder}
use Rattle.pm_base.specs.Fans.{IsPairAt, IsUsed, IsOrientedManifold}
use Rattle.pm_base.specs.Rounds.{Goes, stay, on, IsRound, NoMirrorAt}
use Rattle.pm_base.proofs.Rounds.{IsFirst, ends_first}
use Rattle.pm_base.proofs.Sides.{turn, back}
use Rattle.pm_base.proofs.FanLaws.{every_round, no_mirror, closed_inner, used?, round_fan}
use Rattle.pm_seams.specs.Joined.{together, HasSide, HasBorderSide, MayStandFor, MeetsOnBorder}
use Rattle.pm_seams.specs.Laws as law
use Rattle.pm_seams.proofs.Sums.{IsSum, AreApart, sums}
use Rattle.pm_seams.proofs.Borders.{side_alone, alone_side, IsFirstIn, IsSecondIn, led_to, leads_on}
use Rattle.pm_seams.proofs.Borders.{out_first, out_pair, in_pair, second?}
use Rattle.pm_seams.proofs.Chains.{lift, within, no_room, replaced}

module _
    (a b r : Net) (stands : MayStandFor a b) (meets : MeetsOnBorder b r)
    (manifold : IsOrientedManifold b) (whole : IsOrientedManifold (together a r))
  where
    abbrev m : Net
    m = together a r

    abbrev n : Net
    n = together b r

    old : IsSum (together a r) a r
    old = sums a r

    new : IsSum (together b r) b r
    new = sums b r

    apart : AreApart a r
    apart = old.apart whole.no_side_twice

    -- What both have is on the border of b.
    shared : (v x y p q : ℕ) → IsPairAt b v x y → IsPairAt r v p q → IsBorder b v
    shared v x y p q f g = meets v (f.side, f.stands, f.at) (g.side, g.stands, g.at)

    none_in_both : AreApart b r
    none_in_both v x y z f g =
        let first = shared v x y x z f g in
        let second = shared x y v z v (turn b v x y f) (turn r v x z g) in
        let (k, h) = stands.sides v x first second (y, f) in
        apart v x k z h g

    once : NoSideTwice (together b r)
    once = new.once manifold.no_side_twice (old.once_right whole.no_side_twice) none_in_both

    mirrored : (v x y : ℕ) → IsPairAt b v x y → IsPairAt r v y x → IsPairAt a v x y
    mirrored v x y f g =
        stands.faces v x y
        (shared v x y y x f g)
        (shared x y v v y (turn b v x y f) (back r v y x g))
        (shared y v x x v (back b v x y f) (turn r v y x g)) f

    plain : (v : ℕ) → NoMirrorAt (together b r) v
    plain v x y f g =
        elim (new.parts v x y f) [
          | inl fb ↦
              elim (new.parts v y x g) [
                | inl gb ↦ no_mirror b manifold v x y fb gb
                | inr gr ↦
                    let fa = old.left v x y (mirrored v x y fb gr) in
                    no_mirror m whole v x y fa (old.right v y x gr)
              ]
          | inr fr ↦
              elim (new.parts v y x g) [
                | inl gb ↦
                    let ga = old.left v y x (mirrored v y x gb fr) in
                    no_mirror m whole v y x ga (old.right v x y fr)
                | inr gr ↦ no_mirror m whole v x y (old.right v x y fr) (old.right v y x gr)
              ]
        ]

    module _ (v : ℕ) where
      -- where r has no face
      round_beside : (IsUsed r v → ⊥) → IsRound (together b r) v
      round_beside never =
          let (c, all) = every_round b manifold v in (
            c,
            λ x y f. elim (new.parts v x y f) [
              | inl g ↦ lift b n v (new.left v) (all x y g)
              | inr g ↦ absurd (never (g.side, g.stands, g.at))
            ],
          )

      -- where b has none; nor has a then
      no_pair : (IsUsed b v → ⊥) → IsUsed r v → (x y : ℕ) → IsPairAt a v x y → ⊥
      no_pair never (e, s, at) x y f =
          no_room m a r (within m a r old whole.no_side_twice) whole.no_side_twice v
          (λ p q g. elim (led_to a v p q g) [
            | inr h ↦ h
            | inl border ↦
                let (z, k) = out_pair b v p ((stands.border v p).0 border) in
                absurd (never (k.side, k.stands, k.at))
          ])
          (λ p q g. elim (leads_on a v p q g) [
            | inr h ↦ h
            | inl border ↦
                let (z, k) = in_pair b v q ((stands.border q v).0 border) in
                absurd (never (k.side, k.stands, k.at))
          ])
          (every_round m whole v) x (to r e) (y, f)
          (_, record { side = e; stands = s; at = at; one = refl; two = refl })

      round_without : (IsUsed b v → ⊥) → IsUsed r v → IsRound (together b r) v
      round_without never used =
          let (c, all) = every_round m whole v in
          let kept : (x y : ℕ) → IsPairAt m v x y → IsPairAt n v x y = λ x y f.
          elim (old.parts v x y f) [
            | inl g ↦ absurd (no_pair never used x y g)
            | inr g ↦ new.right v x y g
          ] in (
            c,
            λ x y f. elim (new.parts v x y f) [
              | inl g ↦ absurd (never (g.side, g.stands, g.at))
              | inr g ↦ lift m n v kept (all x y (old.right v x y g))
            ],
          )

      -- where both have faces: those of b are an open chain from s
      module _ (used : IsUsed b v) (also : IsUsed r v) where
        start : (x : ℕ) × HasBorderSide b v x
        start =
            let fan = manifold.fans v used in
            elim fan.ends [
              | inr closed ↦ absurd (closed_inner b v fan closed (meets v used also))
              | inl d ↦
                  let (e, t, at) = used in
                  let f : IsPairAt b v (to b e) (third b e) =
                  record { side = e; stands = t; at = at; one = refl; two = refl } in
                  let (i, l, xi, yi) = fan.chain.all (to b e) (third b e) f in
                  elim (led_to b v (fan.w 0) (fan.w 1) (fan.chain.here 0 (omega arith))) [
                    | inl border ↦ (fan.w 0, border)
                    | inr (z, g) ↦
                        let (j, jl, xj, yj) = fan.chain.all z (fan.w 0) g in
                        absurd (d 0 (suc j) (omega arith) (omega arith) yj)
                  ]
            ]

        module _ (s : ℕ) (from_s : (x y : ℕ) → IsPairAt b v x y → Goes b v s x) where
          is_start : (x y : ℕ) → IsPairAt b v x y → IsFirst b v x → s ≡ x
          is_start x y f = ends_first b manifold.no_side_twice v (from_s x y f)

          begins : HasBorderSide b v s
          begins =
              let (x, border) = start in
              let (y, f) = out_pair b v x border in
              subst (HasBorderSide b v) (sym (is_start x y f (out_first b v x border))) border

          first_is : (x y : ℕ) → IsPairAt a v x y → (IsSecondIn a v x → ⊥) → x ≡ s
          first_is x y f never =
              elim (led_to a v x y f) [
                | inr second ↦ absurd (never second)
                | inl border ↦
                    let other = (stands.border v x).0 border in
                    let (z, g) = out_pair b v x other in
                    sym (is_start x z g (out_first b v x other))
              ]

          last_is : (x y : ℕ) → IsPairAt a v x y → (IsFirstIn a v y → ⊥) → Goes b v s y
          last_is x y f never =
              elim (leads_on a v x y f) [
                | inr first ↦ absurd (never first)
                | inl border ↦
                    let (z, g) = in_pair b v y ((stands.border y v).0 border) in
                    on (from_s z y g) g
              ]

          round_from : IsRound m v → IsRound (together b r) v
          round_from (c, all) =
              let first = out_pair a v s ((stands.border v s).1 begins) in
              let over = replaced m a b r n old whole.no_side_twice new v s first_is last_is in
              elim (second? a v c) [
                | inl second ↦ (s, over s c (inr (stay, second)) all first from_s)
                | inr never ↦ (c, over c c (inl (stay, never)) all first from_s)
              ]

        round_across : IsRound (together b r) v
        round_across =
            let (s, from_s) = every_round b manifold v in
            round_from s from_s (every_round m whole v)

      round : IsRound (together b r) v
      round =
          elim (used? r v) [
            | inr never ↦ round_beside never
            | inl also ↦
                elim (used? b v) [
                  | inr never ↦ round_without never also
                  | inl used ↦ round_across used also
                ]
          ]

    surfaces : IsOrientedManifold (together b r)
    surfaces =
        record { no_side_twice = once; fans = λ v used. round_fan n once v (plain v) (round v) }

    in_old : (x y : ℕ) → HasSide m x y → HasSide a x y ⊎ HasSide r x y
    in_old x y (z, f) = elim (old.parts x y z f) [ inl g ↦ inl (z, g) | inr g ↦ inr (z, g) ]

    in_new : (x y : ℕ) → HasSide n x y → HasSide b x y ⊎ HasSide r x y
    in_new x y (z, f) = elim (new.parts x y z f) [ inl g ↦ inl (z, g) | inr g ↦ inr (z, g) ]

    border_stays : (x y : ℕ) → HasBorderSide (together a r) x y → HasBorderSide (together b r) x y
    border_stays x y border =
        let (side, none) = side_alone m x y border in
        elim (in_old x y side) [
          | inl (z, f) ↦
              let here = alone_side a x y (z, f) (λ (k, g). none (k, old.left y x k g)) in
              let ((k, g), never) = side_alone b x y ((stands.border x y).0 here) in
              alone_side n x y (k, new.left x y k g) (λ twin. elim (in_new y x twin) [
                | inl there ↦ never there
                | inr (l, h) ↦ none (l, old.right y x l h)
              ])
          | inr (z, f) ↦
              alone_side n x y (z, new.right x y z f) (λ twin. elim (in_new y x twin) [
                | inl (k, g) ↦
                    let first = shared y x k z x g (turn r x y z f) in
                    let second = shared x k y y z (turn b y x k g) f in
                    let (l, h) = stands.sides y x first second (k, g) in
                    none (l, old.left y x l h)
                | inr (k, g) ↦ none (k, old.right y x k g)
              ])
        ]

    border_was : (x y : ℕ) → HasBorderSide (together b r) x y → HasBorderSide (together a r) x y
    border_was x y border =
        let (side, none) = side_alone n x y border in
        elim (in_new x y side) [
          | inl (z, f) ↦
              let here = alone_side b x y (z, f) (λ (k, g). none (k, new.left y x k g)) in
              let ((k, g), never) = side_alone a x y ((stands.border x y).1 here) in
              alone_side m x y (k, old.left x y k g) (λ twin. elim (in_old y x twin) [
                | inl there ↦ never there
                | inr (l, h) ↦ none (l, new.right y x l h)
              ])
          | inr (z, f) ↦
              alone_side m x y (z, old.right x y z f) (λ twin. elim (in_old y x twin) [
                | inl there ↦
                    let on_a = alone_side a y x there (λ (k, g). apart x y k z g f) in
                    let (k, g) = (side_alone b y x ((stands.border y x).0 on_a)).0 in
                    none (k, new.left y x k g)
                | inr (k, g) ↦ none (k, new.right y x k g)
              ])
        ]

pub glued_borders : law.GluedMeshesKeepBorders
glued_borders a b r stands meets manifold whole x y = (
  border_stays a b r stands meets manifold whole x y,
  border_was a b r stands meets manifold whole x y,
)

pub glued_surfaces : law.GluedMeshesAreSurfaces
glued_surfaces a b r stands meets manifold whole = surfaces a b r stands meets manifold whole
