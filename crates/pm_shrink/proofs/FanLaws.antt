-- The corners at a vertex: what a walk over them sees of the faces there.
use Rattle.std.proofs.Common.{◌≡◌, ◌↔◌, ℕ, ◌<◌, arith, Bool, true, false, ◌||◌, eqb, List, []}
use Rattle.std.proofs.lemmas.Grind.{common_steps}
use Rattle.std.proofs.Common.{None, ◌∷◌, get_or, ◌⊎◌, inl, inr, refl, sym, ap, ◌∙◌, subst}
use Rattle.std.specs.Prelude.{is_none}
use Rattle.std.specs.List.{All, list_any}
use Rattle.std.proofs.lemmas.List.Elements.{Contains-get_or}
use Rattle.std.proofs.lemmas.Bool.{or_cases, or_left, or_right, and_parts, and_from, eqb-true}
use Rattle.std.proofs.lemmas.Bool.{eq-eqb, cases_Bool, false≢true}
use Rattle.pm_base.specs.Sides.{Net, next, prev, to, third, Stands, side_count, IsBorderSide}
use Rattle.pm_base.specs.Sides.{IsBorder, twin_of}
use Rattle.pm_base.proofs.Sides.{stands_next, next-next-next}
use Rattle.pm_base.proofs.TwinLaws.{twin-is, twin-none, none-twin}
use Rattle.pm_base.proofs.Search.{Decided, option_cases, none_from}
use Rattle.pm_links.specs.Lists.{has}
use Rattle.pm_links.proofs.Members.{has_head, has_tail, has_from_Contains}
use Rattle.pm_runs.specs.Pairs.{Runs, Joined, IsThird, HasFace}
use Rattle.pm_runs.specs.Pairs.{HaveCommonThirds}
use Rattle.pm_runs.specs.Steps.{side_from_to}
use Rattle.pm_runs.proofs.Found.{side-none}
use Rattle.pm_runs.proofs.Legal.{third-common}
use Rattle.pm_runs.proofs.Sides.{runs_last, third_next}
use Rattle.pm_shrink.specs.Shrinking.{AreCornersAt}
use Rattle.pm_shrink.specs.Walks.{holds_vertex, has_two, is_open_corner, HasStray}

module _ {m : Net} {v : ℕ} {xs : List ℕ} (are : AreCornersAt m v xs) where
  pub all_stand : All (Stands m) xs
  all_stand = λ k d l.
      ((are.each (get_or xs k d)).0
      (has_from_Contains xs (get_or xs k d) (Contains-get_or xs k d l))).0

  pub all_start : All (λ e. m.from e ≡ v) xs
  all_start = λ k d l.
      ((are.each (get_or xs k d)).0
      (has_from_Contains xs (get_or xs k d) (Contains-get_or xs k d l))).1

  pub all_within : All (λ e. e < side_count m) xs
  all_within = λ k d l. (all_stand k d l).is_side

-- No face holds a vertex twice.
pub not_own_neighbour : (m : Net) (v : ℕ) → Joined m v v → ⊥
not_own_neighbour m v j = grind (arith, common_steps)

-- A walk over all corners at a vertex: those left to see decide whether one of all passes.
pub record AreLeft (p : ℕ → Bool) (all xs : List ℕ) : Type 0 where
  pub same : list_any p all ≡ list_any p xs

module _ {p : ℕ → Bool} {all xs : List ℕ} {x : ℕ} {rest : List ℕ} (left : AreLeft p all xs)
    (steps : xs ≡ x ∷ rest) where
  pub walk_on : p x ≡ false → AreLeft p all rest
  walk_on no_match = record {
    same = left.same ∙ ap (list_any p) steps ∙ ap (λ b. b || list_any p rest) no_match;
  }

  pub walk_found : p x ≡ true → list_any p all ≡ true
  walk_found match = left.same ∙ ap (list_any p) steps ∙ ap (λ b. b || list_any p rest) match

pub walk_ended : {p : ℕ → Bool} {all xs : List ℕ} → AreLeft p all xs → xs ≡ []
    → list_any p all ≡ false
walk_ended {p} left ends = left.same ∙ ap (list_any p) ends

-- A walk: each item is left to see, or has been found good.
pub record SoFar (good : ℕ → Type 0) (all xs : List ℕ) : Type 0 where
  pub each : (e : ℕ) → has all e ≡ true → (has xs e ≡ true) ⊎ good e

pub so_far_more : {good : ℕ → Type 0} {all xs : List ℕ} {x : ℕ} {rest : List ℕ}
    → SoFar good all xs → xs ≡ x ∷ rest → good x → SoFar good all rest
so_far_more {good} {all} {xs} {x} {rest} passed steps here =
    record { each = more good all xs x rest passed.each steps here }
  where
    more : (good : ℕ → Type 0) (all xs : List ℕ) (x : ℕ) (rest : List ℕ)
        → ((e : ℕ) → has all e ≡ true → (has xs e ≡ true) ⊎ good e) → xs ≡ x ∷ rest → good x
        → (e : ℕ) → has all e ≡ true → (has rest e ≡ true) ⊎ good e
    more good all xs x rest passed steps here e h =
        grind (arith, common_steps, eqb-true, or_cases)

pub so_far_all : {good : ℕ → Type 0} {all xs : List ℕ} → SoFar good all xs → xs ≡ [] → (e : ℕ)
    → has all e ≡ true → good e
so_far_all {good} {all} {xs} passed ends e h =
    let way = passed.each e h in grind (arith, common_steps, false≢true)

any-has : (p : ℕ → Bool) (xs : List ℕ) → list_any p xs ≡ true → (e : ℕ) × (has xs e ≡ true)
    × (p e ≡ true)
any-has p [] t = absurd (false≢true t)
any-has p (x ∷ xs) t = grind (arith, common_steps, has_head, has_tail, or_cases, any-has p xs)

has-any : (p : ℕ → Bool) (xs : List ℕ) (e : ℕ) → has xs e ≡ true → p e ≡ true → list_any p xs ≡ true
has-any p [] e h is = absurd (false≢true h)
has-any p (x ∷ xs) e h is =
    grind (arith, common_steps, eqb-true, or_cases, or_left, or_right, has-any p xs e)

module _ {m : Net} {v : ℕ} {xs : List ℕ} (are : AreCornersAt m v xs) where
  -- A corner that passes is seen, and one that is seen passes.
  pub any-corner : (p : ℕ → Bool) → list_any p xs ≡ true → (e : ℕ) × Stands m e × (m.from e ≡ v)
      × (p e ≡ true)
  any-corner p t = let (e, h, is) = any-has p xs t in let at =
      (are.each e).0 h in (e, at.0, at.1, is)

  pub corner-any : (p : ℕ → Bool) (e : ℕ) → Stands m e → m.from e ≡ v → p e ≡ true
      → list_any p xs ≡ true
  corner-any p e st at is = has-any p xs e ((are.each e).1 (st, at)) is

  -- No corner at v has a side to q, or, where v is q, one before it from p.
  pub no_side : (q : ℕ) → list_any (λ e. eqb (to m e) q) xs ≡ false → None ≡ side_from_to m v q
  no_side q none =
      sym (side-none m v q (λ (e, r). false≢true (sym none
      ∙ corner-any (λ e. eqb (to m e) q) e r.stands r.begins (eq-eqb (to m e) q r.ends))))

  pub no_side_back : (p : ℕ) → list_any (λ e. eqb (third m e) p) xs ≡ false
      → None ≡ side_from_to m p v
  no_side_back p none =
      sym (side-none m p v (λ (e, r). false≢true (sym none
      ∙ corner-any (λ e. eqb (third m e) p) (next e) (stands_next m e r.stands) r.ends
      (eq-eqb (third m (next e)) p (third_next m e ∙ r.begins)))))

  pub seen_joined : (w : ℕ) → (list_any (holds_vertex m w) xs ≡ true) ↔ Joined m v w
  seen_joined w = (
    λ t. (
        let (e, st, at, is) = any-corner (holds_vertex m w) t in
        elim (or_cases (eqb (to m e) w) (eqb (third m e) w) is) [
          | inl k ↦ inl (e, record { stands = st; begins = at; ends = eqb-true (to m e) w k })
          | inr k ↦ inr (
            prev e,
            runs_last m e v (to m e) w (record { stands = st; begins = at; ends = refl })
                (eqb-true (third m e) w k),
          )
        ]),
    λ j. elim j [
      | inl (e, r) ↦
          corner-any (holds_vertex m w) e r.stands r.begins
          (or_left (eqb (to m e) w) (eqb (third m e) w) (eq-eqb (to m e) w r.ends))
      | inr (e, r) ↦
          grind (arith, common_steps, corner-any, eq-eqb, or_right, stands_next, third_next)
    ],
  )

  pub seen_face : (b c : ℕ) → (list_any (has_two m b c) xs ≡ true) ↔ HasFace m v b c
  seen_face b c = (
    λ t. grind (arith, common_steps, any-corner (has_two m b c) t, or_cases, and_parts, eqb-true),
    λ (e, st, at, way). corner-any (has_two m b c) e st at
        (grind (arith, common_steps, or_left, or_right, and_from, eq-eqb)),
  )

pub border-test : (m : Net) (e : ℕ) → Stands m e → is_none (twin_of m e) ≡ true → IsBorderSide m e
border-test m e st t = record { stands = st; alone = twin-none m e (none_from (twin_of m e) t) }

test-border : (m : Net) (e : ℕ) → IsBorderSide m e → is_none (twin_of m e) ≡ true
test-border m e side = ap is_none (none-twin m e side.alone)

pub border-side : (m : Net) (e : ℕ) → Stands m e → (is_none (twin_of m e) ≡ true) ↔ IsBorderSide m e
border-side m e st = (border-test m e st, test-border m e)

module _ {m : Net} {v : ℕ} {xs : List ℕ} (are : AreCornersAt m v xs) where
  pub seen_border : (list_any (is_open_corner m) xs ≡ true) ↔ IsBorder m v
  seen_border = (
    λ t. (
        let (e, st, at, is) = any-corner are (is_open_corner m) t in
        let before = stands_next m (next e) (stands_next m e st) in
        elim (or_cases (is_none (twin_of m e)) (is_none (twin_of m (prev e))) is) [
          | inl k ↦ (e, border-test m e st k, inl at)
          | inr k ↦ (
            prev e,
            border-test m (prev e) before k,
            inr (ap m.from (next-next-next e) ∙ at),
          )
        ]),
    λ (e, side, way). elim way [
      | inl at ↦ corner-any are (is_open_corner m) e side.stands at
          (or_left (is_none (twin_of m e)) (is_none (twin_of m (prev e))) (test-border m e side))
      | inr at ↦
          corner-any are (is_open_corner m) (next e) (stands_next m e side.stands) at
          (or_right (is_none (twin_of m (next e))) (is_none (twin_of m (prev (next e))))
          (ap (λ g. is_none (twin_of m g)) (next-next-next e) ∙ test-border m e side))
    ],
  )

-- A face with corners a, b and w is one that holds a and b, with w for its third.
pub face-third : (m : Net) (a b w : ℕ) → HasFace m a b w → IsThird m a b w
face-third m a b w (e, st, at, way) =
    grind (arith, common_steps, runs_last m e a (to m e) b, third_next m (next e))

pub third-face : (m : Net) (a b w : ℕ) → IsThird m a b w → HasFace m a b w
third-face m a b w (e, links, is) = grind (arith, common_steps, stands_next, third_next)

-- Without a stray every common neighbour is a third corner.
pub no_stray_common : (m : Net) (a b : ℕ) (xs : List ℕ) → AreCornersAt m a xs
    → ((w : ℕ) → Decided (IsThird m a b w)) → ((e : ℕ) → has xs e ≡ true → HasStray m a b e → ⊥)
    → HaveCommonThirds m a b
no_stray_common m a b xs are third? none w = (
  λ (near, other). elim (third? w) [
    | inl is ↦ is
    | inr never ↦
        let onward : (e : ℕ) → Runs m e a w → ⊥ =
        λ e r. none e ((are.each e).1 (r.stands, r.begins))
        (inl (
          subst (Joined m b) (sym r.ends) other,
          λ t. never (subst (IsThird m a b) r.ends t),
        )) in
        absurd (elim near [
          | inl (e, r) ↦ onward e r
          | inr (e, r) ↦
              elim (option_cases (twin_of m e)) [
                | inl alone ↦
                    let is : third m (next e) ≡ w = third_next m e ∙ r.begins in
                    none (next e) ((are.each (next e)).1 (stands_next m e r.stands, r.ends))
                    (inr (
                      ap is_none (ap (twin_of m) (next-next-next e) ∙ alone),
                      (
                        subst (Joined m b) (sym is) other,
                        λ t. never (subst (IsThird m a b) is t),
                      ),
                    ))
                | inr (g, t) ↦
                    let k = twin-is m e g t in
                    onward g (record {
                      stands = k.stands;
                      begins = k.begins ∙ r.ends;
                      ends = k.ends ∙ r.begins;
                    })
              ]
        ])
  ],
  third-common m a b w,
)

-- Whether w is a third corner can be decided by the corners at a.
pub third_decided : (m : Net) (a b : ℕ) (xs : List ℕ) → AreCornersAt m a xs → (w : ℕ)
    → Decided (IsThird m a b w)
third_decided m a b xs are w =
    let seen = seen_face are b w in
    elim (cases_Bool (list_any (has_two m b w) xs)) [
      | inl t ↦ inl (face-third m a b w (seen.0 t))
      | inr f ↦ inr (λ k. false≢true (sym f ∙ seen.1 (third-face m a b w k)))
    ]

-- By the corners at a alone: without a stray every common neighbour is a third corner.
pub no_stray : {m : Net} {a : ℕ} {xs : List ℕ} (b : ℕ) → AreCornersAt m a xs
    → ((e : ℕ) → has xs e ≡ true → HasStray m a b e → ⊥) → HaveCommonThirds m a b
no_stray {m} {a} {xs} b are none =
    no_stray_common m a b xs are (third_decided m a b xs are) none
