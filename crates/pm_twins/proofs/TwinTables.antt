-- The marks of the border are filled in side by side.
use Rattle.std.proofs.Common.{◌≡◌, ◌≢◌, ℕ, ◌+◌, ◌<◌, Bool, true, false, not, Option, Some, None}
use Rattle.std.proofs.lemmas.Grind.{common_steps}
use Rattle.std.proofs.Common.{◌⊎◌, inl, inr, List, length, slice_index_or, refl, sym, ap, ◌∙◌}
use Rattle.std.proofs.Common.{subst, arith}
use Rattle.std.proofs.Math.ListN.{set}
use Rattle.std.proofs.lemmas.Bool.{cases_eq, false≢true, true≢false}
use Rattle.std.specs.Option.{is_some, option_map}
use Rattle.std.proofs.lemmas.Option.{none-some}
use Rattle.std.proofs.lemmas.List.{get_or-set_same, get_or-set_other, length-set}
use Rattle.pm_base.specs.declared.ids.Side.{Side}
use Rattle.pm_base.specs.Sides.{Net, side_count, to, twin_of, IsBorderSide, IsBorder}
use Rattle.pm_base.proofs.TwinLaws.{none-twin}
use Rattle.pm_twins.specs.Table.{IsBorderOf}

-- From the test of a side to its number.
pub none_from_test : (r : Option Side) (b : Bool) → is_some r ≡ not b → b ≡ true
    → option_map (λ s. s.0) r ≡ None
none_from_test None b e t = refl
none_from_test (Some x) b e t = absurd (true≢false (e ∙ ap not t))

pub some_from_test : (r : Option Side) (b : Bool) → is_some r ≡ not b → b ≡ false
    → option_map (λ s. s.0) r ≢ None
some_from_test None b e t n = false≢true (e ∙ ap not t)
some_from_test (Some x) b e t n = none-some x.0 (sym n)

-- After n sides: a vertex is marked only if it is on the border, and the ends of a border side
-- among them are marked.
pub record AreMarked (m : Net) (vertices n : ℕ) (border : List Bool) : Type 0 where
  pub len : length border ≡ vertices
  pub sound : (v : ℕ) → v < vertices → slice_index_or border v false ≡ true → IsBorder m v
  pub complete : (e : ℕ) → e < n → IsBorderSide m e
      → (slice_index_or border (m.from e) false ≡ true)
      × (slice_index_or border (to m e) false ≡ true)

-- A side with a twin marks nothing.
pub marked_twinned : (m : Net) (vertices n : ℕ) (border : List Bool) → AreMarked m vertices n border
    → twin_of m n ≢ None → AreMarked m vertices (n + 1) border
marked_twinned m vertices n border k twinned = record {
  len = k.len;
  sound = k.sound;
  complete = λ e l b. elim (cases_eq e n) [
    | inl is ↦ absurd (twinned (sym (ap (twin_of m) is) ∙ none-twin m e b.alone))
    | inr ne ↦ k.complete e (omega arith) b
  ];
}

mark_sets : (border : List Bool) (x w : ℕ) → x < length border
    → (w ≡ x) ⊎ (slice_index_or border w false ≡ true) → slice_index_or (set border x true) w false
    ≡ true
mark_sets border x w l h =
    grind (arith, common_steps, get_or-set_other, get_or-set_same, set, slice_index_or)

-- A side without one marks both its ends.
pub marked_alone : (m : Net) (vertices n x y : ℕ) (border : List Bool)
    → AreMarked m vertices n border → IsBorderSide m n → x ≡ m.from n → y ≡ to m n → x < vertices
    → y < vertices → AreMarked m vertices (n + 1) (set (set border x true) y true)
marked_alone m vertices n x y border k b xis yis xl yl =
    let lx : x < length border = omega (arith, k.len) in
    let ly : y < length (set border x true) = omega (arith, k.len, length-set border x true) in
    let second =
    λ (w : ℕ) (h : (w ≡ y) ⊎ (slice_index_or (set border x true) w false ≡ true)). mark_sets
    (set border x true) y w ly h in
    let first = λ (w : ℕ) (h : (w ≡ x) ⊎ (slice_index_or border w false ≡ true)). second w
    (inr (mark_sets border x w lx h)) in
    record {
      len = length-set (set border x true) y true ∙ length-set border x true ∙ k.len;
      sound = λ v l t. elim (cases_eq v y) [
        | inl is ↦ (n, b, inr (sym yis ∙ sym is))
        | inr ny ↦ elim (cases_eq v x) [
          | inl is ↦ (n, b, inl (sym xis ∙ sym is))
          | inr nx ↦ k.sound v l (sym (get_or-set_other border x v true false nx)
              ∙ sym (get_or-set_other (set border x true) y v true false ny) ∙ t)
        ]
      ];
      complete = λ e l be. elim (cases_eq e n) [
        | inl is ↦ (
          first (m.from e) (inl (ap m.from is ∙ sym xis)),
          second (to m e) (inl (ap (to m) is ∙ sym yis)),
        )
        | inr ne ↦ (let h =
            k.complete e (omega arith) be in (first (m.from e) (inr h.0), first (to m e) (inr h.1)))
      ];
    }

-- After all sides the marks are the border.
pub marks_border : (m : Net) (vertices n : ℕ) (border : List Bool) → AreMarked m vertices n border
    → n ≡ side_count m → IsBorderOf m vertices border
marks_border m vertices n border k all = record {
  vertices = k.len;
  each = λ v l. (
    k.sound v l,
    (λ b.
        let (e, side, at) = b in
        let is_side = side.stands.is_side in
        let h = k.complete e (omega arith) side in
        elim at [
          | inl is ↦ subst (λ i. slice_index_or border i false ≡ true) is h.0
          | inr is ↦ subst (λ i. slice_index_or border i false ≡ true) is h.1
        ]),
  );
}
