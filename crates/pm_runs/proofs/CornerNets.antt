-- Nets that are told by the corners of each face: which sides stand, and when two of them have the
-- same faces.
use Rattle.std.proofs.Common.{◌≡◌, ◌≢◌, ℕ, ◌*◌, ◌%◌, ◌<◌, ◌⊎◌, inl, inr, refl, sym, ap, ◌∙◌, subst}
use Rattle.std.proofs.lemmas.Grind.{common_steps}
use Rattle.std.proofs.Common.{arith}
use Rattle.pm_base.specs.declared.mesh.Corners.{Corners}
use Rattle.pm_base.specs.Sides.{Net, face_of, next, prev, to, third, corner_in, Stands}
use Rattle.pm_base.proofs.Sides.{next_cases, face_of-next}
use Rattle.pm_runs.specs.Merged.{Alike}

abbrev pub net_by : ℕ → (ℕ → Corners) → Net
net_by n corners = record { faces = n; from = λ e. corner_in (corners (face_of e)) (e % 3) }

pub record AreDistinct (k : Corners) : Type 0 where
  pub ab : k.a ≢ k.b
  pub bc : k.b ≢ k.c
  pub ca : k.c ≢ k.a

-- The corners of a side's face, from the side on.
pub record AreTurned (m : Net) (e a b c : ℕ) : Type 0 where
  pub from_is : m.from e ≡ a
  pub to_is : to m e ≡ b
  pub third_is : third m e ≡ c

module _ (n : ℕ) (corners : ℕ → Corners) where
  from-corner : (e f i : ℕ) → face_of e ≡ f → e % 3 ≡ i
      → (net_by n corners).from e ≡ corner_in (corners f) i
  from-corner e f i at is =
      ap (λ (k : ℕ). corner_in (corners k) (e % 3)) at ∙ ap (corner_in (corners f)) is

  pub side_cases : (e f : ℕ) → face_of e ≡ f → let k =
      corners f in AreTurned (net_by n corners) e k.a k.b k.c
      ⊎ (AreTurned (net_by n corners) e k.b k.c k.a ⊎ AreTurned (net_by n corners) e k.c k.a k.b)
  side_cases e f at =
      grind (
        arith,
        common_steps,
        from-corner e f 0 at,
        from-corner (next e) f 1,
        from-corner (prev e) f 2,
        from-corner e f 1 at,
        from-corner (next e) f 2,
        from-corner (prev e) f 0,
        from-corner e f 2 at,
        from-corner (next e) f 0,
        from-corner (prev e) f 1,
        next_cases e,
        next_cases (next e),
      )

  -- A side stands where its face's corners are three vertices.
  stands_by : (e a b c : ℕ) → e < 3 * n → AreTurned (net_by n corners) e a b c → a ≢ b → b ≢ c
      → c ≢ a → Stands (net_by n corners) e
  stands_by e a b c l t ab bc ca = grind (arith, common_steps)

  pub distinct_stands : (e : ℕ) → e < 3 * n → AreDistinct (corners (face_of e))
      → Stands (net_by n corners) e
  distinct_stands e l d =
      elim (side_cases e (face_of e) refl) [
        | inl t ↦ stands_by e _ _ _ l t d.ab d.bc d.ca
        | inr h ↦ elim h [
          | inl t ↦ stands_by e _ _ _ l t d.bc d.ca d.ab
          | inr t ↦
              stands_by e _ _ _ l t d.ca d.ab d.bc
        ]
      ]

  pub stands_distinct : (e : ℕ) → Stands (net_by n corners) e → AreDistinct (corners (face_of e))
  stands_distinct e st =
      elim (side_cases e (face_of e) refl) [
        | inl t ↦ record {
          ab = λ is. st.first (t.from_is ∙ is ∙ sym t.to_is);
          bc = λ is. st.second (t.to_is ∙ is ∙ sym t.third_is);
          ca = λ is. st.last (t.third_is ∙ is ∙ sym t.from_is);
        }
        | inr h ↦
            elim h [
              | inl t ↦ record {
                bc = λ is. st.first (t.from_is ∙ is ∙ sym t.to_is);
                ca = λ is. st.second (t.to_is ∙ is ∙ sym t.third_is);
                ab = λ is. st.last (t.third_is ∙ is ∙ sym t.from_is);
              }
              | inr t ↦ record {
                ca = λ is. st.first (t.from_is ∙ is ∙ sym t.to_is);
                ab = λ is. st.second (t.to_is ∙ is ∙ sym t.third_is);
                bc = λ is. st.last (t.third_is ∙ is ∙ sym t.from_is);
              }
            ]
      ]

-- All three sides of a face have the same corners.
from_same : (n o : ℕ) (k l : ℕ → Corners) (e f : ℕ) → face_of e ≡ f → l f ≡ k f
    → (net_by o l).from e ≡ (net_by n k).from e
from_same n o k l e f at is =
    ap (λ (c : Corners). corner_in c (e % 3)) (subst (λ g. l g ≡ k g) (sym at) is)

pub same_face : (n o : ℕ) (k l : ℕ → Corners) (e : ℕ) → l (face_of e) ≡ k (face_of e) →
    ((net_by o l).from e ≡ (net_by n k).from e) × (to (net_by o l) e ≡ to (net_by n k) e)
    × (third (net_by o l) e ≡ third (net_by n k) e)
same_face n o k l e is = grind (arith, common_steps, face_of-next, from_same)

half_alike : (n o : ℕ) (k l : ℕ → Corners) → o ≡ n → ((f : ℕ) → AreDistinct (k f) → l f ≡ k f)
    → (p e : ℕ) → Stands (net_by n k) e → (net_by n k).from e ≡ p →
    Stands (net_by o l) e × ((net_by o l).from e ≡ p) × (to (net_by o l) e ≡ to (net_by n k) e)
    × (third (net_by o l) e ≡ third (net_by n k) e)
half_alike n o k l count each p e st is =
    grind (
      arith,
      common_steps,
      distinct_stands o l e,
      same_face n o k l e,
      stands_distinct n k e st,
    )

-- Two nets with the same corners wherever one of them has three different ones.
pub corners-alike : (n o : ℕ) (k l : ℕ → Corners) → o ≡ n
    → ((f : ℕ) → AreDistinct (k f) → l f ≡ k f) → ((f : ℕ) → AreDistinct (l f) → l f ≡ k f)
    → Alike (net_by n k) (net_by o l)
corners-alike n o k l count forth back p = record {
  forth = λ e st is. half_alike n o k l count forth p e st is;
  back = λ e st is. half_alike o n l k (sym count) (λ f d. sym (back f d)) p e st is;
}

-- Two nets whose sides run from the same vertices.
pointwise_half : (m n : Net) → n.faces ≡ m.faces → ((e : ℕ) → n.from e ≡ m.from e) → (p e : ℕ)
    → Stands m e → m.from e ≡ p → Stands n e × (n.from e ≡ p) × (to n e ≡ to m e)
    × (third n e ≡ third m e)
pointwise_half m n count each p e st is = grind (arith, common_steps)

pub pointwise-alike : (m n : Net) → n.faces ≡ m.faces → ((e : ℕ) → n.from e ≡ m.from e) → Alike m n
pointwise-alike m n count each p = grind (arith, common_steps, pointwise_half)
