-- One pair of mates joined, in the tables.
use Rattle.std.proofs.Common.{◌≡◌, ℕ, ◌+◌, ◌<◌, Bool, true, false, not, arith}
use Rattle.std.proofs.lemmas.Grind.{common_steps}
use Rattle.pm_base.specs.Sides.{Net, face_of}
use Rattle.pm_turn.specs.Turning.{AreMates, clash, flipped_if}
use Rattle.pm_turn.specs.Unions.{Elders, Up, AreElders, under, marked}
use Rattle.pm_turn.proofs.Joining.{up_below}
use Rattle.pm_turn.proofs.JoinedSides.{agreeing_more, odd_more, under_first, under_second}

flips_differ : (q x : Bool) → flipped_if q x ≡ true → q ≡ not x
flips_differ q x h = grind (arith, common_steps)

flips_same : (q x : Bool) → flipped_if q x ≡ false → q ≡ x
flips_same q x h = grind (arith, common_steps)

module _ (m : Net) (n k : ℕ) (t : Elders) (s : AreElders m n t) (a : AreMates m n k) (r o : ℕ)
    (p q c : Bool) (v : Up t (face_of n) r p) (w : Up t (face_of k) o q) (ci : c ≡ clash m n k)
  where
    pub root_low : (len : ℕ) → len ≡ m.faces → r < len
    root_low len e = let b = up_below m n t s (face_of n) r p v in
        omega (arith, b, e, a.stands.is_side)

    pub other_low : (len : ℕ) → len ≡ m.faces → o < len
    other_low len e = let b = up_below m n t s (face_of k) o q w in
        omega (arith, b, e, a.same.stands.is_side)

    pub put_first : (d x : Bool) (u : Elders) → r < o → x ≡ flipped_if c q → d ≡ flipped_if p x
        → u ≡ under t r o d → AreElders m (n + 1) u
    put_first d x u l xi di is = grind (arith, common_steps, under_first)

    pub put_second : (d x : Bool) (u : Elders) → o < r → x ≡ flipped_if c p → d ≡ flipped_if q x
        → u ≡ under t o r d → AreElders m (n + 1) u
    put_second d x u l xi di is = grind (arith, common_steps, under_second)

    one_face : (r < o → ⊥) → (o < r → ⊥) → r ≡ o
    one_face f g = omega (arith, f, g)

    pub mark_root : (x z : Bool) (u : Elders) → (r < o → ⊥) → (o < r → ⊥) → x ≡ flipped_if c p
        → z ≡ flipped_if q x → z ≡ true → u ≡ marked t r → AreElders m (n + 1) u
    mark_root x z u f g xi zi set is = grind (arith, common_steps, flips_differ, odd_more, one_face)

    pub pass_on : (x z : Bool) → (r < o → ⊥) → (o < r → ⊥) → x ≡ flipped_if c p → z ≡ flipped_if q x
        → z ≡ false → AreElders m (n + 1) t
    pass_on x z f g xi zi un = grind (arith, common_steps, agreeing_more, flips_same, one_face)
