-- The least and the greatest product on an axis, and sums of three, in words of any width.
use Rattle.std.proofs.Common.{◌≡◌, ℕ, ◌*◌, ◌^◌, ◌<◌, ◌≤◌, w32, w64, FitsSigned, to_z, of_z, refl}
use Rattle.std.proofs.Common.{◌∙◌, subst, arith, lit<, lit≤}
use Rattle.std.proofs.lemmas.Grind.{common_steps}
use Rattle.std.proofs.Math.Nat.{le_trans}
use mir.Syntax.{Width}
use mir.Val.{hbits}
use borrow.Author.Differences.{ints}
use Rattle.std.specs.Prelude.{ℤ, pos, ◌+ℤ◌, ◌-ℤ◌, ◌*ℤ◌, unsigned_abs}
use Rattle.std.proofs.lemmas.Int.{to_z-of_z}
use Rattle.pm_base.specs.Place.{Place, IsPlace}
use Rattle.pm_base.proofs.ReadBack.{Computes, computes, computed_small, read_is, read_small}
use Rattle.pm_base.proofs.ReadBack.{equal_small}
use Rattle.pm_bounds.specs.Boxes.{IsSmallBox}
use Rattle.pm_bounds.specs.declared.normal_box.NormalBox.{NormalBox}
use Rattle.pm_view.specs.Views.{IsEye}
use Rattle.pm_view.proofs.Ends.{below_is, above_is}

-- A number as it is read back from a word, and that it is then at most m away from 0.
abbrev pub read : Width → ℤ → ℤ
read w z = to_z w (of_z w z)

abbrev pub Reads : Width → ℤ → ℕ → Type 0
Reads w z m = unsigned_abs (read w z) ≤ m

-- What a product, an end of a ball, a product of ends and a sum ask of their arguments, which they
-- read back.
pub product_asks : (k : ℕ) → k < 2 ^ 63 → (a c : ℤ) → unsigned_abs a ≤ 2 ^ 34 → unsigned_abs c ≤ k
    → record { a_small : Reads w64 a (2 ^ 34); b_small : Reads w64 c k }
product_asks k s a c p q = grind (arith, common_steps, read_small)

pub end_asks : (at eye : ℤ) (radius : ℕ) → unsigned_abs at ≤ 32767 → radius ≤ 2 ^ 38
    → unsigned_abs eye ≤ 16777215
    → record {
      at_small : Reads w32 at 32767;
      radius_small : radius ≤ 2 ^ 38;
      eye_small : Reads w32 eye 16777215;
    }
end_asks at eye radius p q s = grind (arith, common_steps, read_small)

pub ends_ask : (k : ℕ) → k < 2 ^ 63 → (a b c d : ℤ) → unsigned_abs a ≤ 2 ^ 34
    → unsigned_abs b ≤ 2 ^ 34 → unsigned_abs c ≤ k → unsigned_abs d ≤ k
    → record {
      a_small : Reads w64 a (2 ^ 34);
      b_small : Reads w64 b (2 ^ 34);
      c_small : Reads w64 c k;
      d_small : Reads w64 d k;
    }
ends_ask k s a b c d pa pb pc pd = grind (arith, common_steps, read_small)

pub sum_asks : (w : Width) (m : ℕ) → m < 2 ^ hbits w → (x y z : ℤ) → unsigned_abs x ≤ m
    → unsigned_abs y ≤ m → unsigned_abs z ≤ m
    → record { a_small : Reads w x m; b_small : Reads w y m; c_small : Reads w z m }
sum_asks w m s x y z p q r = grind (arith, common_steps, read_small)

-- The sides of a box, a place that was read as r, and an eye, on one axis.
pub record Axis (low high at eye r : ℤ) : Type 0 where
  pub low_small : unsigned_abs low ≤ 8589410312
  pub high_small : unsigned_abs high ≤ 8589410312
  pub is : r ≡ at
  pub at_small : unsigned_abs at ≤ 32767
  pub eye_small : unsigned_abs eye ≤ 16777215

-- A coordinate of a place, as it was read.
abbrev pub IsRead : ℤ → ℤ → Place → Type 0
IsRead r at p = record { value : r ≡ at; in_range : IsPlace p }

x_axis : (b : NormalBox) (p eye : Place) (r : ℤ) → IsSmallBox b → IsRead r p.x p → IsEye eye
    → Axis b.low.x b.high.x p.x eye.x r
x_axis b p eye r h e v = grind (arith, common_steps)

y_axis : (b : NormalBox) (p eye : Place) (r : ℤ) → IsSmallBox b → IsRead r p.y p → IsEye eye
    → Axis b.low.y b.high.y p.y eye.y r
y_axis b p eye r h e v = grind (arith, common_steps)

z_axis : (b : NormalBox) (p eye : Place) (r : ℤ) → IsSmallBox b → IsRead r p.z p → IsEye eye
    → Axis b.low.z b.high.z p.z eye.z r
z_axis b p eye r h e v = grind (arith, common_steps)

-- What a product on an axis asks of its arguments.
abbrev pub AxisAsks : ℤ → ℤ → ℤ → ℤ → ℕ → ℕ → Type 0
AxisAsks low high r eye radius k = record {
  low_small : Reads w64 low (2 ^ 34);
  high_small : Reads w64 high (2 ^ 34);
  at_small : Reads w32 r 32767;
  radius_small : radius ≤ k;
  eye_small : Reads w32 eye 16777215;
}

side_small : (a : ℤ) → unsigned_abs a ≤ 8589410312 → Reads w64 a (2 ^ 34)
side_small a p = read_small w64 a (2 ^ 34) (le_trans p (lit≤ tt)) (lit< tt)

axis_asks : (low high at eye r : ℤ) (radius k : ℕ) → Axis low high at eye r → radius ≤ k
    → AxisAsks low high r eye radius k
axis_asks low high at eye r radius k h p =
    grind (arith, common_steps, equal_small, read_small, side_small)

pub x_asks : (b : NormalBox) (p eye : Place) (r : ℤ) (radius k : ℕ) → IsSmallBox b
    → IsRead r p.x p → IsEye eye → radius ≤ k → AxisAsks b.low.x b.high.x r eye.x radius k
x_asks b p eye r radius k h e v = axis_asks _ _ _ _ _ radius k (x_axis b p eye r h e v)

pub y_asks : (b : NormalBox) (p eye : Place) (r : ℤ) (radius k : ℕ) → IsSmallBox b
    → IsRead r p.y p → IsEye eye → radius ≤ k → AxisAsks b.low.y b.high.y r eye.y radius k
y_asks b p eye r radius k h e v = axis_asks _ _ _ _ _ radius k (y_axis b p eye r h e v)

pub z_asks : (b : NormalBox) (p eye : Place) (r : ℤ) (radius k : ℕ) → IsSmallBox b
    → IsRead r p.z p → IsEye eye → radius ≤ k → AxisAsks b.low.z b.high.z r eye.z radius k
z_asks b p eye r radius k h e v = axis_asks _ _ _ _ _ radius k (z_axis b p eye r h e v)

-- A number that is known by its value, and is small.
by_value : (w : Width) (m : ℕ) → m < 2 ^ hbits w → (z v : ℤ) → z ≡ v → unsigned_abs z ≤ m
    → Computes w z v m
by_value w m l z v e p = computes w z v m e (subst (λ (x : ℤ). unsigned_abs x ≤ m) e p) l

-- What is computed, as it is answered.
abbrev pub Gives : Width → ℤ → ℤ → ℕ → Type 0
Gives w z v m = record { value : read w z ≡ v; small : Reads w z m }

gives : (w : Width) (z v : ℤ) (m : ℕ) → Computes w z v m → Gives w z v m
gives w z v m h = record { value = h.value; small = computed_small w z v m h }

-- The less or the greater of two numbers is as small as both.
abbrev pub Chooses : (ℤ → ℤ → ℤ) → Type 0
Chooses choose =
    (x y : ℤ) (m : ℕ) → unsigned_abs x ≤ m → unsigned_abs y ≤ m → unsigned_abs (choose x y) ≤ m

chosen : (w : Width) (m : ℕ) → m < 2 ^ hbits w → (choose : ℤ → ℤ → ℤ) → Chooses choose
    → (r x y a b : ℤ) → r ≡ choose (read w x) (read w y) → Computes w x a m → Computes w y b m
    → Computes w r (choose a b) m
chosen w m s choose keeps r x y a b e p q =
    computes w r (choose a b) m (e ∙ rw (p.value, q.value) refl) (keeps a b m p.small q.small) s

-- The product of two ends, which were read.
abbrev pub IsProduct : ℕ → ℤ → ℤ → ℤ → Type 0
IsProduct m p a c = record { value : p ≡ read w64 a *ℤ read w64 c; small : unsigned_abs p ≤ m }

product_read : (w : Width) (m : ℕ) → m < 2 ^ hbits w → (p a c : ℤ) → FitsSigned w64 a
    → FitsSigned w64 c → IsProduct m p a c → Computes w p (a *ℤ c) m
product_read w m s p a c fa fc h =
    by_value w m s p (a *ℤ c) (h.value ∙ rw (to_z-of_z w64 a fa, to_z-of_z w64 c fc) refl) h.small

-- The least or the greatest of the four products of ends.
pub four_chosen : (w : Width) (m : ℕ) → m < 2 ^ hbits w → (choose : ℤ → ℤ → ℤ) → Chooses choose
    → (a b c d p q r s u v t : ℤ) → FitsSigned w64 a → FitsSigned w64 b → FitsSigned w64 c
    → FitsSigned w64 d → IsProduct m p a c → IsProduct m q a d → IsProduct m r b c
    → IsProduct m s b d → u ≡ choose (read w p) (read w q) → v ≡ choose (read w r) (read w s)
    → t ≡ choose (read w u) (read w v)
    → Gives w t (choose (choose (a *ℤ c) (a *ℤ d)) (choose (b *ℤ c) (b *ℤ d))) m
four_chosen w m l choose keeps a b c d p q r s u v t fa fb fc fd hp hq hr hs eu ev et =
    let ac = product_read w m l p a c fa fc hp in
    let ad = product_read w m l q a d fa fd hq in
    let bc = product_read w m l r b c fb fc hr in
    let bd = product_read w m l s b d fb fd hs in
    let one = chosen w m l choose keeps u p q (a *ℤ c) (a *ℤ d) eu ac ad in
    let two = chosen w m l choose keeps v r s (b *ℤ c) (b *ℤ d) ev bc bd in
    gives w t _ m (chosen w m l choose keeps t u v _ _ et one two)

-- The least or the greatest product as a function of the ends, and its value on an axis.
abbrev pub Product : Type 0
Product = ℤ → ℤ → ℤ → ℤ → ℤ

abbrev pub on_axis : Product → ℤ → ℤ → ℤ → ℤ → ℕ → ℤ
on_axis product low high at eye radius =
    product low high (at -ℤ pos radius -ℤ eye) (at +ℤ pos radius -ℤ eye)

-- An end of a ball, as a call answers it.
abbrev pub IsEnd : ℤ → ℤ → Type 0
IsEnd v c = record { value : c ≡ v; small : unsigned_abs c ≤ 2 ^ 40 }

-- A product of the sides of a box and the ends of a ball that were computed.
pub axis_of_ends : (w : Width) (m : ℕ) → m < 2 ^ hbits w → (product : Product)
    → (p a b c d at eye : ℤ) (radius : ℕ) → FitsSigned w32 at → FitsSigned w32 eye
    → p ≡ product (read w64 a) (read w64 b) (read w64 c) (read w64 d) → unsigned_abs p ≤ m
    → unsigned_abs a ≤ 2 ^ 34 → unsigned_abs b ≤ 2 ^ 34
    → IsEnd (read w32 at -ℤ pos radius -ℤ read w32 eye) c
    → IsEnd (read w32 at +ℤ pos radius -ℤ read w32 eye) d
    → Gives w p (on_axis product a b at eye radius) m
axis_of_ends w m l product p a b c d at eye radius f g e s sa sb hc hd =
    grind (arith, common_steps, above_is, below_is, by_value, gives, read_is)

-- A product on an axis, of sides and numbers that were read.
abbrev pub IsOnAxis : Product → ℕ → ℤ → ℤ → ℤ → ℤ → ℕ → ℤ → Type 0
IsOnAxis product m low high r eye radius p = record {
  value :
      p ≡ on_axis product (read w64 low) (read w64 high) (read w32 r) (read w32 eye) radius;
  small : unsigned_abs p ≤ m;
}

axis_computes : (w : Width) (m : ℕ) → m < 2 ^ hbits w → (product : Product)
    → (low high at eye r p : ℤ) (radius : ℕ) → Axis low high at eye r
    → IsOnAxis product m low high r eye radius p
    → Computes w p (on_axis product low high at eye radius) m
axis_computes w m l product low high at eye r p radius h e =
    grind (arith, common_steps, by_value, read_is)

sum_is : (w : Width) (m : ℕ) → 3 * m < 2 ^ hbits w → (t x y z a b c : ℤ)
    → t ≡ read w x +ℤ read w y +ℤ read w z → Computes w x a m → Computes w y b m
    → Computes w z c m → read w t ≡ a +ℤ b +ℤ c
sum_is w m k t x y z a b c e p q s =
    let is : t ≡ a +ℤ b +ℤ c = e ∙ rw (p.value, q.value, s.value) refl in
    read_is w t (3 * m) (omega (arith, ints, is, p.small, q.small, s.small)) k ∙ is

-- The facing of a box, as the sum of three such products.
abbrev pub facing_of : Product → NormalBox → Place → ℕ → Place → ℤ
facing_of product b p radius eye =
    on_axis product b.low.x b.high.x p.x eye.x radius
    +ℤ on_axis product b.low.y b.high.y p.y eye.y radius
    +ℤ on_axis product b.low.z b.high.z p.z eye.z radius

-- Their sum, as it is computed and read back.
pub facing_is : (w : Width) (m : ℕ) → m < 2 ^ hbits w → 3 * m < 2 ^ hbits w → (product : Product)
    → (b : NormalBox) (p eye now : Place) (radius : ℕ) (rx ry rz x y z t : ℤ)
    → IsSmallBox b → IsRead rx p.x p → IsRead ry p.y p → IsRead rz p.z p → IsEye eye
    → IsOnAxis product m b.low.x b.high.x rx eye.x radius x
    → IsOnAxis product m b.low.y b.high.y ry eye.y radius y
    → IsOnAxis product m b.low.z b.high.z rz eye.z radius z
    → t ≡ read w x +ℤ read w y +ℤ read w z → eye ≡ now
    → read w t ≡ facing_of product b p radius now
facing_is w m l k product b p eye now radius rx ry rz x y z t h ax ay az v ex ey ez e same =
    let px = axis_computes w m l product _ _ _ _ rx x radius (x_axis b p eye rx h ax v) ex in
    let py = axis_computes w m l product _ _ _ _ ry y radius (y_axis b p eye ry h ay v) ey in
    let pz = axis_computes w m l product _ _ _ _ rz z radius (z_axis b p eye rz h az v) ez in
    subst (λ (q : Place). read w t ≡ facing_of product b p radius q) same
    (sum_is w m k t x y z _ _ _ e px py pz)
