-- Reading units one after the other, as a loop does.
use Rattle.std.proofs.Common.{◌≡◌, ℕ, suc, ◌+◌, ◌-◌, ◌<◌, ◌≤◌, List, Option, Some}
use Rattle.std.proofs.Common.{None, Result, Ok, Err, refl, ap, arith}
use Rattle.pm_forest.specs.declared.parts.Shape.{Shape}
use Rattle.pm_format.specs.declared.stop.Stop.{Stop}
use Rattle.pm_format.specs.Reading.{then_read, read_map, whole, judged, units_at}

-- What was read, and what it was made of

pub same_Ok : {A : Type 0} (x y : A) → ◌≡◌ {A = Result A Stop} (Ok x) (Ok y) → x ≡ y
same_Ok x y is = ap (λ r. value_or x r) is
  where
    value_or : {A : Type 0} → A → Result A Stop → A
    value_or d (Ok v) = v
    value_or d (Err stop) = d

pub then_read_ok : {A B P : Type 0} (next : A → Result B Stop) (r : Result A Stop) (y : B)
    → then_read next r ≡ Ok y →
    ((x : A) → r ≡ Ok x → next x ≡ Ok y → P) → P
then_read_ok next (Ok x) y is goes_on = goes_on x refl is
then_read_ok next (Err stop) y is goes_on = absurd cc

pub read_map_ok : {A B : Type 0} (make : A → B) (r : Result A Stop) (y : B) → read_map make r ≡ Ok y
    →
    (x : A) × (r ≡ Ok x) × (make x ≡ y)
read_map_ok make (Ok x) y is = (x, refl, same_Ok _ _ is)
read_map_ok make (Err stop) y is = absurd cc

pub whole_ok : {A : Type 0} (o : Option A) (y : A) → whole o ≡ Ok y → o ≡ Some y
whole_ok None y is = absurd cc
whole_ok (Some x) y is = ap (λ v. Some v) (same_Ok _ _ is)

pub judged_ok : {A : Type 0} (fault : Option Shape) (x y : A) → judged fault x ≡ Ok y
    → (fault ≡ None) × (x ≡ y)
judged_ok None x y is = (refl, same_Ok _ _ is)
judged_ok (Some e) x y is = absurd cc

-- The next unit and the words after it, where the units before it are given.
abbrev pub Reader : Type 0 → Type 0
Reader X = List X → List ℕ → Result (X × List ℕ) Stop

-- Units in a row

module _ {X : Type 0} (read : Reader X) (count i : ℕ) (before : List X) (ws : List ℕ) where
  pub units_stop : (e : Stop) → i < count → read before ws ≡ Err e
      → units_at read (count - i) before ws ≡ Err e
  unfolding units_at
  units_stop e lt is = let k : count - i ≡ suc (count - (i + 1)) = omega arith in rw (k, is) refl

  pub units_end : count ≤ i → units_at read (count - i) before ws ≡ Ok (before, ws)
  unfolding units_at
  units_end le = let k : count - i ≡ 0 = omega arith in rw k refl
