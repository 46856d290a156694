-- Laws of steps, one after the other.
use Rattle.std.proofs.Common.{◌≡◌, ℕ, suc, ◌+◌, ◌-◌, ◌<◌, ◌≤◌, refl, sym, List, [], ◌∷◌, length}
use Rattle.std.proofs.Common.{drop, get_or, Result, Ok, Err, drop-cons, arith}
use Rattle.std.proofs.Math.ListN.{drop_of_length-le}
use Rattle.ply_read.specs.declared.stop.Stop.{Stop}
use Rattle.ply_read.specs.declared.stop.BodyFail.{BodyFail}
use Rattle.ply_read.specs.declared.stop.BodyFail.TheVariants as fails
use Rattle.ply_read.specs.Results.{◌>>=◌}
use Rattle.ply_read.specs.Steps.{repeated, folded}
use Rattle.ply_read.specs.Told.{Tells}

-- A failure before the rest is one of the whole.
pub tells_then : {A B : Type 0} (r : Result A Stop) (next : A → Result B Stop) (e : BodyFail)
    → Tells r e → Tells (r >>= next) e
tells_then r next (fails.Stop why) is = rw is refl
tells_then r next fails.OutOfMemory is = tt

module _ {S : Type 0} (step : S → Result S Stop) (i count : ℕ) (s : S) (whole : Result S Stop)
    (so : repeated step (count - i) s ≡ whole) where
  one_more : i < count → (step s >>= repeated step (count - (i + 1))) ≡ whole
  one_more below =
      let left : count - i ≡ suc (count - (i + 1)) = omega arith in
      rw left at so

  pub repeated_next : (t : S) → i < count → step s ≡ Ok t
      → repeated step (count - (i + 1)) t ≡ whole
  repeated_next t below is = rw is at (one_more below)

  pub repeated_stop : (e : Stop) → i < count → step s ≡ Err e → whole ≡ Err e
  repeated_stop e below is = sym (rw is at (one_more below))

  pub repeated_fail : (e : BodyFail) → i < count → Tells (step s) e → Tells whole e
  repeated_fail (fails.Stop why) below is = repeated_stop why below is
  repeated_fail fails.OutOfMemory below is = tt

  pub repeated_end : count ≤ i → whole ≡ Ok s
  repeated_end all =
      let left : count - i ≡ 0 = omega arith in
      sym (rw left at so)

module _ {X S : Type 0} (step : X → S → Result S Stop) (xs : List X) (i : ℕ) (s : S)
    (whole : Result S Stop) (so : folded step (drop i xs) s ≡ whole) where
  one_of : (x : X) → i < length xs → x ≡ get_or xs i x
      → (step x s >>= folded step (drop (i + 1) xs)) ≡ whole
  one_of x below is =
      let next : i + 1 ≡ suc i = omega arith in
      let front : drop i xs ≡ get_or xs i x ∷ drop (suc i) xs = drop-cons xs i x below in
      rw next (rw (← is) at (rw front at so))

  pub folded_next : (x : X) (t : S) → i < length xs → x ≡ get_or xs i x → step x s ≡ Ok t
      → folded step (drop (i + 1) xs) t ≡ whole
  folded_next x t below is taken = rw taken at (one_of x below is)

  pub folded_fail : (x : X) (e : BodyFail) → i < length xs → x ≡ get_or xs i x
      → Tells (step x s) e → Tells whole e
  folded_fail x (fails.Stop why) below is stops = sym (rw stops at (one_of x below is))
  folded_fail x fails.OutOfMemory below is stops = tt

  pub folded_end : length xs ≤ i → whole ≡ Ok s
  folded_end all =
      let none : drop i xs ≡ [] = drop_of_length-le xs all in
      sym (rw none at so)
