-- Laws of what is declared, one after the other.
use Rattle.std.proofs.Common.{◌≡◌, ℕ, suc, ◌+◌, ◌<◌, ◌≤◌, refl, sym, ap, ◌∙◌, List, [], ◌∷◌, ◌++◌}
use Rattle.std.proofs.Common.{length, drop, get_or, Result, Ok, Err, drop-cons, append_assoc, arith}
use Rattle.std.proofs.lemmas.List.{append-nil}
use Rattle.std.proofs.Math.ListN.{drop_of_length-le}
use Rattle.ply_read.specs.declared.declared.Declared.{Declared}
use Rattle.ply_read.specs.declared.declared.Declared.TheVariants as lines_of
use Rattle.ply_read.specs.declared.declared.Element.{Element}
use Rattle.ply_read.specs.declared.declared.Encoding.{Encoding}
use Rattle.ply_read.specs.declared.declared.Property.{Property}
use Rattle.ply_read.specs.declared.stop.BodyFail.{BodyFail}
use Rattle.ply_read.specs.declared.stop.BodyFail.TheVariants as fails
use Rattle.ply_read.specs.declared.stop.Stop.{Stop}
use Rattle.ply_read.specs.Body.{SoFar, own, with_elements, with_declared}
use Rattle.ply_read.specs.Results.{◌>>=◌}
use Rattle.ply_read.specs.Told.{Tells}

-- The next of a list.
pub here : (ds : List Declared) (i : ℕ) (d e : Declared) → i < length ds → d ≡ get_or ds i d → d ≡ e
    → drop i ds ≡ e ∷ drop (i + 1) ds
here ds i d e below is same =
    let next : i + 1 ≡ suc i = omega arith in
    rw next (drop-cons ds i d below
    ∙ ap (λ (x : Declared). x ∷ drop (suc i) ds) (sym is ∙ same))

module _ (ds : List Declared) (i : ℕ) (ps whole : List Property)
    (so : ps ++ own (drop i ds) ≡ whole) where
  pub own_next : (d : Declared) (p : Property) → i < length ds → d ≡ get_or ds i d
      → d ≡ lines_of.Property p → (ps ++ p ∷ []) ++ own (drop (i + 1) ds) ≡ whole
  own_next d p below is same =
      append_assoc ps (p ∷ []) (own (drop (i + 1) ds))
      ∙ ap (λ (l : List Declared). ps ++ own l)
      (sym (here ds i d (lines_of.Property p) below is same)) ∙ so

  pub own_stop : (d : Declared) (el : Element) → i < length ds → d ≡ get_or ds i d
      → d ≡ lines_of.Element el → ps ≡ whole
  own_stop d el below is same =
      sym (append-nil ps)
      ∙ ap (λ (l : List Declared). ps ++ own l)
      (sym (here ds i d (lines_of.Element el) below is same)) ∙ so

  pub own_end : length ds ≤ i → ps ≡ whole
  own_end all =
      sym (append-nil ps)
      ∙ ap (λ (l : List Declared). ps ++ own l) (sym (drop_of_length-le ds all)) ∙ so

module _ (e : Encoding) (ds : List Declared) (i : ℕ) (s : SoFar) (whole : Result SoFar Stop)
    (so : with_declared e (drop i ds) s ≡ whole) where
  pub declared_skip : (d : Declared) (p : Property) → i < length ds → d ≡ get_or ds i d
      → d ≡ lines_of.Property p → with_declared e (drop (i + 1) ds) s ≡ whole
  declared_skip d p below is same =
      ap (λ (l : List Declared). with_declared e l s)
      (sym (here ds i d (lines_of.Property p) below is same)) ∙ so

  element : (d : Declared) (el : Element) → i < length ds → d ≡ get_or ds i d
      → d ≡ lines_of.Element el
      → (with_elements e el.kind el.count (own (drop (i + 1) ds)) s
      >>= with_declared e (drop (i + 1) ds)) ≡ whole
  element d el below is same =
      ap (λ (l : List Declared). with_declared e l s)
      (sym (here ds i d (lines_of.Element el) below is same)) ∙ so

  pub declared_next : (d : Declared) (el : Element) (ps : List Property) (t : SoFar)
      → i < length ds → d ≡ get_or ds i d → d ≡ lines_of.Element el
      → ps ≡ own (drop (i + 1) ds) → with_elements e el.kind el.count ps s ≡ Ok t
      → with_declared e (drop (i + 1) ds) t ≡ whole
  declared_next d el ps t below is same own_is taken =
      rw (sym own_is, taken) at (element d el below is same)

  pub declared_fail : (d : Declared) (el : Element) (ps : List Property) (f : BodyFail)
      → i < length ds → d ≡ get_or ds i d → d ≡ lines_of.Element el
      → ps ≡ own (drop (i + 1) ds) → Tells (with_elements e el.kind el.count ps s) f
      → Tells whole f
  declared_fail d el ps (fails.Stop why) below is same own_is stops =
      sym (rw (sym own_is, stops) at (element d el below is same))
  declared_fail d el ps fails.OutOfMemory below is same own_is stops = tt

  pub declared_end : length ds ≤ i → whole ≡ Ok s
  declared_end all =
      sym so ∙ ap (λ (l : List Declared). with_declared e l s) (drop_of_length-le ds all)
