-- The extent of one place more.
use Rattle.std.proofs.Common.{◌≡◌, ℕ, ◌+◌, ◌<◌, zero, suc, List, [], ◌∷◌, ◌++◌, map, refl, sym, ap}
use Rattle.std.proofs.Common.{◌∙◌, arith}
use Rattle.std.specs.List.{range_with_len}
use Rattle.pm_base.specs.Place.{Place}
use Rattle.pm_base.proofs.Numbers.{numbers_next}
use Rattle.pm_viewer.specs.declared.measuring.Extent.{Extent}
use Rattle.pm_viewer.specs.Measuring.{extent_at, grown, grown_by, extent_of}

grown_last : (e : Extent) (ps : List Place) (p : Place)
    → grown_by e (ps ++ p ∷ []) ≡ grown (grown_by e ps) p
unfolding grown_by
grown_last e [] p = refl
grown_last e (q ∷ ps) p = grown_last (grown e q) ps p

map_last : {A : Type 0} (f : ℕ → A) (ns : List ℕ) (n : ℕ)
    → map f (ns ++ n ∷ []) ≡ map f ns ++ f n ∷ []
map_last f [] n = refl
map_last f (m ∷ ns) n = ap (λ (l : List _). f m ∷ l) (map_last f ns n)

extent_last : (p : Place) (ps : List Place) (q : Place)
    → extent_of ((p ∷ ps) ++ q ∷ []) ≡ grown (extent_of (p ∷ ps)) q
unfolding extent_of
extent_last p ps q = grown_last (extent_at p) ps q

-- Of the first k + 1 places, of which there are some, to the next.
pub extent_next : (f : ℕ → Place) (k : ℕ) (e : Extent) (p : Place) → 0 < k → p ≡ f k
    → e ≡ extent_of (map f (range_with_len 0 k))
    → grown e p ≡ extent_of (map f (range_with_len 0 (k + 1)))
extent_next f zero e p some is so_far = absurd (omega (arith, some))
extent_next f (suc k) e p some is so_far =
    rw (so_far, is) (sym (extent_last (f 0) (map f (range_with_len 1 k)) (f (suc k))))
    ∙ ap extent_of (sym (map_last f (range_with_len 0 (suc k)) (suc k)))
    ∙ ap (λ (l : List ℕ). extent_of (map f l)) (sym (numbers_next (suc k)))
