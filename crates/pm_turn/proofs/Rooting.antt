-- The roots of the patches, face by face.
use Rattle.std.proofs.Common.{◌≡◌, ℕ, ◌+◌, ◌<◌, ◌≤◌, inl, inr, sym, ap, subst, List, [], ◌∷◌, ◌++◌}
use Rattle.std.proofs.Common.{length, slice_index_or, arith}
use Rattle.std.proofs.lemmas.Grind.{common_steps}
use Rattle.std.proofs.lemmas.Bool.{cases_eq}
use Rattle.std.proofs.lemmas.List.{get_or_append_left, length-append, get_or_past}
use Rattle.std.proofs.Math.Seq.{get_or-append_seam}
use Rattle.pm_base.specs.Sides.{Net, side_count}
use Rattle.pm_turn.specs.declared.patches.Root.{Root}
use Rattle.pm_turn.specs.Turning.{AreTraced}
use Rattle.pm_turn.specs.Unions.{Elders, Up, AreElders, AreShorter}
use Rattle.pm_turn.specs.Sums.{no_root, root_at, parity_at, AreRooted}
use Rattle.pm_turn.proofs.JoinedSides.{elders_traced}
use Rattle.pm_turn.proofs.Flags.{low_root}

-- Over no face.
pub none_rooted : (t : Elders) (roots : List Root) → roots ≡ [] → AreRooted t 0 roots
none_rooted t roots none = record {
  long = ap length none;
  below = λ f. let e : root_at roots f ≡ 0 = ap (λ (rs : List Root). root_at rs f) none in
      omega (arith, e);
  way = λ f l. absurd (omega (arith, l));
}

pub rooted_more : (t u : Elders) (n : ℕ) (xs ys : List Root) (r : Root) → AreShorter t u
    → ((x : ℕ) → t.elder x ≤ x) → AreRooted t n xs
    → Up u n r.face r.parity → ys ≡ xs ++ r ∷ [] → AreRooted u (n + 1) ys
rooted_more t u n xs ys r s low h now is =
    let here : (f : ℕ) → f ≡ n → slice_index_or ys f no_root ≡ r =
    λ f e. grind (arith, get_or-append_seam xs r [] no_root, h.long) in
    let there : (f : ℕ) → f < n → slice_index_or ys f no_root ≡ slice_index_or xs f no_root =
    λ f l. grind (arith, get_or_append_left xs (r ∷ []) no_root f, h.long) in
    let long : length ys ≡ n + 1 = grind (arith, length-append xs (r ∷ []), h.long) in
    let lr = low_root u (s.low low) n r.face r.parity now in
    record {
      long = long;
      below = λ f.
          grind (arith, common_steps, here f, there f, get_or_past ys f no_root, h.below f, lr);
      way = λ f l.
          elim (cases_eq f n) [
            | inl e ↦ subst (λ (k : Root). Up u f k.face k.parity) (sym (here f e))
                (subst (λ i. Up u i r.face r.parity) (sym e) now)
            | inr ne ↦
                let l' : f < n = omega (arith, l, ne) in
                subst (λ (k : Root). Up u f k.face k.parity) (sym (there f l'))
                (s.ups f (root_at xs f) (parity_at xs f) (h.way f l'))
          ];
    }

pub rooted_traced : (m : Net) (t : Elders) (n : ℕ) (roots : List Root)
    → AreElders m (side_count m) t → n ≡ m.faces → AreRooted t n roots
    → AreTraced m (root_at roots) (parity_at roots) t.odd
rooted_traced m t n roots s all h =
    elders_traced m t (root_at roots) (parity_at roots) s
    (λ f l. h.way f (subst (λ i. f < i) (sym all) l)) h.below
