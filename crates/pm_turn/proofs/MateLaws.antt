-- The table of mates, side by side.
use Rattle.std.proofs.Common.{◌≡◌, ℕ, ◌+◌, ◌<◌, ◌≤◌, inl, inr, sym, ap, ◌∙◌, subst, Option, Some}
use Rattle.std.proofs.Common.{None, List, length, slice_index_or, arith}
use Rattle.std.proofs.lemmas.Grind.{common_steps}
use Rattle.std.specs.Option.{IfSome, MatchOption, option_map}
use Rattle.std.proofs.lemmas.Bool.{cases_eq}
use Rattle.std.proofs.Math.ListN.{set, replicate}
use Rattle.std.proofs.lemmas.List.{get_or-set_same, get_or-set_other, length-set, length-replicate}
use Rattle.pm_base.specs.declared.ids.Side.{Side}
use Rattle.pm_base.specs.Sides.{Net, side_count, beside_side}
use Rattle.pm_turn.specs.Turning.{AreMates}
use Rattle.pm_turn.specs.Unions.{AreMated}

-- The table of all sides has the mate of each of the first n.
pub record AreMatedTo (m : Net) (n : ℕ) (mates : List (Option ℕ)) : Type 0 where
  pub sides : length mates ≡ side_count m
  pub each : (e : ℕ) → e < n
      → MatchOption (beside_side mates e) ((k : ℕ) → AreMates m e k → ⊥) (λ k. AreMates m e k)

pub none_mated : (m : Net) (mates : List (Option ℕ)) → mates ≡ replicate (side_count m) None
    → AreMatedTo m 0 mates
none_mated m mates is = grind (arith, common_steps, length-replicate)

told : (m : Net) (e : ℕ) (r : Option Side)
    → MatchOption r ((k : ℕ) → AreMates m e k → ⊥) (λ k. AreMates m e k.0)
    → MatchOption (option_map (λ s. s.0) r) ((k : ℕ) → AreMates m e k → ⊥) (λ k. AreMates m e k)
told m e None none = none
told m e (Some s) mate = mate

-- One more is put in.
pub mated_more : (m : Net) (n : ℕ) (xs ys : List (Option ℕ)) (r : Option Side) → n < side_count m
    → AreMatedTo m n xs
    → ys ≡ set xs n (option_map (λ s. s.0) r)
    → MatchOption r ((k : ℕ) → AreMates m n k → ⊥) (λ k. AreMates m n k.0)
    → AreMatedTo m (n + 1) ys
mated_more m n xs ys r low h is now =
    let new : Option ℕ = option_map (λ s. s.0) r in
    record {
      sides = ap length is ∙ length-set xs n new ∙ h.sides;
      each = λ e l.
          elim (cases_eq e n) [
            | inl same ↦
                let at : slice_index_or ys e None ≡ new =
                ap (λ zs. slice_index_or zs e None) is
                ∙ ap (λ i. slice_index_or (set xs n new) i None) same
                ∙ get_or-set_same xs n new None (omega (arith, low, h.sides)) in
                subst (λ o. MatchOption o ((k : ℕ) → AreMates m e k → ⊥) (λ k. AreMates m e k))
                (sym at)
                (subst (λ i. MatchOption new ((k : ℕ) → AreMates m i k → ⊥) (λ k. AreMates m i k))
                (sym same) (told m n r now))
            | inr other ↦ grind (arith, common_steps, get_or-set_other, slice_index_or)
          ];
    }

pub all_mated : (m : Net) (n : ℕ) (mates : List (Option ℕ)) → n ≡ side_count m
    → AreMatedTo m n mates → AreMated m mates
all_mated m n mates all h = grind (arith, common_steps)

-- A mate has a number that sides have.
pub mate_low : (m : Net) (e most : ℕ) (r : Option Side) → side_count m ≤ most
    → MatchOption r ((k : ℕ) → AreMates m e k → ⊥) (λ k. AreMates m e k.0)
    → IfSome r (λ s. s.0 < most)
mate_low m e most None few none = tt
mate_low m e most (Some s) few mate = let low = mate.same.stands.is_side in omega (arith, low, few)
