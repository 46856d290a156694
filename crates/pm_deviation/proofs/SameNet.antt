-- Two nets with the same sides from the same vertices have the same twins and the same border.
use Rattle.std.proofs.Common.{◌≡◌, ℕ, ◌*◌, ◌<◌, inl, inr, refl, sym, ap, ◌∙◌, subst, arith}
use Rattle.std.proofs.lemmas.Grind.{common_steps}
use Rattle.pm_base.specs.Sides.{Net, side_count, next, to, third, Stands, stands, NoSideTwice}
use Rattle.pm_base.specs.Sides.{IsTwin, find_below, runs_back, twin_of, IsBorder}
use Rattle.pm_base.proofs.Sides.{next-lt}
use Rattle.pm_forest.proofs.Prefix.{find_below-alike}
use Rattle.pm_twins.specs.Table.{Table, IsTableOf}

-- As far as there are sides.
pub record IsSameNet (m n : Net) : Type 0 where
  pub faces : m.faces ≡ n.faces
  pub from : (e : ℕ) → e < side_count n → m.from e ≡ n.from e

module _ (m n : Net) (same : IsSameNet m n) where
  same_to : (e : ℕ) → e < side_count n → to m e ≡ to n e
  same_to e l = same.from (next e) (next-lt n.faces e l)

  same_third : (e : ℕ) → e < side_count n → third m e ≡ third n e
  same_third e l = same.from (next (next e)) (next-lt n.faces (next e) (next-lt n.faces e l))

  same_count : side_count m ≡ side_count n
  same_count = ap (λ f. 3 * f) same.faces

  stands-from : (e : ℕ) → Stands m e → Stands n e
  stands-from e s = grind (arith, common_steps, same_count, same_third, same_to)

  stands-to : (e : ℕ) → Stands n e → Stands m e
  stands-to e s = grind (arith, common_steps, same_count, same_third, same_to)

  once_same : NoSideTwice m → NoSideTwice n
  once_same once e g s r from_is to_is = grind (arith, common_steps, same_to, stands-to)

  pub once_back : NoSideTwice n → NoSideTwice m
  once_back once e g s r from_is to_is =
      grind (arith, common_steps, same_to e, same_to g, stands-from e s, stands-from g r)

  runs_same : (e g : ℕ) → e < side_count n → g < side_count n → runs_back m e g ≡ runs_back n e g
  unfolding stands
  runs_same e g l k =
      rw (same_count, same.from e l, same_to e l, same.from g k, same_to g k, same_third g k) refl

  twin_same : (e : ℕ) → e < side_count n → twin_of m e ≡ twin_of n e
  unfolding twin_of
  twin_same e l =
      ap (find_below (runs_back m e)) same_count
      ∙ find_below-alike (runs_back m e) (runs_back n e) (side_count n) (λ g k. runs_same e g l k)

  twin-to : (e g : ℕ) → e < side_count n → IsTwin n e g → IsTwin m e g
  twin-to e g l t = grind (arith, common_steps, same_to, stands-to)

  twin-from : (e g : ℕ) → e < side_count n → IsTwin m e g → IsTwin n e g
  twin-from e g l t = grind (arith, common_steps, same_to, stands-from)

  border-from : (v : ℕ) → IsBorder m v → IsBorder n v
  border-from v (e, side, at) =
      let s = stands-from e side.stands in
      let l = s.is_side in (
        e,
        record { stands = s; alone = λ g t. side.alone g (twin-to e g l t) },
        elim at [ inl a ↦ inl (sym (same.from e l) ∙ a) | inr a ↦ inr (sym (same_to e l) ∙ a) ],
      )

  border-to : (v : ℕ) → IsBorder n v → IsBorder m v
  border-to v (e, side, at) =
      let l = side.stands.is_side in (
        e,
        record {
          stands = stands-to e side.stands;
          alone =
              λ g t. side.alone g (twin-from e g l t);
        },
        elim at [ inl a ↦ inl (same.from e l ∙ a) | inr a ↦ inr (same_to e l ∙ a) ],
      )

  pub table_same : (vertices : ℕ) (t : Table) → IsTableOf m vertices t → IsTableOf n vertices t
  table_same vertices t table = record {
    once = once_same table.once;
    twins = record {
      sides = table.twins.sides ∙ same_count;
      each = λ e l. table.twins.each e (subst (λ c. e < c) (sym same_count) l) ∙ twin_same e l;
    };
    border = record {
      vertices = table.border.vertices;
      each = λ v l. (
        λ e. border-from v ((table.border.each v l).0 e),
        λ b. (table.border.each v l).1 (border-to v b),
      );
    };
  }
