-- A mesh that stands in another one, side by side, with other names for its vertices.
use Rattle.std.proofs.Common.{◌≡◌, ℕ, ◌*◌, ◌<◌, refl, sym, ap, ◌∙◌, subst, arith}
use Rattle.std.proofs.lemmas.Grind.{common_steps}
use Rattle.pm_base.specs.Sides.{Net, next, prev, to, third, Stands, NoSideTwice}
use Rattle.pm_base.specs.Fans.{IsPairAt}
use Rattle.pm_base.proofs.Sides.{next-lt, stands_next}
use Rattle.pm_seams.specs.Joined.{IsOneToOneOn}

-- Side e of the mesh a is side `place e` of m.
pub record IsCopied (a m : Net) (name place : ℕ → ℕ) : Type 0 where
  pub is_side : (e : ℕ) → e < 3 * a.faces → place e < 3 * m.faces
  pub turns : (e : ℕ) → e < 3 * a.faces → next (place e) ≡ place (next e)
  pub named : (e : ℕ) → e < 3 * a.faces → m.from (place e) ≡ name (a.from e)

module _ (a m : Net) (name place : ℕ → ℕ) (c : IsCopied a m name place) where
  pub to_named : (e : ℕ) → e < 3 * a.faces → to m (place e) ≡ name (to a e)
  to_named e l = ap m.from (c.turns e l) ∙ c.named (next e) (next-lt a.faces e l)

  pub third_named : (e : ℕ) → e < 3 * a.faces → third m (place e) ≡ name (third a e)
  third_named e l = ap (to m) (c.turns e l) ∙ to_named (next e) (next-lt a.faces e l)

  pub stands_from : (e : ℕ) → e < 3 * a.faces → Stands m (place e) → Stands a e
  stands_from e l s = grind (arith, common_steps, third_named, to_named)

  module _ (one : IsOneToOneOn name a) where
    pub stands_in : (e : ℕ) → Stands a e → Stands m (place e)
    stands_in e s =
        let l = s.is_side in
        let s' = stands_next a e s in
        let s'' = stands_next a (next e) s' in
        record {
          is_side = c.is_side e l;
          first = λ is.
              let same : name (a.from e) ≡ name (to a e) = sym (c.named e l) ∙ is ∙ to_named e l in
              s.first (one (a.from e) (to a e) (e, s, refl) (next e, s', refl) same);
          second = λ is.
              let same : name (to a e) ≡ name (third a e) =
              sym (to_named e l) ∙ is ∙ third_named e l in
              s.second (one (to a e) (third a e) (next e, s', refl) (prev e, s'', refl) same);
          last = λ is.
              let same : name (third a e) ≡ name (a.from e) =
              sym (third_named e l) ∙ is ∙ c.named e l in
              s.last (one (third a e) (a.from e) (prev e, s'', refl) (e, s, refl) same);
        }

    abbrev pub pair_in : (v x y : ℕ) → IsPairAt a v x y → IsPairAt m (name v) (name x) (name y)
    pair_in v x y f =
        let l = f.stands.is_side in
        record {
          side = place f.side;
          stands = stands_in f.side f.stands;
          at = c.named f.side l ∙ ap name f.at;
          one = to_named f.side l ∙ ap name f.one;
          two = third_named f.side l ∙ ap name f.two;
        }

-- Where no vertex has another name, a pair at a copied side is one of a.
abbrev pub pair_from :
    (a m : Net) (place : ℕ → ℕ) (c : IsCopied a m (λ x. x) place) (v x y : ℕ)
    (f : IsPairAt m v x y) (e : ℕ) → e < 3 * a.faces → place e ≡ f.side → IsPairAt a v x y
pair_from a m place c v x y f e l is = record {
  side = e;
  stands = stands_from a m (λ z. z) place c e l (subst (Stands m) (sym is) f.stands);
  at = sym (c.named e l) ∙ ap m.from is ∙ f.at;
  one = sym (to_named a m (λ z. z) place c e l) ∙ ap (to m) is ∙ f.one;
  two = sym (third_named a m (λ z. z) place c e l) ∙ ap (third m) is ∙ f.two;
}

-- Where no side stands twice in m, none does in a.
pub once_in :
    (a m : Net) (name place : ℕ → ℕ) → IsCopied a m name place → IsOneToOneOn name a →
    ((e g : ℕ) → place e ≡ place g → e ≡ g) →
    NoSideTwice m → NoSideTwice a
once_in a m name place c one back once e g se sg begins ends =
    let l = se.is_side in
    let k = sg.is_side in
    back e g
    (once (place e) (place g)
    (stands_in a m name place c one e se) (stands_in a m name place c one g sg)
    (c.named e l ∙ ap name begins ∙ sym (c.named g k))
    (to_named a m name place c e l ∙ ap name ends ∙ sym (to_named a m name place c g k)))
