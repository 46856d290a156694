-- Spreads joined in any order, and any number of times, are one spread, and it has each of them in
-- it.
use Rattle.std.proofs.Common.{◌≡◌, ℕ, zero, suc, ◌<◌, cond, Bool, true, ◌||◌, List, [], ◌∷◌, ◌++◌}
use Rattle.std.proofs.Common.{length, get_or, map, Option, None, Some, IfSome, inl, inr, refl, sym}
use Rattle.std.proofs.Common.{ap, ◌∙◌, arith}
use Rattle.std.proofs.lemmas.Grind.{common_steps}
use Rattle.std.specs.Prelude.{◌≤ℤ◌}
use Rattle.std.specs.List.{filter}
use Rattle.std.proofs.lemmas.Bool.{cases_Bool, cond-true, cond-false}
use Rattle.std.proofs.lemmas.List.{map-append}
use Rattle.pm_bounds.proofs.LeafLaws.{filter-more}
use Rattle.pm_bounds.proofs.BoxLaws.{min_comm, max_comm, min_assoc, max_assoc, min_same, max_same}
use Rattle.pm_bounds.proofs.BoxLaws.{min_small, max_small}
use Rattle.pm_bounds.proofs.ListLaws.{min_left, min_right, max_left, max_right, same_z, ≤ℤ_by}
use Rattle.pm_deviation.specs.declared.spread.Spread.{Spread}
use Rattle.pm_deviation.specs.Spreads.{joined, join, joined_all}
use Rattle.pm_deviation.specs.Tables.{IsSpreadWithin}

-- Spread a has spread b in it.
abbrev pub IsOver : Spread → Spread → Type 0
IsOver a b = (a.low ≤ℤ b.low) × (b.high ≤ℤ a.high)

pub over_same : (a : Spread) → IsOver a a
over_same a = (same_z a.low, same_z a.high)

pub over_by : (a b c : Spread) → IsOver a b → IsOver b c → IsOver a c
over_by a b c p q = (≤ℤ_by a.low b.low c.low p.0 q.0, ≤ℤ_by c.high b.high a.high q.1 p.1)

pub over_left : (a b : Spread) → IsOver (joined a b) a
over_left a b = (min_left _ _ _ (same_z a.low), max_left _ _ _ (same_z a.high))

pub over_right : (a b : Spread) → IsOver (joined a b) b
over_right a b = (min_right _ _ _ (same_z b.low), max_right _ _ _ (same_z b.high))

-- two spreads

joined-comm : (a b : Spread) → joined a b ≡ joined b a
joined-comm a b = rw (min_comm a.low b.low, max_comm a.high b.high) refl

joined-assoc : (a b c : Spread) → joined (joined a b) c ≡ joined a (joined b c)
joined-assoc a b c = rw (min_assoc a.low b.low c.low, max_assoc a.high b.high c.high) refl

joined-same : (a : Spread) → joined a a ≡ a
joined-same a = rw (min_same a.low, max_same a.high) refl

-- the same where one may be missing

pub join-comm : (a b : Option Spread) → join a b ≡ join b a
join-comm None None = refl
join-comm None (Some b) = refl
join-comm (Some a) None = refl
join-comm (Some a) (Some b) = ap Some (joined-comm a b)

pub join-assoc : (a b c : Option Spread) → join (join a b) c ≡ join a (join b c)
join-assoc None b c = refl
join-assoc (Some a) None c = refl
join-assoc (Some a) (Some b) None = refl
join-assoc (Some a) (Some b) (Some c) = ap Some (joined-assoc a b c)

join-same : (a : Option Spread) → join a a ≡ a
join-same None = refl
join-same (Some a) = ap Some (joined-same a)

pub join-none : (a : Option Spread) → join a None ≡ a
join-none None = refl
join-none (Some a) = refl

-- taking a spread in twice is taking it in once
pub join-twice : (a b : Option Spread) → join (join a b) b ≡ join a b
join-twice a b = join-assoc a b b ∙ ap (join a) (join-same b)

-- There is a spread, and it has another in it.
abbrev pub IsSomeOver : Option Spread → Spread → Type 0
IsSomeOver o s = (a : Spread) × (o ≡ Some a) × IsOver a s

pub some_left : (a : Spread) (b : Option Spread) → IsSomeOver (join (Some a) b) a
some_left a None = (a, refl, over_same a)
some_left a (Some b) = (joined a b, refl, over_left a b)

pub some_right : (a : Option Spread) (s : Spread) (b : Option Spread) → IsSomeOver b s
    → IsSomeOver (join a b) s
some_right None s b over = over
some_right (Some a) s b (c, is, over) =
    (joined a c, ap (join (Some a)) is, over_by (joined a c) c s (over_right a c) over)

-- lists

pub joined_all-more : (ss : List (Option Spread)) (s : Option Spread)
    → joined_all (ss ++ s ∷ []) ≡ join (joined_all ss) s
joined_all-more [] s = join-none s
joined_all-more (t ∷ ss) s =
    ap (join t) (joined_all-more ss s) ∙ sym (join-assoc t (joined_all ss) s)

both : (n a b : Option Spread) → join n (join a b) ≡ join (join n a) (join n b)
both n a b = grind (arith, common_steps, join-assoc, join-comm, join-same)

right : (n a b : Option Spread) → join n (join a b) ≡ join a (join n b)
right n a b = sym (join-assoc n a b) ∙ ap (λ t. join t b) (join-comm n a) ∙ join-assoc a n b

module _ {X : Type 0} (f : X → Option Spread) (p q : X → Bool) where
  -- what passes one of two tests, or both
  pub joined_all-either : (xs : List X) →
      joined_all (map f (filter (λ x. p x || q x) xs))
      ≡ join (joined_all (map f (filter p xs))) (joined_all (map f (filter q xs)))
  joined_all-either [] = refl
  joined_all-either (x ∷ xs) =
      grind (arith, common_steps, both, join-assoc, right, joined_all-either xs)

module _ {X : Type 0} (f : X → Option Spread) (p : X → Bool) where
  -- each spread of what passes is in that of all
  pub spread_above : (xs : List X) (i : ℕ) (d : X) (s : Spread) → i < length xs
      → p (get_or xs i d) ≡ true → f (get_or xs i d) ≡ Some s →
      IsSomeOver (joined_all (map f (filter p xs))) s
  spread_above [] i d s l e is = absurd (omega arith)
  spread_above (x ∷ xs) zero d s l e is =
      rw (e, is) (some_left s (joined_all (map f (filter p xs))))
  spread_above (x ∷ xs) (suc i) d s l e is =
      let rest = spread_above xs i d s (omega arith) e is in
      elim (cases_Bool (p x)) [
        | inl t ↦ (rw t (some_right (f x) s (joined_all (map f (filter p xs))) rest))
        | inr t ↦ (rw t rest)
      ]

module _ {X : Type 0} (f : X → Option Spread) (p : X → Bool) where
  -- one more, if it passes
  pub joined_all-one_more : (xs : List X) (x : X) →
      joined_all (map f (filter p (xs ++ x ∷ [])))
      ≡ cond (p x) (join (joined_all (map f (filter p xs))) (f x))
      (joined_all (map f (filter p xs)))
  joined_all-one_more xs x =
      let all = filter-more p xs x in
      elim (cases_Bool (p x)) [
        | inl e ↦ ap (λ l. joined_all (map f l)) (all ∙ cond-true _ _ _ e)
            ∙ ap joined_all (map-append f (filter p xs) (x ∷ []))
            ∙ joined_all-more (map f (filter p xs)) (f x) ∙ sym (cond-true _ _ _ e)
        | inr e ↦ ap (λ l. joined_all (map f l)) (all ∙ cond-false _ _ _ e)
            ∙ sym (cond-false _ _ _ e)
      ]

-- what holds of each, and of two joined where it holds of both, holds of all joined
pub join-holds : (P : Spread → Type 0) → ((a b : Spread) → P a → P b → P (joined a b))
    → (a b : Option Spread) → IfSome a P → IfSome b P → IfSome (join a b) P
join-holds P both None b p q = q
join-holds P both (Some a) None p q = p
join-holds P both (Some a) (Some b) p q = both a b p q

pub joined_all-holds : {X : Type 0} (P : Spread → Type 0)
    → ((a b : Spread) → P a → P b → P (joined a b)) → (f : X → Option Spread)
    → ((x : X) → IfSome (f x) P) →
    (xs : List X) → IfSome (joined_all (map f xs)) P
joined_all-holds P both f each [] = tt
joined_all-holds P both f each (x ∷ xs) =
    join-holds P both (f x) (joined_all (map f xs)) (each x) (joined_all-holds P both f each xs)

pub joined-small : (m : ℕ) (a b : Spread) → IsSpreadWithin m a → IsSpreadWithin m b
    → IsSpreadWithin m (joined a b)
joined-small m a b p q = (min_small a.low b.low m p.0 q.0, max_small a.high b.high m p.1 q.1)
