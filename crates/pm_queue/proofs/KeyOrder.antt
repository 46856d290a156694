-- Laws on the order of keys: it is strict and total.
use Rattle.std.proofs.Common.{◌≡◌, ◌≢◌, ℕ, ◌<◌, Bool, true, false, ◌||◌, ◌&&◌, eqb, ltb, refl}
use Rattle.std.proofs.lemmas.Grind.{common_steps}
use Rattle.std.proofs.Common.{⊎_elim, arith}
use Rattle.std.proofs.lemmas.Bool.{lt-ltb, le-ltb, eq-eqb, ne_eqb, ltb-true, ltb-false}
use Rattle.std.proofs.lemmas.Bool.{cases_Bool, false≢true}
use Rattle.pm_queue.specs.declared.key.Key.{Key}
use Rattle.pm_queue.specs.Keys.{is_before}

lex_less : (m n : ℕ) (r : Bool) → m < n → (ltb m n || (eqb m n && r)) ≡ true
lex_less m n r l = rw (lt-ltb m n l) refl

lex_same : (m n : ℕ) (r : Bool) → m ≡ n → (ltb m n || (eqb m n && r)) ≡ r
lex_same m n r e = rw (le-ltb m n (omega arith), eq-eqb m n e) refl

lex_more : (m n : ℕ) (r : Bool) → n < m → (ltb m n || (eqb m n && r)) ≡ false
lex_more m n r l = rw (le-ltb m n (omega arith), ne_eqb m n (omega arith)) refl

-- by a number and then by the rest, where r says that the rest is before, and s that it is after
lex_asym : (m n : ℕ) (r s : Bool) → (r ≡ true → s ≡ false) →
    (ltb m n || (eqb m n && r)) ≡ true → (ltb n m || (eqb n m && s)) ≡ false
lex_asym m n r s f h = grind (arith, common_steps, false≢true, lex_more, lex_same, ⊎_elim)

-- r is that n is before m, s that o is before n, t that o is before m
lex_trans : (m n o : ℕ) (r s t : Bool) → (r ≡ false → s ≡ false → t ≡ false) →
    (ltb n m || (eqb n m && r)) ≡ false → (ltb o n || (eqb o n && s)) ≡ false →
    (ltb o m || (eqb o m && t)) ≡ false
lex_trans m n o r s t f h k =
    grind (arith, common_steps, false≢true, lex_less, lex_more, lex_same, ⊎_elim)

-- neither is before the other, so the numbers are the same, and so on for the rest
lex_same_rest : (m n : ℕ) (r s : Bool) → (ltb m n || (eqb m n && r)) ≡ false →
    (ltb n m || (eqb n m && s)) ≡ false →
    (m ≡ n) × (r ≡ false) × (s ≡ false)
lex_same_rest m n r s h k = grind (arith, common_steps, false≢true, lex_less, lex_same, ⊎_elim)

-- of two keys not both are before the other
pub before_asym : (k l : Key) → is_before k l ≡ true → is_before l k ≡ false
before_asym k l =
    lex_asym k.cost l.cost _ _ (lex_asym k.a l.a _ _
    (λ e. le-ltb l.b k.b (let h : k.b < l.b = ltb-true k.b l.b e in omega arith)))

-- a key that isn't before one that isn't before a third isn't before the third
pub before_trans : (k l m : Key) → is_before l k ≡ false → is_before m l ≡ false →
    is_before m k ≡ false
before_trans k l m =
    lex_trans k.cost l.cost m.cost _ _ _ (lex_trans k.a l.a m.a _ _ _
    (λ e f. le-ltb m.b k.b (omega (arith, ltb-false l.b k.b e, ltb-false m.b l.b f))))

made : ℕ → ℕ → ℕ → Key
made cost a b = record { cost = cost; a = a; b = b }

same_parts : (c a b d e f : ℕ) → c ≡ d → a ≡ e → b ≡ f → made c a b ≡ made d e f
same_parts c a b d e f p q r = cc

-- two keys of which neither is before the other are the same
pub before_same : (k l : Key) → is_before k l ≡ false → is_before l k ≡ false → k ≡ l
unfolding made
before_same k l h i = grind (arith, common_steps, lex_same_rest, ltb-false, same_parts)

-- no key is before itself
pub before_irrefl : (k : Key) → is_before k k ≡ false
before_irrefl k = grind (arith, before_asym k k, cases_Bool (is_before k k))

-- of two different keys one is before the other
pub before_total : (k l : Key) → k ≢ l → is_before k l ≡ false → is_before l k ≡ true
before_total k l ne h = grind (arith, before_same k l, cases_Bool (is_before l k))
