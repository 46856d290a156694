-- Lists of different numbers once the numbers of a range are put in or taken out.
use Rattle.std.proofs.Common.{◌≡◌, ◌↔◌, ℕ, ◌+◌, ◌-◌, ◌<◌, ◌≤◌, Bool, true, false, ◌||◌, ◌&&◌, eqb}
use Rattle.std.proofs.lemmas.Grind.{common_steps}
use Rattle.std.proofs.Common.{leb, ltb, List, [], ◌∷◌, ◌++◌, filter, ◌⊎◌, refl, sym, ap}
use Rattle.std.proofs.Common.{◌∙◌, arith}
use Rattle.std.specs.List.{range_with_len}
use Rattle.std.proofs.lemmas.Bool.{or_cases, or_left, or_right, or_from, and_parts, and_from}
use Rattle.std.proofs.lemmas.Bool.{not_from_true, not_from_false, false≢true}
use Rattle.std.proofs.lemmas.Bool.{leb-true, ltb-true, le-leb, lt-ltb}
use Rattle.pm_base.proofs.Numbers.{range_parts}
use Rattle.pm_links.specs.Lists.{has, IsOnce, list_without}
use Rattle.pm_links.proofs.Members.{has-append}
use Rattle.pm_front.specs.Corners.{is_not_between}
use Rattle.pm_front.specs.Members.{AreSameNumbers}
use Rattle.pm_front.proofs.ListedActive.{same-without}
use Rattle.pm_front.proofs.CornerTables.{out-begins, out-more}
use Rattle.pm_front.proofs.ListLaws.{has_range-parts, has_range-from, has_filter-parts}
use Rattle.pm_front.proofs.ListLaws.{has_filter-from}

-- ---- put in

pub put_begins : (a : ℕ) (xs : List ℕ) → IsOnce xs
    → AreSameNumbers xs (range_with_len a (a - a) ++ xs)
put_begins a xs once =
    let none : 0 ≡ a - a = omega arith in
    record { same = λ x. ap (λ n. has (range_with_len a n ++ xs) x) none; once = once }

has_next : (a n x : ℕ) → a ≤ n → has (range_with_len a (n + 1 - a)) x
    ≡ (has (range_with_len a (n - a)) x || (eqb n x || false))
has_next a n x ordered = grind (arith, common_steps, has-append, range_parts)

turned : (a b c : Bool) → (a || (b || c)) ≡ ((b || (a || false)) || c)
turned true true c = refl
turned true false c = refl
turned false true c = refl
turned false false c = refl

module _ (a n : ℕ) (xs mid : List ℕ) (ordered : a ≤ n)
    (so_far : AreSameNumbers mid (range_with_len a (n - a) ++ xs)) where
  -- the next number isn't there yet
  pub put_absent : has xs n ≡ false → has mid n ≡ false
  put_absent absent = grind (arith, common_steps, has-append, has_range-parts, or_from)

  pub put_more : (new : List ℕ) → AreSameNumbers new (n ∷ mid)
      → AreSameNumbers new (range_with_len a (n + 1 - a) ++ xs)
  put_more new next = grind (arith, common_steps, has-append, has_next, turned)

-- which numbers are there then
pub put_parts : (a b : ℕ) (xs new : List ℕ) → AreSameNumbers new (range_with_len a (b - a) ++ xs)
    → (x : ℕ) → has new x ≡ true → ((a ≤ x) × (x < b)) ⊎ (has xs x ≡ true)
put_parts a b xs new are x t = grind (arith, common_steps, has-append, has_range-parts, or_cases)

pub put_new : (a b : ℕ) (xs new : List ℕ) → AreSameNumbers new (range_with_len a (b - a) ++ xs)
    → (x : ℕ) → a ≤ x → x < b → has new x ≡ true
put_new a b xs new are x low high = grind (arith, common_steps, has-append, has_range-from, or_left)

pub put_old : (a b : ℕ) (xs new : List ℕ) → AreSameNumbers new (range_with_len a (b - a) ++ xs)
    → (x : ℕ) → has xs x ≡ true → has new x ≡ true
put_old a b xs new are x t =
    are.same x ∙ has-append (range_with_len a (b - a)) xs x
    ∙ or_right (has (range_with_len a (b - a)) x) (has xs x) t

-- where none was there, those below a number
pub first_ones : (n : ℕ) (xs new : List ℕ) → xs ≡ []
    → AreSameNumbers new (range_with_len 0 (n - 0) ++ xs) → (x : ℕ) → (has new x ≡ true) ↔ (x < n)
first_ones n xs new none are x =
    grind (arith, common_steps, false≢true, put_new 0 n xs new are x, put_parts 0 n xs new are x)

-- ---- taken out

is_out : (a b x : ℕ) → (a ≤ x → x < b → ⊥) → is_not_between a b x ≡ true
is_out a b x outside = grind (arith, common_steps, and_parts, leb-true, ltb-true, not_from_false)

is_in : (a b x : ℕ) → a ≤ x → x < b → is_not_between a b x ≡ false
is_in a b x low high =
    not_from_true (leb a x && ltb x b)
    (and_from (leb a x) (ltb x b) (le-leb a x low) (lt-ltb x b high))

pub out_first : (a : ℕ) (xs : List ℕ) → IsOnce xs
    → AreSameNumbers xs (filter (is_not_between a a) xs)
out_first a xs once = record { same = λ x. ap (λ l. has l x) (out-begins a xs); once = once }

module _ (a n : ℕ) (xs mid : List ℕ) (ordered : a ≤ n)
    (so_far : AreSameNumbers mid (filter (is_not_between a n) xs)) where
  -- the next number is still there
  pub out_there : has xs n ≡ true → has mid n ≡ true
  out_there there = grind (arith, common_steps, has_filter-from, is_out)

  pub out_next : (new : List ℕ) → AreSameNumbers new (list_without n mid)
      → AreSameNumbers new (filter (is_not_between a (n + 1)) xs)
  out_next new next = grind (arith, common_steps, out-more, same-without)

-- which numbers are left
pub out_parts : (a b : ℕ) (xs new : List ℕ) → AreSameNumbers new (filter (is_not_between a b) xs)
    → (x : ℕ) → has new x ≡ true → (a ≤ x → x < b → ⊥) × (has xs x ≡ true)
out_parts a b xs new are x t =
    let p = has_filter-parts (is_not_between a b) xs x (sym (are.same x) ∙ t) in
    (λ low high. false≢true (sym (is_in a b x low high) ∙ p.0), p.1)

pub out_from : (a b : ℕ) (xs new : List ℕ) → AreSameNumbers new (filter (is_not_between a b) xs)
    → (x : ℕ) → (a ≤ x → x < b → ⊥) → has xs x ≡ true → has new x ≡ true
out_from a b xs new are x outside t =
    are.same x ∙ has_filter-from (is_not_between a b) xs x (is_out a b x outside) t
