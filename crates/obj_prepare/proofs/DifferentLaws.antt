-- Laws of counting different points one after the other.
use Rattle.std.proofs.Common.{◌≡◌, ℕ, suc, ◌+◌, ◌<◌, ◌≤◌, Bool, true, false, not, ◌&&◌, ◌||◌, refl}
use Rattle.std.proofs.lemmas.Grind.{common_steps}
use Rattle.std.proofs.Common.{sym, ap, ◌∙◌, subst, List, [], ◌∷◌, ◌++◌, length, map, get_or, drop}
use Rattle.std.proofs.Common.{arith, if◌then◌else◌, append_assoc}
use Rattle.std.specs.Ordering.{int_cmp, int_eq, is_eq, ordering_then}
use Rattle.std.specs.Cmp.{tied_then}
use Rattle.std.specs.BTreeSet.{BTreeSet, contains, Updates}
use Rattle.std.specs.Set.{is_member, distinct_count}
use Rattle.std.proofs.lemmas.Bool.{and_parts, or_right, true≢false}
use Rattle.std.proofs.lemmas.Bool.Decides.{Decides-int_eq}
use Rattle.std.proofs.lemmas.List.{append-nil}
use Rattle.std.proofs.lemmas.List.Folds.{list_any-append}
use Rattle.pm_base.specs.Place.{Place}
use Rattle.pm_base.specs.declared.mesh.Corners.{Corners}
use Rattle.obj_prepare.specs.Named.{chosen}
use Rattle.obj_prepare.proofs.PlacingLaws.{flag_is, off, none_left}
use Rattle.obj_prepare.specs.Different.{is_same_point, different, rounded_count, PointKey, key_of}
use Rattle.obj_prepare.specs.Different.{key_cmp, IsCounted}

-- A list has a point, and has so many different ones.
abbrev has : List Place → Place → Bool
has ps p = is_member is_same_point ps p

abbrev count_of : List Place → ℕ
count_of ps = distinct_count is_same_point ps

-- Points are one exactly where the test says so.
same_is : (p q : Place) → is_same_point p q ≡ true → p ≡ q
same_is p q is = grind (arith, common_steps, Decides-int_eq, and_parts)

-- The keys of points are tied exactly there.
same_key : (p q : Place) → is_eq (key_cmp (key_of p) (key_of q)) ≡ is_same_point p q
same_key p q =
    sym (tied_then (ordering_then (int_cmp p.x q.x) (int_cmp p.y q.y)) (int_cmp p.z q.z))
    ∙ ap (λ b. b && int_eq p.z q.z) (sym (tied_then (int_cmp p.x q.x) (int_cmp p.y q.y)))

same_refl : (p : Place) → is_same_point p p ≡ true
same_refl p = grind (arith, common_steps, Decides-int_eq)

same_sym : (p q : Place) (b : Bool) → is_same_point p q ≡ b → is_same_point q p ≡ b
same_sym p q true is = subst (λ r. is_same_point r p ≡ true) (same_is p q is) (same_refl p)
same_sym p q false is = turned (is_same_point q p) refl
  where
    turned : (b : Bool) → is_same_point q p ≡ b → is_same_point q p ≡ false
    turned false e = e
    turned true e = let both : true ≡ false = sym
        (subst (λ r. is_same_point r q ≡ true) (same_is q p e) (same_refl q)) ∙ is in cc

or_none : (b : Bool) → (b || (false || false)) ≡ b
or_none true = refl
or_none false = refl

not_true : (b : Bool) → not b ≡ true → b ≡ false
not_true true e = cc
not_true false e = refl

not_false : (b : Bool) → not b ≡ false → b ≡ true
not_false true e = refl
not_false false e = cc

-- One point more is one more where it is new.

-- Which points a list has with one more at its end.
member_end : (p q : Place) (ps : List Place) → has (ps ++ q ∷ []) p ≡
    (has ps p || (is_same_point p q || false))
member_end p q ps = list_any-append (is_same_point p) ps (q ∷ [])

same_case : (p : Place) (ps : List Place) (held : Bool) → has ps p ≡ held
    → count_of (ps ++ p ∷ []) ≡ (if held then count_of ps else count_of ps + 1)
    → count_of (p ∷ ps ++ p ∷ []) ≡ count_of (p ∷ ps)
same_case p ps true is more = rw (member_end p p ps, is) more
same_case p ps false is more = rw (member_end p p ps, is, same_refl p) (more ∙ omega arith)

other_case : (p q : Place) (ps : List Place) (held new : Bool) → is_same_point p q ≡ false
    → has ps p ≡ held → count_of (ps ++ q ∷ []) ≡ (if new then count_of ps else count_of ps + 1)
    → count_of (p ∷ ps ++ q ∷ []) ≡
    (if new then count_of (p ∷ ps) else count_of (p ∷ ps) + 1)
other_case p q ps true new other is more = rw (member_end p q ps, is) more
other_case p q ps false true other is more = rw (member_end p q ps, is, other) (ap suc more)
other_case p q ps false false other is more =
    rw (member_end p q ps, is, other) (ap suc more ∙ omega arith)

more_case : (p q : Place) (ps : List Place) (same : Bool) → is_same_point p q ≡ same
    → count_of (ps ++ q ∷ []) ≡ (if has ps q then count_of ps else count_of ps + 1)
    → count_of (p ∷ ps ++ q ∷ []) ≡
    (if has (p ∷ ps) q then count_of (p ∷ ps) else count_of (p ∷ ps) + 1)
more_case p q ps true is more =
    grind (arith, common_steps, same_case p ps, same_is p q is, same_sym p q true is)
more_case p q ps false is more = rw (same_sym p q false is) (other_case p q ps _ _ is refl more)

pub one_more : (ps : List Place) (q : Place) → count_of (ps ++ q ∷ []) ≡
    (if has ps q then count_of ps else count_of ps + 1)
one_more [] q = refl
one_more (p ∷ ps) q = more_case p q ps _ refl (one_more ps q)

-- The set after one point more.
holds_more : (before : List Place) (q : Place) (s n : BTreeSet PointKey)
    → ((p : Place) → contains key_cmp s (key_of p) ≡ has before p)
    → Updates key_cmp s n (key_of q) true → (p : Place)
    → contains key_cmp n (key_of p) ≡ has (before ++ q ∷ []) p
holds_more before q s n is u p =
    u.0 (key_of p) ∙ tied_case (is_eq (key_cmp (key_of q) (key_of p))) refl
    ∙ sym (member_end p q before)
  where
    tied_case : (b : Bool) → is_eq (key_cmp (key_of q) (key_of p)) ≡ b
        → (if b then true else contains key_cmp s (key_of p)) ≡
        (has before p || (is_same_point p q || false))
    tied_case true e = rw (same_sym q p true (sym (same_key q p) ∙ e))
        (sym (or_right (has before p) true refl))
    tied_case false e = rw (same_sym q p false (sym (same_key q p) ∙ e))
        (is p ∙ sym (or_none (has before p)))

pub new_counted : (whole left : List Place) (p : Place) (s t : BTreeSet PointKey) (key : PointKey)
    (n : ℕ) → key ≡ key_of p → IsCounted whole (p ∷ left) s n
    → true ≡ not (contains key_cmp s key) → Updates key_cmp s t key true
    → IsCounted whole left t (n + 1)
unfolding different
new_counted whole left p s t key n is c new u =
    let none : has c.before p ≡ false = sym (c.holds p)
    ∙ not_true _ (sym (ap (λ k. not (contains key_cmp s k)) is) ∙ sym new) in
    record {
      before = c.before ++ p ∷ [];
      parts = append_assoc c.before (p ∷ []) left ∙ c.parts;
      counted = sym (one_more c.before p ∙ rw none (ap (λ k. k + 1) (sym c.counted)));
      holds = holds_more c.before p s t c.holds (subst (λ k. Updates key_cmp s t k true) is u);
    }

pub old_counted : (whole left : List Place) (p : Place) (s t : BTreeSet PointKey) (key : PointKey)
    (n : ℕ) → key ≡ key_of p → IsCounted whole (p ∷ left) s n
    → false ≡ not (contains key_cmp s key) → Updates key_cmp s t key true → IsCounted whole left t n
unfolding different
old_counted whole left p s t key n is c old u =
    let some : has c.before p ≡ true = sym (c.holds p)
    ∙ not_false _ (sym (ap (λ k. not (contains key_cmp s k)) is) ∙ sym old) in
    record {
      before = c.before ++ p ∷ [];
      parts = append_assoc c.before (p ∷ []) left ∙ c.parts;
      counted = sym (one_more c.before p ∙ rw some (sym c.counted));
      holds = holds_more c.before p s t c.holds (subst (λ k. Updates key_cmp s t k true) is u);
    }

-- What is left of flags and points, one step on.

pub none_counted : (flags : List Bool) (ps : List Place) (s : BTreeSet PointKey) → s.keys ≡ []
    → IsCounted (chosen flags ps) (chosen (drop 0 flags) (drop 0 ps)) s 0
unfolding different
none_counted flags ps s none = grind (arith, common_steps)

pub flag_on : (flags : List Bool) (ps : List Place) (i : ℕ) (p : Place)
    (same : length flags ≡ length ps) (l : i < length ps) (read : p ≡ get_or ps i p)
    → get_or flags i false ≡ true → (whole : List Place) (s : BTreeSet PointKey) (n : ℕ)
    → IsCounted whole (chosen (drop i flags) (drop i ps)) s n
    → IsCounted whole (p ∷ chosen (drop (i + 1) flags) (drop (i + 1) ps)) s n
flag_on flags ps i p same l read on whole s n =
    subst (λ left. IsCounted whole left s n) (flag_is flags ps i p same l read chosen true on)

pub flag_past : (flags : List Bool) (ps : List Place) (i : ℕ) (same : length flags ≡ length ps)
    (l : i < length ps) → get_or flags i false ≡ false
    → (whole : List Place) (s : BTreeSet PointKey) (n : ℕ)
    → IsCounted whole (chosen (drop i flags) (drop i ps)) s n
    → IsCounted whole (chosen (drop (i + 1) flags) (drop (i + 1) ps)) s n
flag_past flags ps i same l past whole s n =
    subst (λ left. IsCounted whole left s n) (off flags ps i same l chosen past)

pub all_counted : (flags : List Bool) (ps : List Place) (i : ℕ) (same : length flags ≡ length ps)
    (l : length ps ≤ i) → (whole : List Place) (s : BTreeSet PointKey) (n : ℕ)
    → IsCounted whole (chosen (drop i flags) (drop i ps)) s n → n ≡ different whole
all_counted flags ps i same l whole s n c =
    c.counted ∙ ap different (sym (append-nil c.before)
    ∙ ap (λ left. c.before ++ left) (sym (none_left flags ps i same l chosen)) ∙ c.parts)

-- No function takes one point to different ones.

member_map : (f : Place → Place) (p : Place) (ps : List Place) → has ps p ≡ true
    → has (map f ps) (f p) ≡ true
member_map f p [] is = cc
member_map f p (q ∷ ps) is = first (is_same_point p q) refl (member_map f p ps)
  where
    first : (b : Bool) → is_same_point p q ≡ b → (has ps p ≡ true → has (map f ps) (f p) ≡ true)
        → has (map f (q ∷ ps)) (f p) ≡ true
    first true e more = rw (subst (λ r. is_same_point (f p) (f r) ≡ true) (same_is p q e)
        (same_refl (f p))) refl
    first false e more = let rest : has ps p ≡ true = rw e at is in or_right _ _
        (more rest)

map_case : (f : Place → Place) (p : Place) (ps : List Place) (held new : Bool)
    → has ps p ≡ held → has (map f ps) (f p) ≡ new → count_of (map f ps) ≤ count_of ps
    → count_of (map f (p ∷ ps)) ≤ count_of (p ∷ ps)
map_case f p ps true true is are less = rw (is, are) less
map_case f p ps true false is are less = absurd (true≢false (sym (member_map f p ps is) ∙ are))
map_case f p ps false true is are less = rw (is, are) (omega (arith, less))
map_case f p ps false false is are less = rw (is, are) (omega (arith, less))

different_map : (f : Place → Place) (ps : List Place) → count_of (map f ps) ≤ count_of ps
different_map f [] = omega arith
different_map f (p ∷ ps) = map_case f p ps _ _ refl refl (different_map f ps)

chosen_map : (f : Place → Place) (flags : List Bool) (ps : List Place)
    → chosen flags (map f ps) ≡ map f (chosen flags ps)
chosen_map f [] ps = refl
chosen_map f (true ∷ flags) [] = refl
chosen_map f (false ∷ flags) [] = refl
chosen_map f (true ∷ flags) (p ∷ ps) = ap (λ qs. f p ∷ qs) (chosen_map f flags ps)
chosen_map f (false ∷ flags) (p ∷ ps) = chosen_map f flags ps

-- So none is joined by rounding whose point is told by its place.
pub none_rounded : (f : Place → Place) (places : List Place) (faces : List Corners)
    → rounded_count (map f places) places faces ≡ 0
unfolding rounded_count different
none_rounded f places faces = grind (arith, common_steps, chosen_map, different_map)
