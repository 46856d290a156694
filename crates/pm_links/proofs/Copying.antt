-- What two walks from the two ends of a list leave between them, and what they copy to a room.
use Rattle.std.proofs.Common.{◌≡◌, ◌≢◌, ℕ, ◌+◌, ◌-◌, ◌<◌, ◌≤◌, true, false, eqb, List, [], ◌∷◌}
use Rattle.std.proofs.lemmas.Grind.{common_steps}
use Rattle.std.proofs.Common.{◌++◌, length, get_or, set, take, drop, sym, refl, ap, ◌∙◌, subst}
use Rattle.std.proofs.Common.{append_assoc, length-set, arith}
use Rattle.std.proofs.Math.Seq.{take-length}
use Rattle.std.proofs.lemmas.List.{drop-set, drop-set-lt, take-set-le, take_more_set, length-append}
use Rattle.std.proofs.lemmas.List.{length-take-le, length-drop}
use Rattle.std.proofs.lemmas.Bool.{or_parts, or_left, or_right, eqb-false, ne_eqb, false≢true}
use Rattle.pm_links.specs.Lists.{has, IsOnce, AreFirst, gathered}
use Rattle.pm_links.specs.Arena.{IsLinked}
use Rattle.pm_links.proofs.Members.{has_head, has_tail, has-append}

-- ---- a list without its last item

-- the other items, and that the last is none of them
once_front : (xs : List ℕ) (y : ℕ) → IsOnce (xs ++ y ∷ []) → IsOnce xs × (has xs y ≡ false)
once_front [] y o = (tt, refl)
once_front (x ∷ xs) y o =
    grind (arith, common_steps, eqb-false, has-append, ne_eqb, or_parts, once_front xs y o.1)

-- a run up to its last item y
cut_last : (next prev : List ℕ) (a x : ℕ) (xs : List ℕ) (b y : ℕ) → get_or prev b 0 ≡ y →
    IsLinked next prev a (x ∷ xs) b → (ys : List ℕ) × (x ∷ xs ≡ ys ++ y ∷ [])
    × IsLinked next prev a ys y
cut_last next prev a x [] b y e l =
    let is : x ≡ y = sym l.2.1 ∙ e in
    ([], ap (λ k. k ∷ []) is, subst (λ (k : ℕ). IsLinked next prev a [] k) is (l.0, l.1))
cut_last next prev a x (z ∷ zs) b y e l =
    let r = cut_last next prev x z zs b y e l.2 in
    (x ∷ r.0, ap (λ k. x ∷ k) r.1, (l.0, l.1, r.2))

-- ---- the items that no walk has come to, between the last that each has copied

pub record IsLeft (next prev : List ℕ) (first : ℕ) (xs : List ℕ) (last : ℕ) : Type 0 where
  pub linked : IsLinked next prev first xs last
  pub once : IsOnce xs
  pub not_first : has xs first ≡ false
  pub not_last : has xs last ≡ false
  pub in_range : (x : ℕ) → has xs x ≡ true → x < length next

module _ (next prev : List ℕ) where
  -- without the first of them
  left_front : (first x : ℕ) (xs : List ℕ) (last : ℕ) → IsLeft next prev first (x ∷ xs) last →
      IsLeft next prev x xs last
  left_front first x xs last l =
      grind (arith, common_steps, has_tail x xs, or_parts (eqb x last) (has xs last) l.not_last)

  -- without the last of them
  left_back : (first : ℕ) (xs : List ℕ) (y last : ℕ) → IsLinked next prev first xs y →
      IsLeft next prev first (xs ++ y ∷ []) last → IsLeft next prev first xs y
  left_back first xs y last linked l =
      grind (
        arith,
        common_steps,
        or_left,
        has-append xs (y ∷ []) first,
        has-append xs (y ∷ []),
        once_front xs y l.once,
        or_parts (has xs first) (has (y ∷ []) first) (sym (has-append xs (y ∷ []) first)
            ∙ l.not_first),
      )

-- ---- what is copied: the first items before `front`, and the last from `back` on

pub record Copies (next prev items room : List ℕ) (front back first last : ℕ) : Type 0 where
  pub middle : List ℕ
  pub left : IsLeft next prev first middle last
  pub parts : items ≡ take front room ++ (middle ++ drop back room)
  pub first_in : first < length next
  pub last_in : last < length next
  pub low : front ≤ back
  pub high : back ≤ length room

module _ {next prev items room : List ℕ} {front back first last : ℕ}
    (c : Copies next prev items room front back first last) where
  -- one more item at the front
  pub front_step : (item : ℕ) → front < back → get_or next first 0 ≡ item → item ≢ last →
      Copies next prev items (set room front item) (front + 1) back item last
  front_step item lt read ne = from c.middle c.left c.parts
    where
      from : (xs : List ℕ) → IsLeft next prev first xs last →
          items ≡ take front room ++ (xs ++ drop back room) →
          Copies next prev items (set room front item) (front + 1) back item last
      from [] l p = absurd (ne (sym read ∙ l.linked.0))
      from (x ∷ xs) l p =
          let done : Copies next prev items (set room front x) (front + 1) back x last = record {
            middle = xs;
            left = left_front next prev first x xs last l;
            parts = rw (
              take_more_set room front x (omega (arith, c.high)),
              drop-set-lt back room front x lt,
            )
                (p ∙ sym (append_assoc (take front room) (x ∷ []) (xs ++ drop back room)));
            first_in = l.in_range x (has_head x xs);
            last_in = c.last_in;
            low = omega arith;
            high = rw (length-set room front x) c.high;
          } in
          subst (λ (k : ℕ). Copies next prev items (set room front k) (front + 1) back k last)
          (sym l.linked.0 ∙ read) done

  -- one more item at the back
  pub back_step : (item : ℕ) → front < back → get_or prev last 0 ≡ item → item ≢ first →
      Copies next prev items (set room (back - 1) item) front (back - 1) first item
  back_step item lt read ne = from c.middle c.left c.parts
    where
      from : (xs : List ℕ) → IsLeft next prev first xs last →
          items ≡ take front room ++ (xs ++ drop back room) →
          Copies next prev items (set room (back - 1) item) front (back - 1) first item
      from [] l p = absurd (ne (sym read ∙ l.linked.1))
      from (x ∷ xs) l p =
          let r = cut_last next prev first x xs last item read l.linked in
          let whole = subst (λ (k : List ℕ). IsLeft next prev first k last) r.1 l in
          let again : back - 1 + 1 ≡ back = omega arith in
          let inner : back - 1 < length room = omega (arith, c.high) in
          record {
            middle = r.0;
            left = left_back next prev first r.0 item last r.2 whole;
            parts = rw (
              take-set-le front room (back - 1) item (omega arith),
              drop-set room (back - 1) item inner,
              again,
            )
                (p ∙ ap (λ k. take front room ++ (k ++ drop back room)) r.1
                ∙ ap (λ k. take front room ++ k) (append_assoc r.0 (item ∷ []) (drop back room)));
            first_in = c.first_in;
            last_in = whole.in_range item (has-append r.0 (item ∷ []) item
                ∙ or_right (has r.0 item) (has (item ∷ []) item) (has_head item []));
            low = omega arith;
            high = rw (length-set room (back - 1) item) (omega (arith, c.high));
          }

  -- ---- the two walks meet where nothing is left

  pub met_front : get_or next first 0 ≡ last → c.middle ≡ []
  met_front read = from c.middle c.left
    where
      from : (xs : List ℕ) → IsLeft next prev first xs last → xs ≡ []
      from [] l = refl
      from (x ∷ xs) l = absurd (false≢true (sym l.not_last
          ∙ subst (λ (k : ℕ). has (x ∷ xs) k ≡ true) (sym l.linked.0 ∙ read) (has_head x xs)))

  pub met_back : get_or prev last 0 ≡ first → c.middle ≡ []
  met_back read = from c.middle c.left
    where
      from : (xs : List ℕ) → IsLeft next prev first xs last → xs ≡ []
      from [] l = refl
      from (x ∷ xs) l =
          let r = cut_last next prev first x xs last first read l.linked in
          absurd (false≢true (sym l.not_first ∙ ap (λ k. has k first) r.1
          ∙ has-append r.0 (first ∷ []) first
          ∙ or_right (has r.0 first) (has (first ∷ []) first) (has_head first [])))

  pub length-copied : length items ≡ front + (length c.middle + (length room - back))
  length-copied = grind (arith, common_steps, length-append, length-drop, length-take-le)

  -- then there is room for all
  pub all_fit : c.middle ≡ [] → length items ≤ length room
  all_fit e = omega (arith, length-copied, ap length e, c.low, c.high)

  -- and all stand there
  pub all_copied : c.middle ≡ [] → gathered room front back ≡ items
  all_copied e = sym (c.parts ∙ ap (λ k. take front room ++ (k ++ drop back room)) e)

pub all_first : (begin xs : List ℕ) → begin ≡ xs → AreFirst begin xs
all_first begin xs e = rw e (sym (take-length xs))
