-- The sides that leave one vertex are paired one by one, and in the end all are.
use Rattle.std.proofs.Common.{◌≡◌, ◌≢◌, ℕ, ◌+◌, ◌<◌, ◌≤◌, Option, Some, None, List, length}
use Rattle.std.proofs.Common.{inl, inr, sym, ap, ◌∙◌, subst, arith}
use Rattle.std.proofs.Math.ListN.{set}
use Rattle.std.proofs.lemmas.Bool.{cases_eq, cases_lt}
use Rattle.std.proofs.lemmas.List.{get_or-set_same, get_or-set_other, length-set}
use Rattle.std.specs.Option.{IfSome, option_map}
use Rattle.pm_base.specs.declared.ids.Side.{Side}
use Rattle.pm_base.specs.Sides.{Net, side_count, to, NoSideTwice, twin_of, beside_side}
use Rattle.pm_base.proofs.Search.{option_cases}
use Rattle.pm_base.proofs.TwinLaws.{twin-is, twin-one}
use Rattle.pm_twins.specs.Table.{AreTwinsOf}
use Rattle.pm_twins.specs.Whole.{IsWhole}
use Rattle.pm_twins.specs.SideLists.{last_from, link_of, AreListed}
use Rattle.pm_twins.specs.Stamping.{Stamps, stamped, AreAllStamped, IsSideBetween, ArePaired}
use Rattle.pm_twins.proofs.ListLaws.{past, walk_low, walk_meets}

-- Where all sides that arrive at v are stamped, a look at the stamps finds the one from q.
found : (m : Net) (v q : ℕ) (stamps : Stamps) (r : Option Side) → AreAllStamped m v stamps
    → r ≡ stamped stamps v q → IsSideBetween m q v (option_map (λ s. s.0) r)
found m v q stamps r all is =
    subst (λ (r : Option Side). IsSideBetween m q v (option_map (λ s. s.0) r)) (sym is) (all q)

-- What it finds is one of the mesh's sides.
pub found-low : (m : Net) (v q most : ℕ) (stamps : Stamps) (r : Option Side)
    → AreAllStamped m v stamps → side_count m ≤ most → r ≡ stamped stamps v q
    → IfSome r (λ s. s.0 < most)
found-low m v q most stamps None all few is = tt
found-low m v q most stamps (Some s) all few is = let (l, from, ends) =
    found m v q stamps (Some s) all is in omega (arith, l, few)

-- At first no side is paired, and the table has the links.
pub paired_none : {m : Net} {n : ℕ} {lasts table : List (Option ℕ)}
    → AreListed m n (side_count m) lasts table → ArePaired m 0 table
paired_none {m} {n} {lasts} {table} h = record {
  sides = h.sides;
  each = λ e l low. absurd (omega (arith, low));
  others = λ e l low. h.each e l;
}

-- Of the sides that leave v those from k on are paired.
pub record IsPairing (m : Net) (v k : ℕ) (table : List (Option ℕ)) : Type 0 where
  pub sides : length table ≡ side_count m
  pub before : (e : ℕ) → e < side_count m → m.from e < v
      → IsSideBetween m (to m e) (m.from e) (beside_side table e)
  pub passed : (e : ℕ) → e < side_count m → m.from e ≡ v → k ≤ e
      → IsSideBetween m (to m e) (m.from e) (beside_side table e)
  pub left : (e : ℕ) → e < side_count m → m.from e ≡ v → e < k
      → beside_side table e ≡ link_of m e
  pub later : (e : ℕ) → e < side_count m → v < m.from e → beside_side table e ≡ link_of m e

-- A walk that comes to side `at` passes none over.
pub pairing_skips : {m : Net} {v k : ℕ} {table : List (Option ℕ)} (at : Option Side)
    → option_map (λ s. s.0) at ≡ last_from m v k → IsPairing m v k table
    → IsPairing m v (past at) table
pairing_skips {m} {v} {k} at is i =
    let low = walk_low m v k at is in
    record {
      sides = i.sides;
      before = i.before;
      passed = λ e l from le. i.passed e l from
          (elim (cases_lt e k) [
            | inl less ↦ absurd (let meets = walk_meets m v k at is e less from in
                omega (arith, meets, le))
            | inr more ↦ more
          ]);
      left = λ e l from less. i.left e l from (omega (arith, less, low));
      later = i.later;
    }

pub pairing_begins : {m : Net} {v : ℕ} {table : List (Option ℕ)} (at : Option Side)
    → option_map (λ s. s.0) at ≡ last_from m v (side_count m) → ArePaired m v table
    → IsPairing m v (past at) table
pairing_begins {m} {v} {table} at is paired =
    pairing_skips {k = side_count m} at is (record {
      sides = paired.sides;
      before = paired.each;
      passed = λ e l from le. absurd (omega (arith, l, le));
      left = λ e l from less. paired.others e l (omega (arith, from));
      later = λ e l less. paired.others e l (omega (arith, less));
    })

-- One more side is paired.
module _ (m : Net) (v y : ℕ) (stamps : Stamps) (table : List (Option ℕ)) (r : Option Side)
    (i : IsPairing m v (y + 1) table) (low : y < side_count m) (from_y : m.from y ≡ v)
    (all : AreAllStamped m v stamps) (looked : r ≡ stamped stamps v (to m y)) where
  abbrev twin : Option ℕ
  twin = option_map (λ s. s.0) r

  at_y : IsSideBetween m (to m y) (m.from y) (beside_side (set table y twin) y)
  at_y = subst (IsSideBetween m (to m y) (m.from y))
      (sym (get_or-set_same table y twin None (omega (arith, low, i.sides))))
      (subst (λ (u : ℕ). IsSideBetween m (to m y) u twin) (sym from_y)
      (found m v (to m y) stamps r all looked))

  other_slot : (u : ℕ) → u ≢ y → beside_side table u ≡ beside_side (set table y twin) u
  other_slot u ne = sym (get_or-set_other table y u twin None ne)

  not_y : (e : ℕ) → m.from e ≢ v → e ≢ y
  not_y e ne same = ne (ap m.from same ∙ from_y)

  one_paired : IsPairing m v y (set table y twin)
  one_paired = record {
    sides = length-set table y twin ∙ i.sides;
    before = λ e l less.
        subst (IsSideBetween m (to m e) (m.from e))
        (other_slot e (not_y e (λ is. absurd (omega (arith, is, less))))) (i.before e l less);
    passed = λ e l from le. elim (cases_eq e y) [
      | inl same ↦ subst (λ (k : ℕ). IsSideBetween m (to m k) (m.from k)
          (beside_side (set table y twin) k)) (sym same) at_y
      | inr ne ↦ subst (IsSideBetween m (to m e) (m.from e)) (other_slot e ne)
          (i.passed e l from (omega (arith, le, ne)))
    ];
    left = λ e l from less.
        sym (other_slot e (λ same. absurd (omega (arith, same, less))))
        ∙ i.left e l from (omega (arith, less));
    later = λ e l less.
        sym (other_slot e (not_y e (λ is. absurd (omega (arith, is, less))))) ∙ i.later e l less;
  }

pub pairing_more : {m : Net} {v : ℕ} {y : Side} (stamps : Stamps) {table : List (Option ℕ)}
    {r : Option Side} → IsPairing m v (y.0 + 1) table → y.0 < side_count m → m.from y.0 ≡ v
    → AreAllStamped m v stamps → r ≡ stamped stamps v (to m y.0)
    → IsPairing m v y.0 (set table y.0 (option_map (λ s. s.0) r))
pairing_more {m} {v} {y} stamps {table} {r} i low from all looked =
    one_paired m v y.0 stamps table r i low from all looked

-- All that leave v are paired.
pub paired_more : {m : Net} {v : ℕ} {table : List (Option ℕ)} → IsPairing m v 0 table
    → ArePaired m (v + 1) table
paired_more {m} {v} {table} i = record {
  sides = i.sides;
  each = λ e l low. elim (cases_eq (m.from e) v) [
    | inr ne ↦ i.before e l (omega (arith, low, ne))
    | inl from ↦ i.passed e l from (omega arith)
  ];
  others = λ e l less. i.later e l (omega (arith, less));
}

-- Where no side stands twice, the side that runs back is the twin.
between_twin : (m : Net) (vertices : ℕ) → IsWhole m vertices → NoSideTwice m → (e : ℕ)
    → (r : Option ℕ) → IsSideBetween m (to m e) (m.from e) r → r ≡ twin_of m e
between_twin m vertices whole once e None none =
    elim (option_cases (twin_of m e)) [
      | inl same ↦ sym same
      | inr (g, is) ↦ (let w = twin-is m e g is in absurd (none g w.stands.is_side w.begins w.ends))
    ]
between_twin m vertices whole once e (Some g) (l, from, ends) =
    sym (twin-one m once e g (record { stands = whole.stands g l; begins = from; ends = ends }))

pub paired_all : {m : Net} {vertices n : ℕ} {table : List (Option ℕ)} → IsWhole m vertices
    → NoSideTwice m → vertices ≤ n → ArePaired m n table → AreTwinsOf m table
paired_all {m} {vertices} {n} {table} whole once all paired = record {
  sides = paired.sides;
  each = λ e l.
      let from = whole.within e l in
      between_twin m vertices whole once e (beside_side table e)
      (paired.each e l (omega (arith, from, all)));
}
