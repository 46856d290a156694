-- The table of cosines while axes are gone through.
use Rattle.std.proofs.Common.{◌≡◌, ℕ, ◌+◌, ◌<◌, ◌≤◌, max, List, [], ◌∷◌, ◌++◌, length, map, take}
use Rattle.std.proofs.Common.{get_or, set, Option, None, length-set, inl, inr, sym, ap, ◌∙◌, subst}
use Rattle.std.proofs.Common.{arith, true, IfSome}
use Rattle.std.proofs.lemmas.Grind.{common_steps}
use Rattle.std.proofs.lemmas.Bool.{cases_eq}
use Rattle.std.proofs.lemmas.List.{map-append, take_more, get_or-set_same, get_or-set_other}
use Rattle.pm_forest.specs.Forest.{Hierarchy, node_count}
use Rattle.pm_bounds.specs.Bounds.{greatest}
use Rattle.pm_deviation.specs.declared.axes.Axis.{Axis}
use Rattle.pm_deviation.specs.declared.axes.TheConstants.{AXES}
use Rattle.pm_deviation.specs.declared.spread.Spread.{Spread}
use Rattle.pm_deviation.specs.Normals.{cosine_by, greatest_cosine}
use Rattle.pm_deviation.specs.declared.heading.Heading.{Heading}
use Rattle.pm_deviation.specs.Tables.{AreOfNodes, IsSum, AreHeadings, is_axis, spread_among}
use Rattle.pm_deviation.proofs.AxisLaws.{among_small}
use Rattle.pm_bounds.proofs.LeafLaws.{greatest-more}

module _ (spread : Axis → ℕ → Option Spread) where
  -- The cosine of a node along an axis, and by the first n axes.
  abbrev pub cosine_at : ℕ → Axis → ℕ
  cosine_at v u = cosine_by u (spread u v)

  abbrev pub cosine_in : ℕ → ℕ → ℕ
  cosine_in n v = greatest (map (cosine_at v) (take n AXES))

  cosine_in-more : (n v : ℕ) (u : Axis) → n < 13 → u ≡ get_or AXES n u
      → cosine_in (n + 1) v ≡ max (cosine_in n v) (cosine_at v u)
  cosine_in-more n v u l is =
      ap (λ us. greatest (map (cosine_at v) us)) (take_more AXES n u l
      ∙ ap (λ w. take n AXES ++ w ∷ []) (sym is))
      ∙ ap greatest (map-append (cosine_at v) (take n AXES) (u ∷ []))
      ∙ greatest-more (map (cosine_at v) (take n AXES)) (cosine_at v u)

-- The table by them.
pub record AreRaised (h : Hierarchy) (spread : Axis → ℕ → Option Spread) (n : ℕ) (table : List ℕ)
    : Type 0 where
  pub len : length table ≡ node_count h
  pub each : (v : ℕ) → v < node_count h → get_or table v 0 ≡ cosine_in spread n v

module _ (h : Hierarchy) (spread : Axis → ℕ → Option Spread) where
  pub raised_none : (table : List ℕ) → length table ≡ node_count h
      → ((v : ℕ) → v < node_count h → get_or table v 0 ≡ 0) → AreRaised h spread 0 table
  raised_none table len none = record { len = len; each = none }

  pub raised_more : (n : ℕ) (u : Axis) (old new : List ℕ) (spreads : List (Option Spread)) → n < 13
      → u ≡ get_or AXES n u → AreRaised h spread n old → AreOfNodes h None (spread u) spreads
      → length new ≡ node_count h →
      ((v : ℕ) → v < node_count h → get_or new v 0
      ≡ max (get_or old v 0) (cosine_by u (get_or spreads v None)))
      → AreRaised h spread (n + 1) new
  raised_more n u old new spreads l is was are len raised = record {
    len = len;
    each = λ v m. raised v m ∙ ap (λ c. max c (cosine_by u (get_or spreads v None))) (was.each v m)
        ∙ ap (λ s. max (cosine_in spread n v) (cosine_by u s)) (are.each v m)
        ∙ sym (cosine_in-more spread n v u l is);
  }

  pub raised_all : (n : ℕ) (table : List ℕ) → n ≡ 13 → AreRaised h spread n table
      → AreOfNodes h 0 (λ v. greatest_cosine (λ u. spread u v)) table
  raised_all n table all was = record {
    nodes = was.len;
    each = λ v l. was.each v l ∙ ap (λ m. cosine_in spread m v) all;
  }

  -- The same by a borrowed table.
  pub raised_along : (n : ℕ) (u w : Axis) (old new : List ℕ) (s t : List (Option Spread)) → n < 13
      → u ≡ get_or AXES n u → u ≡ w → t ≡ s → AreRaised h spread n old
      → AreOfNodes h None (spread w) s → length new ≡ node_count h →
      ((v : ℕ) → v < node_count h → get_or new v 0
      ≡ max (get_or old v 0) (cosine_by u (get_or t v None)))
      → AreRaised h spread (n + 1) new
  raised_along n u w old new s t l is axis table was are len raised =
      raised_more n u old new s l is was
      (subst (λ (a : Axis). AreOfNodes h None (spread a) s) (sym axis) are) len
      (subst (λ (ts : List (Option Spread)). (v : ℕ) → v < node_count h → get_or new v 0
      ≡ max (get_or old v 0) (cosine_by u (get_or ts v None))) table raised)

-- No spread of such a table is too great.
pub along_small : (h : Hierarchy) (ds : List Heading) (u : Axis) (s t : List (Option Spread))
    → AreHeadings h ds → is_axis u ≡ true → t ≡ s → AreOfNodes h None (spread_among h ds u) s
    → (v : ℕ) → v < node_count h → IfSome (get_or t v None) IsSum
along_small h ds u s t headings axis table are v l =
    subst (λ (o : Option Spread). IfSome o IsSum)
    (sym (ap (λ (ts : List (Option Spread)). get_or ts v None) table ∙ are.each v l))
    (among_small h ds u v headings axis)

-- One node's cosine raised.
pub record AreRaisedTo (h : Hierarchy) (u : Axis) (spreads : List (Option Spread))
    (first now : List ℕ) (n : ℕ) : Type 0 where
  pub len : length now ≡ node_count h
  pub done : (v : ℕ) → v < n
      → get_or now v 0 ≡ max (get_or first v 0) (cosine_by u (get_or spreads v None))
  pub rest : (v : ℕ) → n ≤ v → get_or now v 0 ≡ get_or first v 0

pub raise_start : (h : Hierarchy) (u : Axis) (spreads : List (Option Spread)) (first : List ℕ)
    → length first ≡ node_count h
    → AreRaisedTo h u spreads first first 0
raise_start h u spreads first len = grind (arith, common_steps)

pub raise_step : (h : Hierarchy) (u : Axis) (spreads : List (Option Spread)) (first now : List ℕ)
    (n x : ℕ) → n < node_count h
    → AreRaisedTo h u spreads first now n
    → x ≡ max (get_or now n 0) (cosine_by u (get_or spreads n None)) →
    AreRaisedTo h u spreads first (set now n x) (n + 1)
raise_step h u spreads first now n x l was is =
    let len = was.len in
    let inside : n < length now = omega arith in
    record {
      len = length-set now n x ∙ len;
      done = λ v m. elim (cases_eq v n) [
        | inl same ↦
            subst (λ w. get_or (set now n x) w 0
            ≡ max (get_or first w 0) (cosine_by u (get_or spreads w None)))
            (sym same)
            (get_or-set_same now n x 0 inside ∙ is
            ∙ ap (λ c. max c (cosine_by u (get_or spreads n None))) (was.rest n (omega arith)))
        | inr other ↦ get_or-set_other now n v x 0 other ∙ was.done v (omega (arith, other))
      ];
      rest = λ v m. get_or-set_other now n v x 0 (λ same. absurd (omega arith))
          ∙ was.rest v (omega arith);
    }
