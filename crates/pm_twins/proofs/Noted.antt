-- What is known of each vertex grows by one side at a time.
use Rattle.std.proofs.Common.{◌≡◌, ◌≢◌, ℕ, suc, ◌+◌, ◌<◌, ◌≤◌, eqb, Bool, true, false, Option, Some}
use Rattle.std.proofs.Common.{None, inl, inr, List, length, slice_index_or, refl, sym, ap, ◌∙◌}
use Rattle.std.proofs.Common.{subst, arith}
use Rattle.std.specs.Option.{is_none}
use Rattle.std.proofs.Math.ListN.{set}
use Rattle.std.proofs.lemmas.Bool.{cases_eq, eq-eqb, ne_eqb, and_from, and_right, false≢true}
use Rattle.std.proofs.lemmas.List.{get_or-set_same, get_or-set_other, get_or_default}
use Rattle.pm_base.specs.declared.ids.Side.{Side}
use Rattle.pm_base.specs.Sides.{Net, side_count, Stands, stands, twin_of}
use Rattle.pm_base.specs.Fans.{IsFan}
use Rattle.pm_base.specs.Counts.{count}
use Rattle.pm_base.proofs.Counts.{count-true, count-false, count-zero, count_le}
use Rattle.pm_base.proofs.Search.{none_from}
use Rattle.pm_base.proofs.TwinLaws.{stands_is_true}
use Rattle.pm_base.proofs.FanLaws.{unused_fan}
use Rattle.pm_twins.specs.declared.fans.Vertex.{Vertex}
use Rattle.pm_twins.specs.Walks.{begins_at, degree, IsStart, with_side, first_given, no_vertex}
use Rattle.pm_twins.specs.Walks.{StartsSoFar, IsKnown}
use Rattle.pm_twins.specs.Whole.{IsWhole}

pub known_none : (m : Net) (v : ℕ) → IsKnown m 0 v no_vertex
known_none m v =
    record { degree = sym (count-zero (begins_at m v)); start = λ e l. absurd (omega arith) }

pub known_small : (m : Net) (n v : ℕ) (k : Vertex) → IsKnown m n v k → k.degree ≤ n
known_small m n v k h = let a = count_le (begins_at m v) n in let b = h.degree in omega arith

-- A side that runs from another vertex.
starts_other : (m : Net) (n v : ℕ) (r : Option Side) → m.from n ≢ v → StartsSoFar m n v r
    → StartsSoFar m (n + 1) v r
starts_other m n v None ne h =
    λ e l. elim (cases_eq e n) [
      | inl is ↦ (λ k. ne (sym (ap m.from is) ∙ k))
      | inr other ↦
          h e (omega arith)
    ]
starts_other m n v (Some a) ne (l, is, h) = (
  omega arith,
  is,
  elim h [
    | inl none ↦ inl none
    | inr each ↦
        inr (λ g gl gv. elim (cases_eq g n) [
          | inl same ↦ absurd (ne (sym (ap m.from same) ∙ gv))
          | inr other ↦ each g (omega arith) gv
        ])
  ],
)

pub known_other : (m : Net) (n v : ℕ) (k : Vertex) → m.from n ≢ v → IsKnown m n v k
    → IsKnown m (n + 1) v k
known_other m n v k ne h =
    let next : suc n ≡ n + 1 = omega arith in
    record {
      degree = h.degree
          ∙ sym (count-false (begins_at m v) n
          (and_right (stands m n) (eqb (m.from n) v) (ne_eqb (m.from n) v ne)))
          ∙ ap (count (begins_at m v)) next;
      start = starts_other m n v k.start ne h.start;
    }

some_is : (r : Option ℕ) → is_none r ≡ false → r ≢ None
some_is r t is = false≢true (sym t ∙ ap is_none is)

-- A side that runs from the vertex itself, with a twin.
starts_next : (m : Net) (n : Side) (r : Option Side) → twin_of m n.0 ≢ None
    → StartsSoFar m n.0 (m.from n.0) r → StartsSoFar m (n.0 + 1) (m.from n.0) (first_given r n)
starts_next m n None twinned h = (
  omega arith,
  refl,
  inr (λ g l gv. elim (cases_eq g n.0) [
    | inl is ↦ (λ none. twinned (ap (twin_of m) (sym is) ∙ none))
    | inr ne ↦ absurd (h g (omega arith) gv)
  ]),
)
starts_next m n (Some a) twinned (l, is, h) = (
  omega arith,
  is,
  elim h [
    | inl none ↦ inl none
    | inr each ↦ inr (λ g gl gv. elim (cases_eq g n.0) [
      | inl same ↦ (λ none. twinned (ap (twin_of m) (sym same) ∙ none))
      | inr other ↦ each g (omega arith) gv
    ])
  ],
)

-- The same, with or without a twin.
starts_same : (m : Net) (n : Side) (known : Vertex) (alone : Bool) → alone ≡ is_none (twin_of m n.0)
    → StartsSoFar m n.0 (m.from n.0) known.start
    → StartsSoFar m (n.0 + 1) (m.from n.0) (with_side known n alone).start
starts_same m n known true is h = (omega arith, refl, inl (none_from (twin_of m n.0) (sym is)))
starts_same m n known false is h = starts_next m n known.start (some_is (twin_of m n.0) (sym is)) h

pub known_same : (m : Net) (n : Side) (known : Vertex) (alone : Bool) → Stands m n.0
    → alone ≡ is_none (twin_of m n.0) → IsKnown m n.0 (m.from n.0) known
    → IsKnown m (n.0 + 1) (m.from n.0) (with_side known n alone)
known_same m n known alone t is h =
    let begins =
    and_from (stands m n.0) (eqb (m.from n.0) (m.from n.0)) (stands_is_true m n.0 t)
    (eq-eqb (m.from n.0) (m.from n.0) refl) in
    let next : suc n.0 ≡ n.0 + 1 = omega arith in
    let more : known.degree + 1 ≡ count (begins_at m (m.from n.0)) (suc n.0) =
    omega (arith, h.degree, count-true (begins_at m (m.from n.0)) n.0 begins) in
    record {
      degree = more ∙ ap (count (begins_at m (m.from n.0))) next;
      start =
          starts_same m n known alone is h.start;
    }

-- All vertices, where the entry of one is replaced.
pub all_known : (m : Net) (n : Side) (x : ℕ) (vs : List Vertex) (known : Vertex) (alone : Bool)
    → Stands m n.0 → alone ≡ is_none (twin_of m n.0) → x ≡ m.from n.0 → x < length vs
    → known ≡ slice_index_or vs x no_vertex →
    ((v : ℕ) → v < length vs → IsKnown m n.0 v (slice_index_or vs v no_vertex)) →
    (v : ℕ) → v < length vs
    → IsKnown m (n.0 + 1) v (slice_index_or (set vs x (with_side known n alone)) v no_vertex)
all_known m n x vs known alone t is at l entry all v vl =
    elim (cases_eq v x) [
      | inr ne ↦ subst (IsKnown m (n.0 + 1) v)
          (sym (get_or-set_other vs x v (with_side known n alone) no_vertex ne))
          (known_other m n.0 v (slice_index_or vs v no_vertex) (λ k. ne (sym k ∙ sym at))
          (all v vl))
      | inl same ↦
          let from : v ≡ m.from n.0 = same ∙ at in
          let old = subst (λ (k : Vertex). IsKnown m n.0 x k) (sym entry) (all x l) in
          let new = known_same m n known alone t is
          (subst (λ (w : ℕ). IsKnown m n.0 w known) at old) in
          let value = ap
          (λ (i : ℕ). slice_index_or (set vs x (with_side known n alone)) i no_vertex) same
          ∙ get_or-set_same vs x (with_side known n alone) no_vertex l in
          subst (IsKnown m (n.0 + 1) v) (sym value)
          (subst (λ (w : ℕ). IsKnown m (n.0 + 1) w (with_side known n alone)) (sym from) new)
    ]

-- What the code looks up of a vertex.
pub entry_known : (vs : List Vertex) {m : Net} {n count v : ℕ} {r : Vertex} → length vs ≡ count
    → ((v : ℕ) → v < count → IsKnown m n v (slice_index_or vs v no_vertex)) → v < length vs
    → r ≡ slice_index_or vs v r → IsKnown m n v r
entry_known vs {m} {n} {count} {v} {r} len known l is =
    subst (λ (k : Vertex). IsKnown m n v k) (sym (is ∙ get_or_default vs v r no_vertex l))
    (known v (omega (arith, len, l)))

-- What is known after all sides: the walk's start is one, or no face has the vertex.
module _ {m : Net} {v : ℕ} {known : Vertex} (all : IsKnown m (side_count m) v known) where
  pub start_is : (a : Side) → known.start ≡ Some a → (a.0 < side_count m) × (m.from a.0 ≡ v)
      × IsStart m a.0
  start_is a is =
      let (l, at, each) = subst (StartsSoFar m (side_count m) v) is all.start in (
        l,
        at,
        elim each [
          | inl none ↦ inl none
          | inr twinned ↦
              inr (λ g gl same. twinned g gl (same ∙ at))
        ],
      )

  pub degree_is : (a : Side) → known.start ≡ Some a → known.degree ≡ degree m (m.from a.0)
  degree_is a is = let (l, at, start) = start_is a is in all.degree ∙ ap (degree m) (sym at)

  pub unused_is : known.start ≡ None → IsFan m v
  unused_is is =
      unused_fan m v (λ u. let e = subst (StartsSoFar m (side_count m) v) is all.start in
      e u.0 u.1.is_side u.2)

-- A vertex past the points is a corner of no face.
pub past_fan : (m : Net) (n v : ℕ) → IsWhole m n → n ≤ v → IsFan m v
past_fan m n v whole l =
    unused_fan m v (λ u. let a = whole.within u.0 u.1.is_side in let b = u.2 in omega arith)
