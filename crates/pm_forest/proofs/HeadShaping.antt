-- What a shaper keeps with each head that it takes in, and at its end.
use Rattle.std.proofs.Common.{◌≡◌, ℕ, ℤ, ◌+◌, ◌*◌, ◌<◌, ◌≤◌, eqb, ltb, Bool, true, false, not, ◌||◌}
use Rattle.std.proofs.Common.{List, [], ◌∷◌, ◌++◌, length, None, Some, inl, inr, refl, sym, ◌∙◌}
use Rattle.std.proofs.Common.{subst, arith, append_assoc}
use Rattle.std.proofs.lemmas.Bool.{cases_eq, eqb-false, ltb-false, ne_eqb, or_parts}
use Rattle.std.proofs.lemmas.Bool.Decides.{nat_tests}
use Rattle.std.proofs.lemmas.List.{append-nil, length_push, flat_map_more}
use Rattle.pm_base.specs.Place.{place_of}
use Rattle.pm_base.specs.Counts.{one_if}
use Rattle.pm_forest.specs.declared.parts.Counts.{Counts}
use Rattle.pm_forest.specs.declared.parts.Head.{Head}
use Rattle.pm_forest.specs.declared.parts.Record.{Record}
use Rattle.pm_forest.specs.Marks.{AreMarked}
use Rattle.pm_forest.specs.Forest.{Hierarchy}
use Rattle.pm_forest.specs.Faces.{faces_of}
use Rattle.pm_forest.specs.Rules.{root_inputs, child_inputs, node_inputs, presence_is_bad}
use Rattle.pm_forest.specs.Rules.{head_is_bad, head_fault, past_fault, with_record, head_with}
use Rattle.pm_forest.specs.Rules.{counts_of, HasShape}
use Rattle.pm_forest.specs.Tables.{Grown}
use Rattle.pm_forest.specs.Shaping.{started, SplitFits, IsShaping}
use Rattle.pm_forest.proofs.Prefix.{faces_of-with_record}
use Rattle.pm_forest.proofs.ShapingLaws.{leaves_complete}

-- A head more

three : (l : List ℤ) → length l ≡ 3 → (place_of l).x ∷ (place_of l).y ∷ (place_of l).z ∷ [] ≡ l
three [] len = absurd (omega arith)
three (x ∷ []) len = absurd (omega arith)
three (x ∷ y ∷ []) len = absurd (omega arith)
three (x ∷ y ∷ z ∷ []) len = refl
three (x ∷ y ∷ z ∷ w ∷ l) len = absurd (omega arith)

-- the presence word says which faces are due
presence_told : (p : ℕ) → presence_is_bad p ≡ false
    → one_if (not (eqb p 2)) + 2 * one_if (not (eqb p 1)) ≡ p
presence_told p fit =
    let tests = or_parts (eqb p 0) (ltb 3 p) fit in
    let some = eqb-false p 0 tests.0 in
    let most = ltb-false 3 p tests.1 in
    elim (cases_eq p 1) [
      | inl is ↦ (rw is refl)
      | inr not_one ↦ elim (cases_eq p 2) [
        | inl is ↦ (rw is refl)
        | inr not_two ↦ (let is : p ≡ 3 = omega arith in rw is refl)
      ]
    ]

-- and at least one is due
pub presence_some : (p : ℕ) → not (eqb p 2) || not (eqb p 1) ≡ true
presence_some p = elim (cases_eq p 2) [
  | inl is ↦ (rw is refl)
  | inr not_two ↦ (rw (ne_eqb p 2 not_two) refl)
]

head_told : (d : Head) → length d.t ≡ 3 → length d.u ≡ 3 → presence_is_bad d.presence ≡ false →
    head_with (started d).split (not (eqb d.presence 2)) (not (eqb d.presence 1)) ≡ d
head_told d t u fit = λ i. record {
  s = d.s;
  width = d.width;
  t = three d.t t i;
  t_input = d.t_input;
  u = three d.u u i;
  u_input = d.u_input;
  presence = presence_told d.presence fit i;
}

-- a head that has no fault has a presence word in range
presence_fits : (h : Hierarchy) (d : Head) → head_fault h d ≡ None
    → presence_is_bad d.presence ≡ false
unfolding head_fault head_is_bad
presence_fits h d fits = grind (arith, nat_tests)

pub nodes_with_record : (h : Hierarchy) (r : Record) → node_inputs (with_record h r) ≡ node_inputs h
    ++ r.t.input ∷ r.u.input ∷ []
nodes_with_record h r = sym (flat_map_more child_inputs (root_inputs h.roots) h.records r)

head_to : (c : Counts) (h : Hierarchy) (left right : Bool) (vertices vertices' faces : List Bool)
    (d : Head) →
    IsShaping (record { counts = c; h = h; coming = None }) left right vertices faces →
    c.roots ≤ length h.roots → c.bases ≤ length h.bases → length h.records < c.records →
    length d.t ≡ 3 → length d.u ≡ 3 → head_fault h d ≡ None → SplitFits h d.s d.width →
    AreMarked vertices' ((node_inputs h ++ d.t_input ∷ []) ++ d.u_input ∷ [])
    → length vertices' ≡ length vertices →
    IsShaping (record { counts = c; h = h; coming = Some (started d).split })
    (not (eqb d.presence 2)) (not (eqb d.presence 1)) vertices' faces
head_to c h left right vertices vertices' faces d s all_roots all_bases lt t u fits split marked
    flags =
    let r = (started d).split in
    record {
      counts_fit = s.counts_fit;
      roots_fit = s.roots_fit;
      bases_fit = s.bases_fit;
      records_fit = s.records_fit;
      coming_fits = record {
        head = subst (λ (e : Head). head_fault h e ≡ None)
            (sym (head_told d t u (presence_fits h d fits))) fits;
        split = split;
        left = refl;
        no_right = refl;
        no_left = λ due. refl;
        due = presence_some d.presence;
      };
      roots_most = s.roots_most;
      bases_most = s.bases_most;
      records_most = omega (arith, length_push h.records r);
      roots_first = λ some. omega (arith, s.roots_most);
      bases_next = λ some. omega (arith, s.bases_most);
      nodes_marked =
          rw (
            nodes_with_record h r,
            ← append_assoc (node_inputs h) (d.t_input ∷ [])
                (d.u_input ∷ []),
          ) marked;
      node_flags = flags ∙ s.node_flags;
      faces_marked = rw (faces_of-with_record h r, append-nil (faces_of h)) s.faces_marked;
      face_flags = s.face_flags;
    }

pub head_added : (g g' : Grown) (left right : Bool) (vertices vertices' faces : List Bool)
    (d : Head) →
    IsShaping g left right vertices faces → g.coming ≡ None →
    g.counts.roots ≤ length g.h.roots → g.counts.bases ≤ length g.h.bases
    → length g.h.records < g.counts.records →
    length d.t ≡ 3 → length d.u ≡ 3 → head_fault g.h d ≡ None → SplitFits g.h d.s d.width →
    g' ≡ record g { coming = Some (started d).split } →
    AreMarked vertices' ((node_inputs g.h ++ d.t_input ∷ []) ++ d.u_input ∷ [])
    → length vertices' ≡ length vertices →
    IsShaping g' (not (eqb d.presence 2)) (not (eqb d.presence 1)) vertices' faces
head_added g g' left right vertices vertices' faces d s none all_roots all_bases lt t u fits split
    is marked flags =
    rw is (head_to g.counts g.h left right vertices vertices' faces d (rw (← none) s) all_roots
    all_bases lt t u fits split marked flags)

-- The end

same_counts : (a b : Counts) → a.leaves ≡ b.leaves → a.roots ≡ b.roots → a.bases ≡ b.bases
    → a.records ≡ b.records → a ≡ b
same_counts a b leaves roots bases records = λ i. record {
  leaves = leaves i;
  roots = roots i;
  bases = bases i;
  records = records i;
}

pub counts_complete : (g : Grown) (left right : Bool) (vertices faces : List Bool) →
    IsShaping g left right vertices faces → g.coming ≡ None →
    g.counts.roots ≤ length g.h.roots → g.counts.bases ≤ length g.h.bases
    → g.counts.records ≤ length g.h.records →
    counts_of g.h ≡ g.counts
counts_complete g left right vertices faces s none roots bases records =
    let most : length g.h.records ≤ g.counts.records = rw none at s.records_most in
    same_counts (counts_of g.h) g.counts
    (leaves_complete g left right vertices faces s roots) (omega (arith, s.roots_most))
    (omega (arith, s.bases_most)) (omega arith)

pub shaped : (g : Grown) (left right : Bool) (vertices faces : List Bool)
    → IsShaping g left right vertices faces →
    counts_of g.h ≡ g.counts → past_fault g.h ≡ None → HasShape g.h
shaped g left right vertices faces s same past = record {
  counts = rw same s.counts_fit;
  roots = rw same s.roots_fit;
  bases = s.bases_fit;
  records = s.records_fit;
  inputs = past;
}
