-- What a shaper expects, and what taking a unit in leaves.
use Rattle.std.proofs.Common.{◌≡◌, ◌⊎◌, ℕ, ◌+◌, ◌-◌, ◌*◌, ◌<◌, ◌≤◌, Bool, true, false, cond, ◌||◌}
use Rattle.std.proofs.lemmas.Grind.{common_steps}
use Rattle.std.proofs.Common.{not, eqb, List, [], ◌∷◌, ◌++◌, Option, Some, None, IfSome, Result, Ok}
use Rattle.std.proofs.Common.{Err, MatchResult, OnOk, IfErr, length, inl, inr, refl, ◌∙◌, ap}
use Rattle.std.proofs.Common.{subst, arith, length-append}
use Rattle.std.proofs.lemmas.Bool.{lt-ltb, le-ltb}
use Rattle.pm_base.specs.Counts.{one_if}
use Rattle.pm_base.proofs.Counts.{one_if-le}
use Rattle.pm_forest.specs.declared.parts.Counts.{Counts}
use Rattle.pm_forest.specs.declared.parts.Unfinished.{Unfinished}
use Rattle.pm_forest.specs.declared.parts.UnitKind.{UnitKind}
use Rattle.pm_forest.specs.declared.parts.UnitKind.TheVariants as kinds
use Rattle.pm_forest.specs.Forest.{Hierarchy}
use Rattle.pm_forest.specs.Rules.{root_fault, base_fault, head_fault, new_face_fault, with_record}
use Rattle.pm_forest.specs.Shaping.{Shaping, expects, expects_after, settled, with_face, next_face}
use Rattle.pm_forest.proofs.HeadShaping.{presence_some}
use Rattle.pm_format.specs.declared.stop.Stop.{Stop}
use Rattle.pm_format.specs.declared.stop.Stop.TheVariants as stops
use Rattle.pm_format.specs.Words.{words_of}
use Rattle.pm_format.specs.Reading.{read_map, fitting, root_at, base_at, head_at}
use Rattle.pm_format.specs.Reading.{new_face_at, FaceUnit, root_after, base_after, face_after}
use Rattle.pm_format.specs.Reading.{took_root, took_base, took_face}
use Rattle.pm_format.specs.Decoding.{rest_from, HasBases, IsWaiting, due_bytes, begun_count}
use Rattle.pm_format.specs.Decoding.{bytes_to_come, took_head, TakenIn, ReadingStopsAt}
use Rattle.pm_format.proofs.ReadingLaws.{read_map_ok}
use Rattle.pm_format.proofs.FaceSteps.{face_in, after_left, after_right}
use Rattle.pm_format.proofs.OnLaws.{root_on, root_off, base_on, base_off, head_on, head_off}
use Rattle.pm_format.proofs.OnLaws.{face_on, face_off}
use Rattle.pm_format.proofs.UnitLaws.{JudgedAlone, alone, base_has, head_has, new_face_has}
use Rattle.pm_format.proofs.UnitLaws.{root_has}

-- What comes next

abbrev pub Expected : UnitKind → Counts → Hierarchy → Option Unfinished → Type 0
Expected kinds.Root c h coming = (coming ≡ None) × (length h.roots < c.roots)
Expected kinds.Base c h coming =
    (coming ≡ None) × (c.roots ≤ length h.roots) × (length h.bases < c.bases)
Expected kinds.Head c h coming =
    (coming ≡ None) × (c.roots ≤ length h.roots) × (c.bases ≤ length h.bases)
    × (length h.records < c.records)
Expected kinds.LeftFace c h coming = (p : Unfinished) × (coming ≡ Some p) × (p.left_due ≡ true)
Expected kinds.RightFace c h coming = (p : Unfinished) × (coming ≡ Some p) × (p.left_due ≡ false)
Expected kinds.Nothing c h coming =
    (coming ≡ None) × (c.roots ≤ length h.roots) × (c.bases ≤ length h.bases)
    × (c.records ≤ length h.records)

expected_face : (c : Counts) (h : Hierarchy) (p : Unfinished) (left : Bool) → p.left_due ≡ left
    → Expected (cond left kinds.LeftFace kinds.RightFace) c h (Some p)
expected_face c h p true is = (p, refl, is)
expected_face c h p false is = (p, refl, is)

expected_of : (c : Counts) (h : Hierarchy) (coming : Option Unfinished)
    → Expected (expects_after c h coming) c h coming
expected_of c h (Some p) = expected_face c h p p.left_due refl
expected_of c h None = grind (arith, common_steps, le-ltb, lt-ltb)

pub expected : (s : Shaping) (k : UnitKind) → expects s ≡ k → Expected k s.counts s.h s.coming
expected s k is =
    subst (λ q. Expected q s.counts s.h s.coming) is (expected_of s.counts s.h s.coming)

-- Each kind of unit, as a shaper takes it in

read_map_err : {A B : Type 0} (make : A → B) (r : Result A Stop) (e : Stop)
    → read_map make r ≡ Err e → r ≡ Err e
read_map_err make (Ok x) e is = absurd cc
read_map_err make (Err f) e is = ap (λ v. Err v) (ap (stop_in f) is)
  where
    stop_in : {B : Type 0} → Stop → Result B Stop → Stop
    stop_in d (Ok x) = d
    stop_in d (Err g) = g

-- What taking a unit in leaves, by its answer.
abbrev pub Took : Shaping → List ℕ → Result (Unit {0}) Stop → Shaping → Type 0
Took s unit r t = OnOk r (TakenIn s unit t) × IfErr r (ReadingStopsAt s unit)

-- A unit taken in where reading it alone, and what is read after it, are told.
module _ {X : Type 0} (s : Shaping) (unit ws : List ℕ) (words : ws ≡ words_of unit)
    (make : X → Shaping) (read : List ℕ → Result (X × List ℕ) Stop)
    (judged : JudgedAlone (read (words_of unit)) (λ more. read (words_of (unit ++ more))))
    (on : (v : List ℕ) (u : X × List ℕ) → read v ≡ Ok u
    → rest_from s v ≡ rest_from (make u.0) u.1)
    (off : (v : List ℕ) (e : Stop) → read v ≡ Err e → rest_from s v ≡ Err e)
    (fits : (u : X × List ℕ) → read (words_of unit) ≡ Ok u
    → IsWaiting (make u.0) × (bytes_to_come (make u.0) + length unit ≤ bytes_to_come s)) where
  abbrev taken : X × List ℕ → Shaping × List ℕ
  taken u = (make u.0, u.1)

  took_alone : (t : Shaping) (rest : List ℕ) (r : Result (Unit {0}) Stop)
      → MatchResult r (λ _. read_map taken (read (words_of unit)) ≡ Ok (t, rest))
      (λ e. read (words_of unit) ≡ Err e) → Took s unit r t
  took_alone t rest (Ok done) is =
      let (u, was, took) = read_map_ok taken (read (words_of unit)) (t, rest) is in
      let same : make u.0 ≡ t = ap (λ (v : Shaping × List ℕ). v.0) took in
      let (waits, less) = fits u was in (
        subst (λ v. TakenIn s unit v) same (record {
          on = λ more. on (words_of (unit ++ more)) (u.0, words_of more) (judged.on u was more);
          waits = waits;
          less = less;
        }),
        tt,
      )
  took_alone t rest (Err e) stop = (
    tt,
    record {
      off = λ more. off (words_of (unit ++ more)) e (judged.off e stop more);
      judged = λ is. judged.ends (stop ∙ ap (λ v. Err v) is);
    },
  )

  took_unit : (t : Shaping) (rest : List ℕ) (r : Result (Unit {0}) Stop)
      → MatchResult r (λ _. read_map taken (read ws) ≡ Ok (t, rest))
      (λ e. read ws ≡ Err e) → Took s unit r t
  took_unit t rest r is =
      took_alone t rest r (subst (λ v. MatchResult r
      (λ _. read_map taken (read v) ≡ Ok (t, rest)) (λ e. read v ≡ Err e)) words is)

pub root_took : (s t : Shaping) (unit ws rest : List ℕ) (r : Result (Unit {0}) Stop)
    → expects s ≡ kinds.Root → length unit ≡ 20 → ws ≡ words_of unit
    → MatchResult r (λ _. read_map (took_root s) (root_after s.counts s.h.roots ws) ≡ Ok (t, rest))
    (λ e. root_after s.counts s.h.roots ws ≡ Err e) → Took s unit r t
root_took s t unit ws rest r next size is read =
    let e = expected s kinds.Root next in
    took_unit s unit ws is (λ x. (took_root s (x, [])).0) (root_after s.counts s.h.roots)
    (alone 5 root_at (root_fault s.counts s.h.roots) unit root_has size)
    (λ v u was. rw e.0 (root_on s.counts s.h v u e.1 was))
    (λ v stop was. rw e.0 (root_off s.counts s.h v stop e.1 was))
    (λ u was. (rw e.0 tt, omega (arith, e.1, length-append s.h.roots (u.0 ∷ []), size)))
    t rest r read

pub base_took : (s t : Shaping) (unit ws rest : List ℕ) (r : Result (Unit {0}) Stop)
    → expects s ≡ kinds.Base → length unit ≡ 16 → ws ≡ words_of unit
    → MatchResult r (λ _. read_map (took_base s) (base_after s.h.roots s.h.bases ws) ≡ Ok (t, rest))
    (λ e. base_after s.h.roots s.h.bases ws ≡ Err e) → Took s unit r t
base_took s t unit ws rest r next size is read =
    let e = expected s kinds.Base next in
    took_unit s unit ws is (λ x. (took_base s (x, [])).0) (base_after s.h.roots s.h.bases)
    (alone 4 base_at (base_fault s.h.roots s.h.bases) unit base_has size)
    (λ v u was. rw e.0 (base_on s.counts s.h v u e.1 e.2 was))
    (λ v stop was. rw e.0 (base_off s.counts s.h v stop e.1 e.2 was))
    (λ u was. (rw e.0 tt, omega (arith, e.2, length-append s.h.bases (u.0 ∷ []), size)))
    t rest r read

pub head_took : (s t : Shaping) (unit ws rest : List ℕ) (r : Result (Unit {0}) Stop)
    → expects s ≡ kinds.Head → length unit ≡ 44 → ws ≡ words_of unit
    → MatchResult r (λ _. read_map (took_head s) (fitting (head_fault s.h) (head_at ws))
    ≡ Ok (t, rest)) (λ e. fitting (head_fault s.h) (head_at ws) ≡ Err e) → Took s unit r t
head_took s t unit ws rest r next size is read =
    let e = expected s kinds.Head next in
    took_unit s unit ws is (λ x. (took_head s (x, [])).0)
    (λ v. fitting (head_fault s.h) (head_at v))
    (alone 11 head_at (head_fault s.h) unit head_has size)
    (λ v u was. rw e.0 (head_on s.counts s.h v u e.1 e.2 e.3 was))
    (λ v stop was. rw e.0 (head_off s.counts s.h v stop e.1 e.2 e.3 was))
    (λ u was.
    let left = one_if-le (not (eqb u.0.presence 2)) in
    let right = one_if-le (not (eqb u.0.presence 1)) in (
      (presence_some u.0.presence, record { roots = e.1; bases = e.2 }),
      omega (arith, e.3, ap due_bytes e.0, ap begun_count e.0, left, right, size),
    ))
    t rest r read

face_found : (more : List ℕ) (make : FaceUnit × List ℕ → Unfinished × List ℕ)
    (r longer : Result (FaceUnit × List ℕ) Stop) (q : Unfinished × List ℕ) → read_map make r ≡ Ok q
    → ((u : FaceUnit × List ℕ) → r ≡ Ok u → longer ≡ Ok (u.0, words_of more))
    → ((u : FaceUnit × List ℕ) → make (u.0, words_of more) ≡ ((make u).0, words_of more))
    → read_map make longer ≡ Ok (q.0, words_of more)
face_found more make r longer q is on keeps = grind (arith, common_steps, read_map_ok)

face_alone : (h : Hierarchy) (p : Unfinished) (unit : List ℕ) → length unit ≡ 24
    → JudgedAlone (face_after h p (words_of unit))
    (λ more. face_after h p (words_of (unit ++ more)))
unfolding face_after
face_alone h p unit size =
    let fault = λ (f : FaceUnit). new_face_fault (with_record h p.split) p.left_due f.face f.first
    f.second in
    let make : FaceUnit × List ℕ → Unfinished × List ℕ =
    λ f. (with_face p (next_face f.0.face f.0.first f.0.second), f.1) in
    let a = alone 6 new_face_at fault unit new_face_has size in
    record {
      on = λ q is more. face_found more make (fitting fault (new_face_at (words_of unit)))
          (fitting fault (new_face_at (words_of (unit ++ more)))) q is (λ u was. a.on u was more)
          (λ u. refl);
      off = λ e is more. ap (read_map make)
          (a.off e (read_map_err make (fitting fault (new_face_at (words_of unit))) e is) more);
      ends = λ is. a.ends (read_map_err make (fitting fault (new_face_at (words_of unit))) stops.End
          is);
    }

-- a shaper waits where something is due
settled_waits : (c : Counts) (h : Hierarchy) (q : Unfinished) (due : Bool)
    → q.left_due || q.right_due ≡ due → HasBases c h → IsWaiting (settled c h q)
settled_waits c h q true is full = rw is (is, full)
settled_waits c h q false is full = rw is tt

settled_less : (c : Counts) (h : Hierarchy) (q : Unfinished) (due : Bool)
    → q.left_due || q.right_due ≡ due
    → bytes_to_come (settled c h q) ≤ 20 * (c.roots - length h.roots) + 16
    * (c.bases - length h.bases) + 92 * (c.records - (length h.records + 1))
    + (24 * one_if q.left_due + 24 * one_if q.right_due)
settled_less c h q true is = rw is (omega arith)
settled_less c h q false is = rw is (omega (arith, length-append h.records (q.split ∷ [])))

-- one face less is due
face_less : (h : Hierarchy) (p : Unfinished) (ws : List ℕ) (q : Unfinished × List ℕ)
    (left right : Bool) → p.left_due ≡ left → p.right_due ≡ right → left || right ≡ true
    → face_after h p ws ≡ Ok q
    → (24 * one_if q.0.left_due + 24 * one_if q.0.right_due) + 24 ≤ 24 * one_if
    p.left_due + 24 * one_if p.right_due
face_less h p ws q true right is_left is_right due is =
    let stage = after_left p q.0 (face_in h p ws q is) is_left in
    omega (arith, ap one_if stage.0, ap one_if stage.1, ap one_if is_left)
face_less h p ws q false true is_left is_right due is =
    let stage = after_right p q.0 (face_in h p ws q is) is_left in
    omega (arith, ap one_if stage.0, ap one_if stage.1, ap one_if is_left, ap one_if is_right)
face_less h p ws q false false is_left is_right due is = absurd cc

face_took_of : (s t : Shaping) (p : Unfinished) (unit ws rest : List ℕ)
    (r : Result (Unit {0}) Stop) → ws ≡ words_of unit
    → s.coming ≡ Some p → p.left_due || p.right_due ≡ true → HasBases s.counts s.h
    → length unit ≡ 24
    → MatchResult r (λ _. read_map (took_face s) (face_after s.h p ws) ≡ Ok (t, rest))
    (λ e. face_after s.h p ws ≡ Err e) → Took s unit r t
face_took_of s t p unit ws rest r is coming due full size read =
    took_unit s unit ws is (λ x. (took_face s (x, [])).0) (face_after s.h p)
    (face_alone s.h p unit size)
    (λ v u was. rw coming (face_on s.counts s.h p v u due was))
    (λ v stop was. rw coming (face_off s.counts s.h p v stop due was))
    (λ u was.
    let less = settled_less s.counts s.h u.0 (u.0.left_due || u.0.right_due) refl in
    let one = face_less s.h p (words_of unit) u p.left_due p.right_due refl refl due was in (
      settled_waits s.counts s.h u.0 (u.0.left_due || u.0.right_due) refl full,
      omega (arith, less, one, ap due_bytes coming, ap begun_count coming, size),
    ))
    t rest r read

-- a face comes where a record is begun
pub face_coming : (s : Shaping) → (expects s ≡ kinds.LeftFace) ⊎ (expects s ≡ kinds.RightFace)
    → s.coming ≡ None → ⊥
face_coming s (inl left) none = let e = expected s kinds.LeftFace left in absurd (cc (e.1, none))
face_coming s (inr right) none = let e = expected s kinds.RightFace right in absurd (cc (e.1, none))

face_took_at : (s t : Shaping) (unit ws rest : List ℕ) (r : Result (Unit {0}) Stop)
    (coming : Option Unfinished) → s.coming ≡ coming → (coming ≡ None → ⊥)
    → IfSome coming (λ p. (p.left_due || p.right_due ≡ true) × HasBases s.counts s.h)
    → length unit ≡ 24 → ws ≡ words_of unit
    → IfSome coming
    (λ p. MatchResult r (λ _. read_map (took_face s) (face_after s.h p ws) ≡ Ok (t, rest))
    (λ e. face_after s.h p ws ≡ Err e)) → Took s unit r t
face_took_at s t unit ws rest r None coming some waits size is read = absurd (some refl)
face_took_at s t unit ws rest r (Some p) coming some waits size is read =
    face_took_of s t p unit ws rest r is coming waits.0 waits.1 size read

pub face_took : (s t : Shaping) (unit ws rest : List ℕ) (r : Result (Unit {0}) Stop)
    → (expects s ≡ kinds.LeftFace) ⊎ (expects s ≡ kinds.RightFace) → IsWaiting s → length unit ≡ 24
    → ws ≡ words_of unit
    → IfSome s.coming
    (λ p. MatchResult r (λ _. read_map (took_face s) (face_after s.h p ws) ≡ Ok (t, rest))
    (λ e. face_after s.h p ws ≡ Err e)) → Took s unit r t
face_took s t unit ws rest r next waits size is read =
    face_took_at s t unit ws rest r s.coming refl (face_coming s next) waits size is read
