-- No bytes of a text want memory: only a shaper does, when it starts.
use Rattle.std.proofs.Common.{◌≡◌, ℕ, zero, suc, ◌+◌, ◌-◌, Bool, true, false, cond, eqb, ltb, arith}
use Rattle.std.proofs.lemmas.Grind.{common_steps}
use Rattle.std.proofs.Common.{◌||◌, List, [], ◌∷◌, ◌++◌, length, Option, Some, None, Result, Ok}
use Rattle.std.proofs.Common.{Err, refl, subst}
use Rattle.std.specs.Prelude.{nat_lt}
use Rattle.pm_forest.specs.declared.parts.Record.{Record}
use Rattle.pm_forest.specs.Forest.{record_count}
use Rattle.pm_forest.specs.Faces.{faces_of, face_count}
use Rattle.pm_forest.specs.declared.parts.Counts.{Counts}
use Rattle.pm_forest.specs.declared.parts.Root.{Root}
use Rattle.pm_forest.specs.declared.parts.Face.{Face}
use Rattle.pm_forest.specs.declared.parts.Head.{Head}
use Rattle.pm_forest.specs.declared.parts.Shape.{Shape}
use Rattle.pm_forest.specs.declared.parts.Shape.TheVariants as shapes
use Rattle.pm_forest.specs.declared.parts.Unfinished.{Unfinished}
use Rattle.pm_forest.specs.Forest.{Hierarchy}
use Rattle.pm_forest.specs.Rules.{face_inputs}
use Rattle.pm_forest.specs.Rules.{face_input_is_bad, root_fault, base_is_bad}
use Rattle.pm_forest.specs.Rules.{base_fault, head_is_bad, head_fault}
use Rattle.pm_forest.specs.Rules.{children_fault, new_face_fault, field_of}
use Rattle.pm_forest.specs.Rules.{past_from, past_fault, with_record}
use Rattle.pm_forest.specs.Shaping.{Shaping, started}
use Rattle.pm_format.specs.declared.fault.FormatError.{FormatError}
use Rattle.pm_format.specs.declared.fault.FormatError.TheVariants as faults
use Rattle.pm_format.specs.declared.stage.Stage.{Stage}
use Rattle.pm_format.specs.declared.stage.Stage.TheVariants as stages
use Rattle.pm_format.specs.declared.stop.Stop.{Stop}
use Rattle.pm_format.specs.declared.stop.Stop.TheVariants as stops
use Rattle.pm_format.specs.Words.{words_of}
use Rattle.pm_format.specs.Reading.{then_read, whole, judged, fitting, root_at, base_at, head_at}
use Rattle.pm_format.specs.Reading.{counts_at, units_at, root_after}
use Rattle.pm_format.specs.Reading.{base_after, face_after, face_if, faces_after, record_after}
use Rattle.pm_format.specs.Reading.{record_after_all, told_digits, digits_at, header_at}
use Rattle.pm_format.specs.Faults.{named}
use Rattle.pm_format.specs.Standing.{stage_of}
use Rattle.pm_format.specs.Decoding.{all_after, on_from, ReadingStopsAt}

-- A fault of shape that isn't want of memory.
abbrev is_rule : Option Shape → Bool
is_rule None = true
is_rule (Some shapes.BadCount) = true
is_rule (Some (shapes.BadRoot i)) = true
is_rule (Some (shapes.BadFace i)) = true
is_rule (Some (shapes.BadRecord i)) = true
is_rule (Some (shapes.BadInput i)) = true
is_rule (Some shapes.OutOfMemory) = false

abbrev is_told : Stop → Bool
is_told (stops.Version v) = true
is_told (stops.Digits d) = true
is_told stops.End = true
is_told (stops.Fault f) = is_rule (Some f)

-- Reading goes well, or stops for a reason that the words tell.
abbrev reads_or_told : {A : Type 0} → Result A Stop → Bool
reads_or_told (Ok x) = true
reads_or_told (Err stop) = is_told stop

-- Rules of shape

either : (test : Bool) (a b : Option Shape) → is_rule a ≡ true → is_rule b ≡ true
    → is_rule (cond test a b) ≡ true
either true a b first second = first
either false a b first second = second

two_rules : (s t : Bool) (a b : Shape) → is_rule (Some a) ≡ true → is_rule (Some b) ≡ true
    → is_rule (cond s (Some a) (cond t (Some b) None)) ≡ true
two_rules true t a b first second = first
two_rules false true a b first second = second
two_rules false false a b first second = refl

root_rule : (c : Counts) (before : List Root) (r : Root) → is_rule (root_fault c before r) ≡ true
unfolding root_fault
root_rule c before r = grind (arith, common_steps, either, two_rules)

base_rule : (roots : List Root) (before : List Face) (f : Face)
    → is_rule (base_fault roots before f) ≡ true
unfolding base_fault
base_rule roots before f =
    two_rules (base_is_bad roots f) (face_input_is_bad (face_inputs before) f.input)
    (shapes.BadFace (length before)) (shapes.BadInput (length roots + length before)) refl refl

children_rule : (h : Hierarchy) (d : Head) → is_rule (children_fault h d) ≡ true
unfolding children_fault
children_rule h d = grind (arith, common_steps, two_rules)

head_rule : (h : Hierarchy) (d : Head) → is_rule (head_fault h d) ≡ true
unfolding head_fault
head_rule h d =
    either (head_is_bad h d) (Some (shapes.BadRecord (record_count h))) (children_fault h d) refl
    (children_rule h d)

new_face_rule : (h : Hierarchy) (left : Bool) (f : Face) (first second : ℕ)
    → is_rule (new_face_fault h left f first second) ≡ true
unfolding new_face_fault
new_face_rule h left f first second = grind (arith, common_steps, two_rules)

past_rule_from : (h : Hierarchy) (f : ℕ) (faces : List Face) → is_rule (past_from h f faces) ≡ true
past_rule_from h f [] = refl
past_rule_from h f (x ∷ xs) =
    either (nat_lt (face_count h) x.input) (Some (shapes.BadInput (field_of h f)))
    (past_from h (f + 1) xs) refl (past_rule_from h (f + 1) xs)

past_rule : (h : Hierarchy) → is_rule (past_fault h) ≡ true
unfolding past_fault
past_rule h = past_rule_from h 0 (faces_of h)

-- Reading

then_told : {A B : Type 0} (next : A → Result B Stop) (r : Result A Stop) → reads_or_told r ≡ true
    → ((x : A) → reads_or_told (next x) ≡ true) → reads_or_told (then_read next r) ≡ true
then_told next (Ok x) first second = second x
then_told next (Err stop) first second = first

judged_told : {A : Type 0} (fault : Option Shape) (x : A) → is_rule fault ≡ true
    → reads_or_told (judged fault x) ≡ true
judged_told None x rule = refl
judged_told (Some f) x rule = rule

whole_told : {A : Type 0} (unit : Option A) → reads_or_told (whole unit) ≡ true
whole_told None = refl
whole_told (Some x) = refl

fitting_told : {X : Type 0} (fault : X → Option Shape) (unit : Option (X × List ℕ))
    → ((x : X) → is_rule (fault x) ≡ true) → reads_or_told (fitting fault unit) ≡ true
fitting_told fault unit rule =
    then_told (λ u. judged (fault u.0) u) (whole unit) (whole_told unit)
    (λ u. judged_told (fault u.0) u (rule u.0))

units_told : {X : Type 0} (read : List X → List ℕ → Result (X × List ℕ) Stop)
    → ((before : List X) (ws : List ℕ) → reads_or_told (read before ws) ≡ true)
    → (n : ℕ) (before : List X) (ws : List ℕ) → reads_or_told (units_at read n before ws) ≡ true
unfolding units_at
units_told read each zero before ws = refl
units_told read each (suc n) before ws =
    then_told (λ u. units_at read n (before ++ u.0 ∷ []) u.1) (read before ws) (each before ws)
    (λ u. units_told read each n (before ++ u.0 ∷ []) u.1)

face_told : (h : Hierarchy) (p : Unfinished) (ws : List ℕ) → reads_or_told (face_after h p ws)
    ≡ true
unfolding face_after
face_told h p ws = grind (arith, common_steps, fitting_told, new_face_rule, then_told)

face_if_told : (due : Bool) (h : Hierarchy) (p : Unfinished) (ws : List ℕ)
    → reads_or_told (face_if due h p ws) ≡ true
face_if_told true h p ws = face_told h p ws
face_if_told false h p ws = refl

faces_told : (h : Hierarchy) (p : Unfinished) (ws : List ℕ) → reads_or_told (faces_after h p ws)
    ≡ true
unfolding faces_after
faces_told h p ws =
    then_told (λ q. face_if q.0.right_due h q.0 q.1) (face_if p.left_due h p ws)
    (face_if_told p.left_due h p ws) (λ q. face_if_told q.0.right_due h q.0 q.1)

record_told : (h : Hierarchy) (ws : List ℕ) → reads_or_told (record_after h ws) ≡ true
unfolding record_after
record_told h ws =
    let give : Unfinished × List ℕ → Result (Record × List ℕ) Stop = λ p. Ok (p.0.split, p.1) in
    then_told (λ d. then_read give (faces_after h (started d.0) d.1))
    (fitting (head_fault h) (head_at ws))
    (fitting_told (head_fault h) (head_at ws) (head_rule h))
    (λ d. then_told give (faces_after h (started d.0) d.1) (faces_told h (started d.0) d.1)
    (λ p. refl))

all_told : (c : Counts) (h : Hierarchy) (ws : List ℕ) → reads_or_told (all_after c h ws) ≡ true
unfolding all_after
all_told c h ws =
    then_told after_roots (units_at (root_after c) (c.roots - length h.roots) h.roots ws)
    (units_told (root_after c)
    (λ before vs. fitting_told (root_fault c before) (root_at vs) (root_rule c before))
    (c.roots - length h.roots) h.roots ws) (λ r.
    then_told (after_bases r) (units_at (base_after r.0) (c.bases - length h.bases) h.bases r.1)
    (units_told (base_after r.0)
    (λ before vs. fitting_told (base_fault r.0 before) (base_at vs) (base_rule r.0 before))
    (c.bases - length h.bases) h.bases r.1) (λ b.
    then_told (after_records r b)
    (units_at (record_after_all r.0 b.0) (c.records - length h.records) h.records b.1)
    (units_told (record_after_all r.0 b.0)
    (λ before vs. record_told (record { roots = r.0; bases = b.0; records = before }) vs)
    (c.records - length h.records) h.records b.1) (λ n.
    judged_told (past_fault (record { roots = r.0; bases = b.0; records = n.0 }))
    (record { roots = r.0; bases = b.0; records = n.0 }, n.1)
    (past_rule (record { roots = r.0; bases = b.0; records = n.0 })))))
  where
    after_records : List Root × List ℕ → List Face × List ℕ → List Record × List ℕ
        → Result (Hierarchy × List ℕ) Stop
    after_records r b n = let g : Hierarchy = record { roots = r.0; bases = b.0; records = n.0 } in
        judged (past_fault g) (g, n.1)

    after_bases : List Root × List ℕ → List Face × List ℕ → Result (Hierarchy × List ℕ) Stop
    after_bases r b =
        then_read (after_records r b)
        (units_at (record_after_all r.0 b.0) (c.records - length h.records) h.records b.1)

    after_roots : List Root × List ℕ → Result (Hierarchy × List ℕ) Stop
    after_roots r =
        then_read (after_bases r) (units_at (base_after r.0) (c.bases - length h.bases) h.bases r.1)

rest_told : (c : Counts) (h : Hierarchy) (coming : Option Unfinished) (ws : List ℕ)
    → reads_or_told (on_from c h coming ws) ≡ true
rest_told c h None ws = all_told c h ws
rest_told c h (Some p) ws =
    then_told (λ q. all_after c (with_record h q.0.split) q.1) (faces_after h p ws)
    (faces_told h p ws) (λ q. all_told c (with_record h q.0.split) q.1)

digits_told : (ws : List ℕ) → reads_or_told (digits_at ws) ≡ true
unfolding digits_at
digits_told [] = refl
digits_told (magic ∷ []) = refl
digits_told (magic ∷ version ∷ ws) = go (eqb version 1) (eqb version 2) ws
  where
    known : (bad : Bool) (d : ℕ) (ws : List ℕ)
        → reads_or_told
        (cond {A = Result (ℕ × List ℕ) Stop} bad (Err (stops.Digits d)) (Ok (d, ws))) ≡ true
    known true d ws = refl
    known false d ws = refl

    told : (ws : List ℕ) → reads_or_told (told_digits ws) ≡ true
    told [] = refl
    told (d ∷ ws) = known (eqb d 0 || ltb 4 d) d ws

    go : (first second : Bool) (ws : List ℕ)
        → reads_or_told
        (cond {A = Result (ℕ × List ℕ) Stop} first (Ok (0, ws))
        (cond second (told_digits ws) (Err (stops.Version version)))) ≡ true
    go true second ws = refl
    go false true ws = told ws
    go false false ws = refl

header_told : (ws : List ℕ) → reads_or_told (header_at ws) ≡ true
unfolding header_at
header_told ws =
    then_told (λ (d : ℕ × List ℕ). whole (counts_at d.1)) (digits_at ws) (digits_told ws)
    (λ d. whole_told (counts_at d.1))

-- Answers

rule_no_memory : (n : ℕ) (f : Shape) → is_rule (Some f) ≡ true
    → named n (stops.Fault f) ≡ faults.OutOfMemory → ⊥
rule_no_memory n shapes.BadCount rule is = absurd cc
rule_no_memory n (shapes.BadRoot i) rule is = absurd cc
rule_no_memory n (shapes.BadFace i) rule is = absurd cc
rule_no_memory n (shapes.BadRecord i) rule is = absurd cc
rule_no_memory n (shapes.BadInput i) rule is = absurd cc
rule_no_memory n shapes.OutOfMemory rule is = absurd cc

told_no_memory : (n : ℕ) (e : Stop) → is_told e ≡ true → named n e ≡ faults.OutOfMemory → ⊥
told_no_memory n (stops.Version v) told is = absurd cc
told_no_memory n (stops.Digits d) told is = absurd cc
told_no_memory n (stops.Fault f) told is = rule_no_memory n f told is
told_no_memory n stops.End told is = absurd cc

pub same_refusal : (e f : FormatError) → ◌≡◌ {A = Stage} (stages.Refused e) (stages.Refused f)
    → e ≡ f
same_refusal e f is = cc

-- A header at which reading stops wants no memory,
pub header_no_memory : (ws : List ℕ) (e : Stop) → header_at ws ≡ Err e
    → ◌≡◌ {A = Stage} (stage_of e) (stages.Refused faults.OutOfMemory) → ⊥
header_no_memory ws e at = go e (subst (λ r. reads_or_told r ≡ true) at (header_told ws))
  where
    go : (e : Stop) → is_told e ≡ true
        → ◌≡◌ {A = Stage} (stage_of e) (stages.Refused faults.OutOfMemory) → ⊥
    go stops.End told is = absurd cc
    go (stops.Version v) told is = absurd cc
    go (stops.Digits d) told is = absurd cc
    go (stops.Fault f) told is =
        rule_no_memory 0 f told (same_refusal (named 0 (stops.Fault f)) faults.OutOfMemory is)

-- nor a unit,
pub unit_no_memory : (s : Shaping) (bytes : List ℕ) (n : ℕ) (e : Stop) → ReadingStopsAt s bytes e
    → named n e ≡ faults.OutOfMemory → ⊥
unit_no_memory s bytes n e stops_at is =
    told_no_memory n e
    (subst (λ r. reads_or_told r ≡ true) (stops_at.off [])
    (rest_told s.counts s.h s.coming (words_of (bytes ++ [])))) is

-- nor the check after the last one.
pub past_no_memory : (h : Hierarchy) (n : ℕ) (f : Shape) → past_fault h ≡ Some f
    → named n (stops.Fault f) ≡ faults.OutOfMemory → ⊥
past_no_memory h n f fault is =
    rule_no_memory n f (subst (λ o. is_rule o ≡ true) fault (past_rule h)) is
