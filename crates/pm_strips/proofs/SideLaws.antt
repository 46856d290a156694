-- What the code's answers say of the sides of kept faces.
use Rattle.std.proofs.Common.{◌≡◌, ℕ, ◌*◌, ◌<◌, Bool, true, false, List, length, get_or, Option}
use Rattle.std.proofs.Common.{Some, None, sym, ap, ◌∙◌, arith}
use Rattle.std.specs.Prelude.{IfSome}
use Rattle.std.proofs.lemmas.Bool.{cond-true}
use Rattle.std.proofs.lemmas.List.{get_or_default}
use Rattle.pm_base.specs.declared.ids.Side.{Side}
use Rattle.pm_base.specs.Sides.{face_of}
use Rattle.pm_forest.specs.Forest.{Hierarchy}
use Rattle.pm_base.specs.Counts.{set_of}
use Rattle.pm_forest.specs.Faces.{face_count}
use Rattle.pm_forest.specs.Rules.{HasShape}
use Rattle.pm_forest.proofs.FaceLimits.{face_count-most}
use Rattle.pm_beyond.specs.Walks.{StandsBeyond, number_of}
use Rattle.pm_beyond.specs.Valid.{IsValid}
use Rattle.pm_beyond.specs.Moves.{IsClosed}
use Rattle.pm_front.specs.State.{IsSoundFront}
use Rattle.pm_front.proofs.FrontLaws.{beyond_only}
use Rattle.pm_strips.specs.Strips.{free_beyond}
use Rattle.pm_strips.specs.Shown.{is_there, beyond_in}
use Rattle.pm_strips.proofs.ShownLaws.{there-parts, there_beyond}

pub side_low : (h : Hierarchy) (T : ℕ → Bool) (e : ℕ) → is_there h T (face_of e) ≡ true
    → e < 3 * face_count h
side_low h T e there = let p = there-parts h T (face_of e) there in omega (arith, p.0)

pub beyond_is : (h : Hierarchy) (flags : List Bool) → IsSoundFront h flags → (e : ℕ)
    → is_there h (set_of flags) (face_of e) ≡ true → (r : Option ℕ)
    → StandsBeyond h (set_of flags) e r → r ≡ beyond_in h (set_of flags) e
beyond_is h flags sound e there r stands =
    beyond_only h flags sound e (side_low h (set_of flags) e there)
    (there-parts h (set_of flags) (face_of e) there).1 r stands
    ∙ sym (cond-true (is_there h (set_of flags) (face_of e)) _ None there)

pub far_there : (h : Hierarchy) → IsValid h → (T : ℕ → Bool) → IsClosed h T
    → (e : ℕ) (r : Option Side) → number_of r ≡ beyond_in h T e
    → IfSome r (λ g. is_there h T (face_of g.0) ≡ true)
far_there h valid T closed e None is = tt
far_there h valid T closed e (Some g) is = there_beyond h valid T closed e g.0 (sym is)

-- What the search beyond a side found.
pub beyond_none : (beyond : ℕ → Option ℕ) (slice items : List Bool) (e : ℕ) (r : Option Side)
    → slice ≡ items → number_of r ≡ free_beyond beyond (set_of slice) e → r ≡ None
    → free_beyond beyond (set_of items) e ≡ None
beyond_none beyond slice items e r same value is =
    ap (λ (l : List Bool). free_beyond beyond (set_of l) e) (sym same) ∙ sym value ∙ ap number_of is

pub beyond_some : (beyond : ℕ → Option ℕ) (slice items : List Bool) (e : ℕ) (r : Option Side)
    (g : Side) → slice ≡ items → number_of r ≡ free_beyond beyond (set_of slice) e
    → r ≡ Some g → free_beyond beyond (set_of items) e ≡ Some g.0
beyond_some beyond slice items e r g same value is =
    ap (λ (l : List Bool). free_beyond beyond (set_of l) e) (sym same) ∙ sym value ∙ ap number_of is

-- What was read of a flag.
pub flag_read : (flags : List Bool) (i : ℕ) (x b : Bool) → i < length flags → x ≡ get_or flags i x
    → x ≡ b → set_of flags i ≡ b
flag_read flags i x b l is e = get_or_default flags i false x l ∙ sym is ∙ e

pub few_faces : (h : Hierarchy) → HasShape h → (T : ℕ → Bool) (f : ℕ) → is_there h T f ≡ true
    → f < 1048576
few_faces h shape T f there = let p =
    there-parts h T f there in omega (arith, p.0, face_count-most h shape)

pub few_sides : (h : Hierarchy) → HasShape h → (T : ℕ → Bool) (e : ℕ)
    → is_there h T (face_of e) ≡ true → e < 3145728
few_sides h shape T e there = let l = few_faces h shape T (face_of e) there in omega (arith, l)
