-- Turned faces: their corners, other numbers of these, and that none was turned where all are as
-- they were.
use Rattle.std.proofs.Common.{◌≡◌, ℕ, ◌+◌, ◌*◌, ◌==◌, Bool, true, false, ◌||◌, refl, sym, ap, ◌∙◌}
use Rattle.std.proofs.lemmas.Grind.{common_steps}
use Rattle.std.proofs.Common.{subst, List, [], ◌∷◌, length, map, arith}
use Rattle.std.specs.List.{All}
use Rattle.std.proofs.lemmas.List.Elements.{All-nil, All-cons, All-head, All-tail}
use Rattle.pm_base.specs.declared.mesh.Corners.{Corners}
use Rattle.pm_base.specs.Sides.{net_of}
use Rattle.pm_base.specs.Counts.{count}
use Rattle.pm_base.proofs.NetLaws.{face_at, second_side}
use Rattle.pm_fans.specs.Splits.{AllStand}
use Rattle.pm_fans.specs.Kept.{is_corner, kept_of}
use Rattle.pm_base.proofs.Counted.{count_never}
use Rattle.pm_fans.proofs.KeptAgain.{renumbered}
use Rattle.pm_fans.proofs.KeptLaws.{kept_are_fit}
use Rattle.pm_turn.specs.Turning.{turned_face, turned_if, turned_by, flag_of}
use Rattle.pm_turn.proofs.TurnedFaces.{turned_at, turned_length, turned_faces_stay}
use Rattle.obj_prepare.specs.Named.{is_some_corner, AreVerticesBelow, IsWithinMesh}

or_swap : (p q r : Bool) → (p || r || q) ≡ (p || q || r)
or_swap true q r = refl
or_swap false true true = refl
or_swap false true false = refl
or_swap false false true = refl
or_swap false false false = refl

corner_turned : (f : Corners) (v : ℕ) → is_corner (turned_face f) v ≡ is_corner f v
corner_turned f v = or_swap (f.a == v) (f.b == v) (f.c == v)

-- A vertex that a face names is one that it names turned.
pub some_corner_turned : (flags : List Bool) (fs : List Corners) (v : ℕ)
    → is_some_corner (turned_by flags fs) v ≡ is_some_corner fs v
some_corner_turned flags [] v = refl
some_corner_turned [] (f ∷ fs) v = refl
some_corner_turned (true ∷ flags) (f ∷ fs) v =
    ap (λ b. b || is_some_corner (turned_by flags fs) v) (corner_turned f v)
    ∙ ap (λ b. is_corner f v || b) (some_corner_turned flags fs v)
some_corner_turned (false ∷ flags) (f ∷ fs) v =
    ap (λ b. is_corner f v || b) (some_corner_turned flags fs v)

-- What holds of each face, whichever way it is turned, holds of all turned ones.
pub turned_all : (P : Corners → Type 0) → ((f : Corners) → P f → P (turned_face f))
    → (flags : List Bool) (fs : List Corners) → All P fs → All P (turned_by flags fs)
turned_all P turn flags [] all = All-nil P
turned_all P turn [] (f ∷ fs) all = all
turned_all P turn (true ∷ flags) (f ∷ fs) all =
    All-cons P (turned_face f) (turned_by flags fs) (turn f (All-head P f fs all))
    (turned_all P turn flags fs (All-tail P f fs all))
turned_all P turn (false ∷ flags) (f ∷ fs) all =
    All-cons P f (turned_by flags fs) (All-head P f fs all)
    (turned_all P turn flags fs (All-tail P f fs all))

pub turned_within : (n : ℕ) (flags : List Bool) (fs : List Corners) → IsWithinMesh n fs
    → IsWithinMesh n (turned_by flags fs)
turned_within n flags fs within =
    grind (arith, common_steps, turned_all (AreVerticesBelow n), turned_length flags fs)

-- Each turned face that stays has three different corners.
pub turned_stand : (flags : List Bool) (fs : List Corners)
    → AllStand (net_of (turned_by flags (kept_of fs)))
turned_stand flags fs =
    subst (λ (l : List Corners). AllStand (net_of l)) (turned_faces_stay flags fs)
    (kept_are_fit (turned_by flags (kept_of fs))).0

-- Faces over other numbers of their vertices are turned alike.
pub turned_renumbered : (r : ℕ → ℕ) (flags : List Bool) (fs : List Corners)
    → turned_by flags (map (renumbered r) fs) ≡ map (renumbered r) (turned_by flags fs)
turned_renumbered r flags [] = refl
turned_renumbered r [] (f ∷ fs) = refl
turned_renumbered r (true ∷ flags) (f ∷ fs) =
    ap (λ (l : List Corners). renumbered r (turned_face f) ∷ l) (turned_renumbered r flags fs)
turned_renumbered r (false ∷ flags) (f ∷ fs) =
    ap (λ (l : List Corners). renumbered r f ∷ l) (turned_renumbered r flags fs)

-- Where all faces of three corners are as they were, none was turned.
pub none_turned : (flags : List Bool) (fs : List Corners) → AllStand (net_of fs)
    → turned_by flags fs ≡ fs → count (flag_of flags) (length fs) ≡ 0
none_turned flags fs stand same =
    count_never (flag_of flags) (length fs) (λ i low set.
    let is : turned_face (face_at fs i) ≡ face_at fs i =
    sym (turned_at flags fs i low ∙ ap (λ (b : Bool). turned_if b (face_at fs i)) set)
    ∙ ap (λ (gs : List Corners). face_at gs i) same in
    let (b, c) = second_side fs i in
    (stand (3 * i + 1) (omega (arith, low))).first
    (b ∙ sym (ap (λ (g : Corners). g.b) is) ∙ sym c))
