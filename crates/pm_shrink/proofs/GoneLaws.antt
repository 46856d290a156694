-- The faces that a collapse drops: where they are, and which corners they take out of the lists.
use Rattle.std.proofs.Common.{◌≡◌, ◌≢◌, ℕ, ◌+◌, ◌*◌, ◌<◌, true, List, length, Option}
use Rattle.std.proofs.Common.{Some, None}
use Rattle.std.proofs.lemmas.Grind.{common_steps}
use Rattle.std.proofs.Common.{refl, sym, ap, ◌∙◌, arith}
use Rattle.std.specs.Prelude.{option_map, IfSome}
use Rattle.pm_base.specs.declared.ids.Side.{Side}
use Rattle.pm_base.specs.declared.log.Gone.{Gone}
use Rattle.pm_base.specs.Sides.{Net, face_of, next, prev, Stands, NoSideTwice, side_count, twin_of}
use Rattle.pm_base.proofs.Sides.{stands_next, face_cases}
use Rattle.pm_base.proofs.Search.{option_cases}
use Rattle.pm_base.proofs.TwinLaws.{twin-is}
use Rattle.pm_links.specs.Lists.{Lists, list_of, list_without, without_item, has, IsHeld}
use Rattle.pm_links.proofs.Calls.{after_unlink}
use Rattle.pm_links.proofs.Without.{has-without, was_there}
use Rattle.pm_runs.specs.Pairs.{Runs, Links}
use Rattle.pm_runs.specs.Steps.{side_id, gone_at, gone_of}
use Rattle.pm_runs.proofs.Found.{found-runs, runs-found}
use Rattle.pm_runs.proofs.Legal.{no_two_ways}
use Rattle.pm_shrink.specs.Tables.{Tables}
use Rattle.pm_shrink.specs.Writes.{without_corners, unlisted, lists_left, IsIn}

-- What is so of each face with a side from p to q is so of the one that goes.
pub if_gone : (m : Net) (p q : ℕ) (P : Gone → Type 0) → ((e : ℕ) → Runs m e p q → P (gone_at m e))
    → IfSome (gone_of m p q) P
if_gone m p q P all = grind (arith, common_steps, found-runs, option_cases)

pub gone_is : (m : Net) → NoSideTwice m → (e p q : ℕ) → Runs m e p q
    → gone_of m p q ≡ Some (gone_at m e)
gone_is m once e p q r = ap (option_map (gone_at m)) (runs-found m p q once e r)

-- What stands across a side is a side.
across_in : (m : Net) (e n : ℕ) → n ≡ side_count m
    → IfSome (option_map side_id (twin_of m e)) (λ (s : Side). s.0 < n)
across_in m e n is = within (twin_of m e) (λ k t. twin_low k t)
  where
    twin_low : (k : ℕ) → twin_of m e ≡ Some k → k < n
    twin_low k t = (let l = (twin-is m e k t).stands.is_side in omega arith)

    within : (t : Option ℕ) → ((k : ℕ) → t ≡ Some k → k < n)
        → IfSome (option_map side_id t) (λ (s : Side). s.0 < n)
    within None low = tt
    within (Some k) low = low k refl

module _ (m : Net) (p q : ℕ) where
  pub gone_first_in : (n : ℕ) → n ≡ side_count m
      → IfSome (gone_of m p q) (λ g. IfSome g.first (λ s. s.0 < n))
  gone_first_in n is =
      if_gone m p q (λ g. IfSome g.first (λ s. s.0 < n)) (λ e r. across_in m (next e) n is)

  pub gone_second_in : (n : ℕ) → n ≡ side_count m
      → IfSome (gone_of m p q) (λ g. IfSome g.second (λ s. s.0 < n))
  gone_second_in n is =
      if_gone m p q (λ g. IfSome g.second (λ s. s.0 < n)) (λ e r. across_in m (prev e) n is)

-- All sides of a face stand.
pub stands_beside : (m : Net) (e g : ℕ) → Stands m e → face_of g ≡ face_of e → Stands m g
stands_beside m e g st same =
    grind (
      arith,
      common_steps,
      face_cases e g (sym same),
      stands_next m e st,
      stands_next m (next e),
    )

-- A face that goes is in tables that have all faces and sides of a net, and its corners.
module _ (m : Net) (p q : ℕ) (t : Tables) (faces : length t.faces ≡ m.faces)
    (across : length t.across ≡ side_count m)
    (held : (e : ℕ) → Runs m e p q → (g : ℕ) → Stands m g → face_of g ≡ face_of e
    → IsHeld t.corners g) where
  corner : (e : ℕ) → Runs m e p q → (g : ℕ) → face_of g ≡ face_of e → IsHeld t.corners g
  corner e r g same = held e r g (stands_beside m e g r.stands same) same

  pub gone_in : IfSome (gone_of m p q) (IsIn t)
  gone_in = if_gone m p q (IsIn t) (λ e r. record {
    face = (let l = r.stands.is_side in omega arith);
    first = across_in m (next e) (length t.across) across;
    second = across_in m (prev e) (length t.across) across;
    held = (
      corner e r (3 * face_of e) (omega arith),
      corner e r (3 * face_of e + 1) (omega arith),
      corner e r (3 * face_of e + 2) (omega arith),
    );
  })

-- The face of corner x doesn't go.
abbrev pub IsSparedBy : Option Gone → ℕ → Type 0
IsSparedBy o f = IfSome o (λ g. f ≢ g.face.0)

without-other : (f : ℕ) (xs : List ℕ) (x : ℕ) → face_of x ≢ f
    → has (without_corners f xs) x ≡ has xs x
without-other f xs x ne = grind (arith, common_steps, has-without)

without-was : (f : ℕ) (xs : List ℕ) (x : ℕ) → has (without_corners f xs) x ≡ true
    → (has xs x ≡ true) × (face_of x ≢ f)
without-was f xs x h = grind (arith, common_steps, was_there)

pub unlisted-other : (o : Option Gone) (xs : List ℕ) (x : ℕ) → IsSparedBy o (face_of x)
    → has (unlisted o xs) x ≡ has xs x
unlisted-other None xs x spared = refl
unlisted-other (Some g) xs x spared = without-other g.face.0 xs x spared

pub unlisted-was : (o : Option Gone) (xs : List ℕ) (x : ℕ) → has (unlisted o xs) x ≡ true
    → (has xs x ≡ true) × IsSparedBy o (face_of x)
unlisted-was None xs x h = (h, tt)
unlisted-was (Some g) xs x h = without-was g.face.0 xs x h

-- The lists after a face has gone.
pub record AfterGone (v w : Lists) (o : Option Gone) : Type 0 where
  pub lists : (h : ℕ) → list_of w h ≡ unlisted o (list_of v h)
  pub items : w.items ≡ v.items
  pub heads : length w.lists ≡ length v.lists

pub after_gone : (v : Lists) (o : Option Gone) → AfterGone v (lists_left v o) o
after_gone v None = record { lists = λ h. refl; items = refl; heads = refl }
after_gone v (Some g) =
    let f : ℕ = g.face.0 in
    let v1 : Lists = without_item v (3 * f) in
    let v2 : Lists = without_item v1 (3 * f + 1) in
    let one = after_unlink v v1 (3 * f) refl in
    let two = after_unlink v1 v2 (3 * f + 1) refl in
    let three = after_unlink v2 (without_item v2 (3 * f + 2)) (3 * f + 2) refl in
    record {
      lists = λ h. three.lost h ∙ ap (list_without (3 * f + 2)) (two.lost h
          ∙ ap (list_without (3 * f + 1)) (one.lost h));
      items = refl;
      heads = three.heads ∙ two.heads ∙ one.heads;
    }

module _ (m : Net) (once : NoSideTwice m) (a b : ℕ) where
  -- A face is spared by both where it holds no side between the two.
  pub spared-links : (f : ℕ) → IsSparedBy (gone_of m a b) f → IsSparedBy (gone_of m b a) f → (y : ℕ)
      → Links m y a b → face_of y ≢ f
  spared-links f x z y links same = grind (arith, common_steps, gone_is)

  pub links-spared : (f : ℕ) → ((y : ℕ) → Links m y a b → face_of y ≢ f)
      → IsSparedBy (gone_of m a b) f × IsSparedBy (gone_of m b a) f
  links-spared f never = grind (arith, common_steps, if_gone)

  -- The right face isn't the left one.
  pub right_spared : (e g : ℕ) → Runs m e b a → face_of g ≡ face_of e
      → IsSparedBy (gone_of m a b) (face_of g)
  right_spared e g r same =
      if_gone m a b (λ k. face_of g ≢ k.face.0)
      (λ x w is. no_two_ways m x e a b w r (sym is ∙ same))
