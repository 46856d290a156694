-- The intervals and the leaves of roots, with one root more.
use Rattle.std.proofs.Common.{◌≡◌, ℕ, zero, suc, ◌+◌, ◌<◌, ◌≤◌, List, [], ◌∷◌, ◌++◌, length, sum}
use Rattle.std.proofs.lemmas.Grind.{common_steps}
use Rattle.std.proofs.Common.{refl, arith}
use Rattle.std.proofs.lemmas.Bool.{lt-ltb, le-ltb}
use Rattle.std.proofs.lemmas.List.{length-map, map_push}
use Rattle.pm_forest.specs.declared.parts.Root.{Root}
use Rattle.pm_forest.specs.Forest.{widths_of, root_interval, root_of}
use Rattle.pm_forest.proofs.OwnerLaws.{sum-cons}

pub width_count : (roots : List Root) → length (widths_of roots) ≡ length roots
width_count roots = length-map roots (λ r. r.width)

pub widths-push : (roots : List Root) (r : Root) → widths_of (roots ++ r ∷ []) ≡ widths_of roots
    ++ r.width ∷ []
widths-push roots r = map_push (λ (q : Root). q.width) roots r

pub sum-push : (ws : List ℕ) (w : ℕ) → sum (ws ++ w ∷ []) ≡ sum ws + w
sum-push [] w = omega (arith, sum-cons w [])
sum-push (v ∷ ws) w = omega (arith, sum-cons v (ws ++ w ∷ []), sum-cons v ws, sum-push ws w)

-- the earlier roots keep their leaves
pub root_interval-push : (ws : List ℕ) (w start v : ℕ) → v < length ws →
    root_interval (ws ++ w ∷ []) start v ≡ root_interval ws start v
root_interval-push [] w start v l = absurd (omega arith)
root_interval-push (u ∷ ws) w start zero l = refl
root_interval-push (u ∷ ws) w start (suc v) l = root_interval-push ws w (start + u) v (omega arith)

pub root_of-push : (ws : List ℕ) (w start x : ℕ) → x < start + sum ws
    → root_of (ws ++ w ∷ []) start x ≡ root_of ws start x
root_of-push [] w start x l = rw (lt-ltb x (start + w) (omega arith)) refl
root_of-push (u ∷ ws) w start x l =
    grind (arith, common_steps, le-ltb, lt-ltb, sum-cons, root_of-push ws w (start + u) x)

-- the last root's leaves come after theirs
pub root_interval-last : (ws : List ℕ) (w start : ℕ) → let i =
    root_interval (ws ++ w ∷ []) start (length ws) in
    (i.from ≡ start + sum ws) × (i.until ≡ start + sum ws + w)
root_interval-last [] w start = (omega arith, omega arith)
root_interval-last (u ∷ ws) w start =
    let later = root_interval-last ws w (start + u) in
    (omega (arith, sum-cons u ws, later.0), omega (arith, sum-cons u ws, later.1))

pub root_of-last : (ws : List ℕ) (w start x : ℕ) → start + sum ws ≤ x → x < start + sum ws + w →
    root_of (ws ++ w ∷ []) start x ≡ length ws
root_of-last [] w start x above below = rw (lt-ltb x (start + w) (omega arith)) refl
root_of-last (u ∷ ws) w start x above below =
    grind (arith, common_steps, le-ltb, sum-cons, root_of-last ws w (start + u) x)

-- no root has leaves past the leaves' number
pub root_interval-le : (ws : List ℕ) (start v : ℕ)
    → (root_interval ws start v).until ≤ start + sum ws
root_interval-le [] start v = omega arith
root_interval-le (w ∷ ws) start zero = omega (arith, sum-cons w ws)
root_interval-le (w ∷ ws) start (suc v) =
    omega (arith, sum-cons w ws, root_interval-le ws (start + w) v)
