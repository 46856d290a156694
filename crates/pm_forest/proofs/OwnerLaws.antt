-- The table with the root of each leaf.
use Rattle.std.proofs.Common.{◌≡◌, ℕ, ◌+◌, ◌-◌, ◌<◌, List, [], ◌∷◌, ◌++◌, length, sum}
use Rattle.std.proofs.lemmas.Grind.{common_steps}
use Rattle.std.proofs.Common.{get_or, replicate, refl, ap, arith, append_assoc}
use Rattle.std.proofs.Common.{length-append}
use Rattle.std.proofs.lemmas.List.{get_or_append_left, get_or-append_right, get_or-replicate}
use Rattle.std.proofs.lemmas.List.{length-replicate, append-nil}
use Rattle.std.proofs.lemmas.List.Sums.{sum_by-cons}
use Rattle.std.proofs.lemmas.Bool.{lt-ltb, le-ltb}
use Rattle.pm_forest.specs.Forest.{root_of}
use Rattle.pm_forest.specs.Tables.{owners_from}

pub sum-cons : (w : ℕ) (ws : List ℕ) → sum (w ∷ ws) ≡ w + sum ws
sum-cons w ws = sum_by-cons (λ x. x) w ws

-- there is one entry for each leaf
pub length-owners_from : (i : ℕ) (ws : List ℕ) → length (owners_from i ws) ≡ sum ws
length-owners_from i [] = refl
length-owners_from i (w ∷ ws) =
    let both = length-append (replicate w i) (owners_from (i + 1) ws) in
    omega (arith, sum-cons w ws, both, length-replicate w i, length-owners_from (i + 1) ws)

-- the root doesn't change where the roots' leaves and the leaf are moved by as much
pub root_of-shift : (ws : List ℕ) (a b x y : ℕ) → x + b ≡ y + a → root_of ws a x ≡ root_of ws b y
root_of-shift [] a b x y same = refl
root_of-shift (w ∷ ws) a b x y same =
    grind (arith, common_steps, le-ltb, lt-ltb, root_of-shift ws (a + w) (b + w) x y)

-- with the number of the first root
pub owners_from-at : (i : ℕ) (ws : List ℕ) (x d : ℕ) → x < sum ws
    → get_or (owners_from i ws) x d ≡ i + root_of ws 0 x
owners_from-at i [] x d lt = absurd (omega arith)
owners_from-at i (w ∷ ws) x d lt =
    grind (
      arith,
      common_steps,
      get_or-append_right (replicate w i) (owners_from (i + 1) ws) w x d,
      get_or-replicate w x i d,
      get_or_append_left (replicate w i) (owners_from (i + 1) ws) d x,
      le-ltb x (0 + w),
      length-replicate w i,
      lt-ltb x (0 + w),
      root_of-shift ws (0 + w) 0 x (x - w),
      sum-cons w ws,
      owners_from-at (i + 1) ws (x - w) d,
    )

-- the entry of leaf x is the root that it is under
pub get_or-owners_from : (ws : List ℕ) (x d : ℕ) → x < sum ws
    → get_or (owners_from 0 ws) x d ≡ root_of ws 0 x
get_or-owners_from ws x d lt = omega (arith, owners_from-at 0 ws x d lt)

-- one root more
pub owners_from-push : (i : ℕ) (ws : List ℕ) (w : ℕ) →
    owners_from i (ws ++ w ∷ []) ≡ owners_from i ws ++ replicate w (i + length ws)
owners_from-push i [] w = rw (append-nil (replicate w i)) (ap (replicate w) (omega arith))
owners_from-push i (v ∷ ws) w =
    grind (arith, common_steps, append_assoc, owners_from-push (i + 1) ws w)
