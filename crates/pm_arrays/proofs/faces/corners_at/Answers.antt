use Rattle.std.proofs.Common.{◌+◌, ◌*◌, ◌∷◌, [], List, ℕ, get_or, ap, subst, arith}
use Rattle.pm_base.specs.Counts.{set_of}
use Rattle.pm_forest.specs.Forest.{Hierarchy}
use Rattle.pm_forest.specs.Rules.{HasShape}
use Rattle.pm_arrays.proofs.PositionLaws.{told_at}
use Rattle.pm_arrays.proofs.faces.corners_at.Goals as goal

pub bounds-positions-a : goal.bounds-positions-a
bounds-positions-a c =
    let shape = subst (λ (h : Hierarchy). HasShape h) c.hierarchy.ensures c.invariant.ensures in
    (told_at c.args.front.now.h shape (set_of c.args.front.now.flags) (3 * c.args.face)
    (omega (arith, c.requires.there)) _ _ c.requires.positions
    (ap (λ (xs : List ℕ). get_or xs 0 0) c.corners_of-nodes.ensures)).0

pub bounds-positions-b : goal.bounds-positions-b
bounds-positions-b c =
    let shape = subst (λ (h : Hierarchy). HasShape h) c.hierarchy.ensures c.invariant.ensures in
    (told_at c.args.front.now.h shape (set_of c.args.front.now.flags) (3 * c.args.face + 1)
    (omega (arith, c.requires.there)) _ _ c.requires.positions
    (ap (λ (xs : List ℕ). get_or xs 1 0) c.corners_of-nodes.ensures)).0

pub bounds-positions-c : goal.bounds-positions-c
bounds-positions-c c =
    let shape = subst (λ (h : Hierarchy). HasShape h) c.hierarchy.ensures c.invariant.ensures in
    (told_at c.args.front.now.h shape (set_of c.args.front.now.flags) (3 * c.args.face + 2)
    (omega (arith, c.requires.there)) _ _ c.requires.positions
    (ap (λ (xs : List ℕ). get_or xs 2 0) c.corners_of-nodes.ensures)).0

pub returns-clause-positions : goal.returns-clause-positions
returns-clause-positions c =
    let shape = subst (λ (h : Hierarchy). HasShape h) c.hierarchy.ensures c.invariant.ensures in
    let T = set_of c.args.front.now.flags in
    let one = (told_at c.args.front.now.h shape T (3 * c.args.face)
    (omega (arith, c.requires.there)) _ _ c.requires.positions
    (ap (λ (xs : List ℕ). get_or xs 0 0) c.corners_of-nodes.ensures)).1 in
    let two = (told_at c.args.front.now.h shape T (3 * c.args.face + 1)
    (omega (arith, c.requires.there)) _ _ c.requires.positions
    (ap (λ (xs : List ℕ). get_or xs 1 0) c.corners_of-nodes.ensures)).1 in
    let three = (told_at c.args.front.now.h shape T (3 * c.args.face + 2)
    (omega (arith, c.requires.there)) _ _ c.requires.positions
    (ap (λ (xs : List ℕ). get_or xs 2 0) c.corners_of-nodes.ensures)).1 in
    λ i. one i ∷ two i ∷ three i ∷ []
