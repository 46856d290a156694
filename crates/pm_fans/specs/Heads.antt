-- The chains of sides round vertices, and the side by which each chain is told: its head.
use Rattle.std.specs.Prelude.{◌≡◌, ℕ, ◌*◌, ◌<◌, ◌≤◌, ◌⊎◌, List, Option, Some, None, length}
use Rattle.std.specs.Prelude.{slice_index_or}
use Rattle.pm_base.specs.declared.limits.TheConstants.{MOST_FACES}
use Rattle.pm_base.specs.Sides.{prev, beside_side}

-- A table of the sides of some faces that glues them in pairs.
pub record AreGluedInPairs (glued : List (Option ℕ)) : Type 0 where
  pub faces : ℕ
  pub sides : length glued ≡ 3 * faces
  pub short : faces ≤ MOST_FACES
  pub back : (e g : ℕ) → beside_side glued e ≡ Some g
      → (g < length glued) × (beside_side glued g ≡ Some e)

-- Side g is the next one after e round the vertex from which both run.
abbrev pub IsNextRound : List (Option ℕ) → ℕ → ℕ → Type 0
IsNextRound glued e g = beside_side glued (prev e) ≡ Some g

-- From side s on, from each side to the next one.
pub data Leads (glued : List (Option ℕ)) (s : ℕ) : ℕ → Type 0 where
  here : Leads glued s s
  further : {e g : ℕ} → Leads glued s e → IsNextRound glued e g → Leads glued s g

-- Whole chains have their heads: the first side of an open chain, the least of a closed one.
pub record AreHeaded (glued heads : List (Option ℕ)) : Type 0 where
  pub long : length heads ≡ length glued
  pub led : (e h : ℕ) → beside_side heads e ≡ Some h → Leads glued h e
  pub own : (e h : ℕ) → beside_side heads e ≡ Some h → beside_side heads h ≡ Some h
  pub on : (e g h : ℕ) → IsNextRound glued e g → beside_side heads e ≡ Some h
      → beside_side heads g ≡ Some h
  pub back : (e g h : ℕ) → IsNextRound glued e g → beside_side heads g ≡ Some h
      → beside_side heads e ≡ Some h
  pub kind : (e h : ℕ) → beside_side heads e ≡ Some h → (beside_side glued h ≡ None) ⊎ (h ≤ e)

abbrev pub HasHead : List (Option ℕ) → ℕ → Type 0
HasHead heads e = beside_side heads e ≡ None → ⊥

-- Heads that are there stay.
abbrev pub Keeps : List (Option ℕ) → List (Option ℕ) → Type 0
Keeps old heads = (e h : ℕ) → beside_side old e ≡ Some h → beside_side heads e ≡ Some h

-- Heads are the first sides of open chains, of those that begin below n.
pub record AreOpenHeaded (glued heads : List (Option ℕ)) (n : ℕ) : Type 0 where
  pub headed : AreHeaded glued heads
  pub opened : (e : ℕ) → e < n → beside_side glued e ≡ None → HasHead heads e
  pub only : (e h : ℕ) → beside_side heads e ≡ Some h → h < n

-- Every side has a head.
pub record AreAllHeaded (glued heads : List (Option ℕ)) : Type 0 where
  pub headed : AreHeaded glued heads
  pub all : (e : ℕ) → e < length glued → HasHead heads e
