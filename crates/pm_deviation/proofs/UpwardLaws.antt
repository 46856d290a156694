-- Tables of numbers that are found from the leaves up: each record adds a step to the greatest.
use Rattle.std.proofs.Common.{◌≡◌, ℕ, suc, ◌+◌, ◌-◌, ◌*◌, ◌^◌, ◌<◌, ◌≤◌, List, length, get_or, set}
use Rattle.std.proofs.Common.{length-set, ap, ◌∙◌, subst, sym, arith}
use Rattle.std.specs.Prelude.{replicate, None}
use Rattle.std.proofs.lemmas.List.{get_or-replicate, length-replicate}
use Rattle.pm_forest.specs.Forest.{Hierarchy, record_count, node_count, s_of, t_of, u_of}
use Rattle.pm_forest.specs.Forest.{splitter_of}
use Rattle.pm_forest.specs.Rules.{HasShape}
use Rattle.pm_bounds.proofs.Nodes.{split_node}
use Rattle.pm_bounds.proofs.TableLaws.{kept}
use Rattle.pm_deviation.specs.Tables.{AreOfNodes}
use Rattle.pm_deviation.proofs.NodeTables.{AreFoundFrom, found_start, found_child, found_step}
use Rattle.pm_deviation.proofs.NodeTables.{found_all}
use Rattle.pm_deviation.proofs.StepLaws.{IsOfChildren}

-- The table once the records from k on have been gone through.
pub record AreUpTo (h : Hierarchy) (value : ℕ → ℕ) (table : List ℕ) (k : ℕ) : Type 0 where
  pub found : AreFoundFrom h 0 value table k
  pub small : (v : ℕ) → v < node_count h → get_or table v 0 ≤ 113509 * (record_count h - k)

wide : (n k m : ℕ) → n ≤ 1048576 → m ≤ 113509 * (n - k) → m ≤ 2 ^ 38
wide n k m few h = omega arith

pub up_small : (h : Hierarchy) (value : ℕ → ℕ) (table : List ℕ) (k : ℕ)
    → record_count h ≤ 1048576 → AreUpTo h value table k →
    (v : ℕ) → v < node_count h → get_or table v 0 ≤ 2 ^ 38
up_small h value table k few was v l =
    wide (record_count h) k (get_or table v 0) few (was.small v l)

one_more : (n k x : ℕ) → k < n → x ≤ 113509 * (n - suc k) + 113509 → x ≤ 113509 * (n - k)
one_more n k x l h = omega arith

still : (n k x : ℕ) → k < n → x ≤ 113509 * (n - suc k) → x ≤ 113509 * (n - k)
still n k x l h = omega arith

module _ (h : Hierarchy) (shape : HasShape h) (value : ℕ → ℕ) where
  -- before any record
  pub up_none : ((v : ℕ) → splitter_of h v ≡ None → value v ≡ 0) → (table : List ℕ)
      → table ≡ replicate (node_count h) 0 → AreUpTo h value table (record_count h)
  up_none leaf table zeros =
      let zero_at : (v : ℕ) → v < node_count h → get_or table v 0 ≡ 0 =
      λ v l. ap (λ t. get_or t v 0) zeros ∙ get_or-replicate (node_count h) v 0 0 l in
      record {
        found = found_start h shape 0 value table
            (ap length zeros ∙ length-replicate (node_count h) 0)
            (λ v l none. zero_at v l ∙ sym (leaf v none));
        small = λ v l. (let is = zero_at v l in omega arith);
      }

  -- one record more
  pub up_more : (up : (ℕ → ℕ) → ℕ → ℕ) → IsOfChildren h up
      → ((k : ℕ) → k < record_count h → value (s_of h k) ≡ up value k) →
      (old : List ℕ) (k x : ℕ) → k < record_count h → t_of h k < node_count h
      → u_of h k < node_count h → AreUpTo h value old (suc k) →
      x ≡ up (λ v. get_or old v 0) k → x ≤ 113509 * (record_count h - suc k) + 113509
      → AreUpTo h value (set old (s_of h k) x) k
  up_more up alike split old k x below t_node u_node was is most =
      let s = s_of h k in
      let node = split_node h shape k below in
      let len = was.found.len in
      let t = found_child h shape 0 value old k (t_of h k) below (omega arith) t_node was.found in
      let u = found_child h shape 0 value old k (u_of h k) below (omega arith) u_node was.found in
      let own : x ≡ value s =
      is ∙ alike (λ v. get_or old v 0) value k t u ∙ sym (split k below) in
      let enough : x ≤ 113509 * (record_count h - k) = one_more (record_count h) k x below most in
      record {
        found = found_step h shape 0 value old k x below was.found own;
        small = λ v l. kept 0 (λ (n : ℕ). n ≤ 113509 * (record_count h - k)) old s x (omega arith)
            (λ w m. still (record_count h) k (get_or old w 0) below (was.small w (omega arith)))
            enough v (omega (arith, length-set old s x));
      }

  -- all records
  pub up_all : (k : ℕ) (table : List ℕ) → k ≡ 0 → AreUpTo h value table k
      → AreOfNodes h 0 value table
  up_all k table none was =
      found_all h shape 0 value table (subst (AreFoundFrom h 0 value table) none was.found)
