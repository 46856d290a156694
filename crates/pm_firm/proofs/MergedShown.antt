-- The mesh that a front shows before a legal split is the one after it with both children merged.
use Rattle.std.proofs.Common.{◌≡◌, ◌≢◌, ℕ, ◌*◌, ◌<◌, Bool, inl, inr, refl, sym, ◌∙◌}
use Rattle.std.proofs.lemmas.Grind.{common_steps}
use Rattle.std.proofs.Common.{arith}
use Rattle.std.proofs.lemmas.Bool.{cond-true, cond-false}
use Rattle.pm_base.specs.Sides.{Net, next, Stands, IsTwin}
use Rattle.pm_base.specs.Fans.{IsPairAt, IsOrientedManifold}
use Rattle.pm_forest.specs.Forest.{Hierarchy, record_count, leaf_count, t_of, u_of, s_of, holds}
use Rattle.pm_forest.specs.Forest.{Makes}
use Rattle.pm_forest.specs.Fronts.{IsFront, ancestor_of, with}
use Rattle.pm_forest.specs.Faces.{face_count, from_leaf, IsForest}
use Rattle.pm_forest.proofs.Ancestors.{active-ancestor, ancestor_of-unique}
use Rattle.pm_forest.proofs.Ends.{next-lt}
use Rattle.pm_forest.proofs.Nodes.{makes_once}
use Rattle.pm_forest.proofs.OneStep.{with-same, split-under, split-elsewhere}
use Rattle.pm_beyond.specs.Valid.{IsValid}
use Rattle.pm_beyond.specs.Moves.{IsClosed, MaySplit}
use Rattle.pm_beyond.proofs.Standing.{forest_of, closed-front}
use Rattle.pm_runs.specs.Surfaces.{merge}
use Rattle.pm_runs.specs.Pairs.{IsPair}
use Rattle.pm_runs.specs.Merged.{merged}
use Rattle.pm_runs.proofs.Merges.{merge-pair, merge-other}
use Rattle.pm_firm.specs.Firm.{shown_net}

module _ (h : Hierarchy) (valid : IsValid h) (T : ℕ → Bool) (closed : IsClosed h T) (k : ℕ)
    (l : k < record_count h) (may : MaySplit h T k) where
  abbrev tree : IsForest h
  tree = forest_of h valid

  abbrev front : IsFront h T
  front = closed-front h T closed

  abbrev net_after : Net
  net_after = shown_net h (with T k)

  abbrev net_before : Net
  net_before = shown_net h T

  abbrev merged_net : Net
  merged_net = merged (shown_net h (with T k)) (t_of h k) (u_of h k) (s_of h k)

  pub leaf : (e : ℕ) → e < 3 * face_count h → from_leaf h e < leaf_count h
  leaf e le = tree.faces.leaves e le

  pub ends_differ : t_of h k ≢ u_of h k
  ends_differ is = absurd (omega arith)

  -- the node that is split is no ancestor after
  pub gone : (x : ℕ) → x < leaf_count h → ancestor_of h (with T k) x ≢ s_of h k
  gone x lx is = (active-ancestor h tree.forest (with T k) x lx).1 k l (with-same T k) (sym is)

  -- and no child an ancestor before
  pub not_child : (x v : ℕ) → x < leaf_count h → Makes h k v → ancestor_of h T x ≢ v
  not_child x v lx makes is =
      grind (arith, common_steps, active-ancestor h tree.forest T x lx, makes_once h)

  abbrev pub rename : ℕ → ℕ
  rename v = merge (t_of h k) (u_of h k) (s_of h k) v

  pub both_s : (p q : ℕ) → IsPair (t_of h k) (u_of h k) p q → rename p ≡ rename q
  both_s p q pair = let net_before = merge-pair (t_of h k) (u_of h k) (s_of h k) p q pair in
      net_before.0 ∙ sym net_before.1

  -- The mesh before is the mesh after with both children merged.
  renames : (x : ℕ) → x < leaf_count h → rename (ancestor_of h (with T k) x) ≡ ancestor_of h T x
  renames x lx =
      grind (
        arith,
        common_steps,
        ancestor_of-unique h tree.forest T front (s_of h k) x may.active,
        cond-false (holds h (t_of h k) x) (t_of h k) (u_of h k),
        cond-true (holds h (t_of h k) x) (t_of h k) (u_of h k),
        merge-other (t_of h k) (u_of h k) (s_of h k) (ancestor_of h (with T k) x),
        merge-pair (t_of h k) (u_of h k) (s_of h k) (t_of h k) (u_of h k) (inl (refl, refl)),
        not_child x (t_of h k) lx (inl refl),
        not_child x (u_of h k) lx (inr refl),
        split-elsewhere h tree.forest T front k l may.active x lx,
        split-under h tree.forest T front k l may.active may.unsplit x lx,
      )

  corner : (e : ℕ) → e < 3 * face_count h → merged_net.from e ≡ net_before.from e
  corner e le = renames (from_leaf h e) (leaf e le)

  pub next_lt : (e : ℕ) → e < 3 * face_count h → next e < 3 * face_count h
  next_lt e le = next-lt h tree e le

  pub there_m : (e : ℕ) → Stands merged_net e → Stands net_before e
  there_m e x = grind (arith, common_steps, corner, next_lt)

  pub there_c : (e : ℕ) → Stands net_before e → Stands merged_net e
  there_c e x = grind (arith, common_steps, corner, next_lt)

  pub twin_m : (e g : ℕ) → Stands merged_net e → IsTwin merged_net e g → IsTwin net_before e g
  twin_m e g et w = record {
    stands = there_m g w.stands;
    begins = sym (corner g w.stands.is_side) ∙ w.begins ∙ corner (next e) (next_lt e et.is_side);
    ends = sym (corner (next g) (next_lt g w.stands.is_side)) ∙ w.ends ∙ corner e et.is_side;
  }

  -- the merged mesh is the one shown before
  pair_m : {v x y : ℕ} → IsPairAt merged_net v x y → IsPairAt net_before v x y
  pair_m f = grind (arith, common_steps, corner, next_lt, there_m)

  pair_c : {v x y : ℕ} → IsPairAt net_before v x y → IsPairAt merged_net v x y
  pair_c f = grind (arith, common_steps, corner, next_lt, there_c)

  pub manifold_c : IsOrientedManifold net_before → IsOrientedManifold merged_net
  manifold_c manifold = record {
    no_side_twice = λ e g et gt a b.
        manifold.no_side_twice e g (there_m e et) (there_m g gt)
        (sym (corner e et.is_side) ∙ a ∙ corner g gt.is_side)
        (sym (corner (next e) (next_lt e et.is_side)) ∙ b ∙ corner (next g) (next_lt g gt.is_side));
    fans = λ v u. let f =
        manifold.fans v (u.0, there_m u.0 u.1, sym (corner u.0 u.1.is_side) ∙ u.2) in record {
          w = f.w;
          n = f.n;
          chain = record {
            here = λ i l. pair_c (f.chain.here i l);
            all = λ x y g. f.chain.all x y (pair_m g);
          };
          ends = f.ends;
        };
  }
