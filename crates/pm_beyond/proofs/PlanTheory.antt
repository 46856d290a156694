-- The laws of targets and plans: each move of a plan between closed sets is legal when its turn
-- comes.
use Rattle.std.proofs.Common.{◌≡◌, ℕ, zero, suc, ◌≤◌, Bool, true, false, List, [], ◌∷◌, take, inl}
use Rattle.std.proofs.lemmas.Grind.{common_steps}
use Rattle.std.proofs.Common.{inr, sym, subst, arith}
use Rattle.std.proofs.lemmas.Bool.{cases_Bool, both_ways}
use Rattle.pm_base.proofs.Counts.{count_le}
use Rattle.pm_forest.specs.Forest.{Hierarchy, record_count}
use Rattle.pm_forest.specs.Fronts.{without}
use Rattle.pm_beyond.specs.Valid.{IsValid}
use Rattle.pm_beyond.specs.Moves.{Needs, IsClosed}
use Rattle.pm_beyond.specs.Plans.{Move, Split, Collapse, moved, moved_by, MayMove, AreLegal}
use Rattle.pm_beyond.specs.Plans.{ascending, descending, less, differs, plan}
use Rattle.pm_beyond.specs.PlanLaws as law
use Rattle.pm_beyond.proofs.Standing.{needs-older, may_collapse-from}
use Rattle.pm_beyond.proofs.Closed.{split-closed, collapse-closed, may_split-from}
use Rattle.pm_beyond.proofs.TargetLaws.{target-least}
use Rattle.pm_beyond.proofs.PlanLists.{legal-append, legal-take, ascending-zero, ascending-true}
use Rattle.pm_beyond.proofs.PlanLists.{ascending-false, descending-zero, descending-true}
use Rattle.pm_beyond.proofs.PlanLists.{descending-false, less-parts, length-plan, Falls}
use Rattle.pm_beyond.proofs.PlanLists.{fall-collapse, fall-skip, turn, rises, leads}
use Rattle.pm_beyond.proofs.PlanSteps.{plan-after}

module _ (h : Hierarchy) (valid : IsValid h) where
  -- A legal move keeps the set closed, and so do some.
  move-closed : (T : ℕ → Bool) → IsClosed h T → (m : Move) → MayMove h T m → IsClosed h (moved T m)
  move-closed T closed (Split k) may = split-closed h valid T closed k may.0 may.1
  move-closed T closed (Collapse k) may = collapse-closed h valid T closed k may.0 may.1

  pub moves-closed : (T : ℕ → Bool) → IsClosed h T → (ms : List Move) → AreLegal h T ms
      → IsClosed h (moved_by T ms)
  moves-closed T closed [] legal = closed
  moves-closed T closed (m ∷ ms) legal =
      moves-closed (moved T m) (move-closed T closed m legal.0) ms legal.1

  module _ (S G : ℕ → Bool) (S_closed : IsClosed h S) (G_closed : IsClosed h G) where
    splits_legal : (n : ℕ) → n ≤ record_count h → AreLegal h S (ascending Split (less G S) n)
    splits_legal zero l = subst (AreLegal h S) (sym (ascending-zero Split (less G S))) tt
    splits_legal (suc n) l =
        let before = ascending Split (less G S) n in
        let legal = splits_legal n (omega arith) in
        let T = moved_by S before in
        let has = rises S G n in
        let closed = moves-closed S S_closed before legal in
        elim (cases_Bool (less G S n)) [
          | inr t ↦ subst (AreLegal h S) (sym (ascending-false Split (less G S) n t)) legal
          | inl t ↦
              let p = less-parts G S n t in
              let unsplit : T n ≡ false = grind (arith, common_steps) in
              let there : (i : ℕ) → Needs h n i → T i ≡ true = λ i need.
              let older = needs-older h valid.shape n i l need in
              has.all i (inr (G_closed n i l p.0 need, older)) in
              let may = may_split-from h valid.shape T closed n l unsplit there in
              subst (AreLegal h S) (sym (ascending-true Split (less G S) n t))
              (legal-append h S before (Split n ∷ []) legal ((l, may), tt))
        ]

    collapses_legal : (n : ℕ) → n ≤ record_count h → (T : ℕ → Bool) → IsClosed h T
        → Falls S G (record_count h) n T → AreLegal h T (descending Collapse (less S G) n)
    collapses_legal zero l T closed f =
        subst (AreLegal h T) (sym (descending-zero Collapse (less S G))) tt
    collapses_legal (suc n) l T closed f =
        elim (cases_Bool (less S G n)) [
          | inr t ↦ subst (AreLegal h T) (sym (descending-false Collapse (less S G) n t))
              (collapses_legal n (omega arith) T closed (fall-skip S G (record_count h) n T f t))
          | inl t ↦
              let p = less-parts S G n t in
              let is_split = f.all n l (inr (p.0, omega arith)) in
              let may = may_collapse-from h valid T closed n l is_split (λ j j_lt u need.
              let older = needs-older h valid.shape j n j_lt need in
              elim (f.only j j_lt u) [
                | inl g ↦ both_ways _ p.1 (G_closed j n j_lt g need)
                | inr s ↦
                    (let m = s.1 in omega arith)
              ]) in
              subst (AreLegal h T) (sym (descending-true Collapse (less S G) n t)) (
                (l, may),
                collapses_legal n (omega arith) (without T n)
                    (collapse-closed h valid T closed n l may)
                    (fall-collapse S G (record_count h) n T f t),
              )
        ]

    pub plan-legal : AreLegal h S (plan h S G)
    unfolding plan
    plan-legal =
        let n = record_count h in
        let up = ascending Split (less G S) n in
        let T = moved_by S up in
        let legal = splits_legal n (omega arith) in
        legal-append h S up (descending Collapse (less S G) n) legal
        (collapses_legal n (omega arith) T (moves-closed S S_closed up legal)
        (turn S G n T (rises S G n)))

pub targets : law.TargetsAreLeast
targets h shape wanted = target-least h shape wanted

pub legal : law.PlansAreLegal
legal h valid S G a b = plan-legal h valid S G a b

pub stay_closed : law.PlansKeepSetsClosed
stay_closed h valid S G a b m =
    moves-closed h valid S a (take m (plan h S G))
    (legal-take h S m (plan h S G) (plan-legal h valid S G a b))

pub go_on : law.PlansGoOn
go_on h S G m = plan-after h S G m

pub lead_there : law.PlansLeadThere
lead_there h S G k l = leads S G h k l

pub short : law.PlansAreShort
short h S G = let n = length-plan h S G in let most = count_le (differs S G) (record_count h) in
    (n, omega arith)
