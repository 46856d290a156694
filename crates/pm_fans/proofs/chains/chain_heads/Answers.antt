use Rattle.std.proofs.Common.{◌≡◌, ◌∙◌, ℕ, List, Option, true, sym, ap, not, subst, below_more}
use Rattle.std.specs.Option.{is_some}
use Rattle.pm_base.proofs.SideNumbers.{some_numbered}
use Rattle.pm_fans.specs.Heads.{AreHeaded, HasHead, Keeps}
use Rattle.pm_base.specs.Sides.{beside_side}
use Rattle.pm_fans.proofs.ChainLaws.{some_is, kept_head}
use Rattle.pm_fans.proofs.chains.chain_heads.Goals as goal
use Rattle.pm_fans.proofs.chains.chain_heads.Goals.{then-is_none, else-is_none}

pub loop-number-preserved : goal.loop-number-preserved
loop-number-preserved c =
    let glued : List (Option ℕ) = c.args.glued.now in
    let old : List (Option ℕ) = c.loop-number.heads in
    let new : List (Option ℕ) = c.if-is_none.heads in
    let i = c.loop-number.invariant in
    elim c.if-is_none.branch [
      | then-is_none w ↦
          let is : new ≡ w.walk_back.new.heads = cc in
          let keeps : Keeps old new = subst (Keeps old) (sym is) w.walk_back.ensures.keeps in
          record {
            headed = subst (AreHeaded glued) (sym is) w.walk_back.ensures.headed;
            opened = λ e l b. kept_head old new keeps e (i.opened e l b);
            earlier = below_more (HasHead new) _ (λ e l. kept_head old new keeps e (i.earlier e l))
                (subst (λ (hs : List (Option ℕ)). HasHead hs c.loop-number.number) (sym is)
                w.walk_back.ensures.done);
          }
      | else-is_none w ↦
          let is : new ≡ old = cc in
          let some : is_some (beside_side old c.loop-number.number) ≡ true =
          ap is_some (sym c.get.ensures) ∙ sym (some_numbered c.get.result) ∙ c.is_none.ensures
          ∙ ap not w.if-is_none.false in
          record {
            headed = subst (AreHeaded glued) (sym is) i.headed;
            opened = λ e l b. subst (λ (hs : List (Option ℕ)). HasHead hs e) (sym is)
                (i.opened e l b);
            earlier = below_more (HasHead new) _
                (λ e l. subst (λ (hs : List (Option ℕ)). HasHead hs e) (sym is) (i.earlier e l))
                (subst (λ (hs : List (Option ℕ)). HasHead hs c.loop-number.number) (sym is)
                (some_is (beside_side old c.loop-number.number) some));
          }
    ]
