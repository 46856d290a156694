use Rattle.std.proofs.Common.{ℕ, List, [], ◌∷◌, ◌++◌, length, get_or, Option, sym, ap, ◌∙◌, subst}
use Rattle.std.proofs.Common.{arith, length-append}
use Rattle.pm_candidates.specs.Needed.{AreNeedsOf}
use Rattle.pm_candidates.proofs.NeedRows.{row_more}
use Rattle.pm_candidates.proofs.needs.NeedTable.new.Goals as goal

pub loop-k-preserved : goal.loop-k-preserved
loop-k-preserved c =
    let h = c.args.h.now in
    let rows : List (List (Option ℕ)) = c.loop-k.rows.items in
    let row : List (Option ℕ) = c.needs_of.result in
    let so_far = c.loop-k.invariant in
    let items = c.in_ok-push.ensures.items
    ∙ ap (λ (one : List (Option ℕ)). rows ++ one ∷ []) c.row_of.ensures in
    record {
      len = omega (arith, ap length items, length-append rows (row ∷ []), so_far.len);
      each = λ j l.
          subst (λ (all : List (List (Option ℕ))). AreNeedsOf h j (get_or all j [])) (sym items)
          (row_more h rows c.loop-k.k so_far.len so_far.each row c.needs_of.ensures j l);
    }
