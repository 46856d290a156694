use Rattle.std.proofs.Common.{◌≡◌, not, true, false, ap, refl}
use Rattle.std.proofs.lemmas.List.{append-nil}
use Rattle.pm_number.specs.Numbering.{picked}
use Rattle.pm_number.specs.Tables.{is_unset}
use Rattle.pm_number.proofs.LeftLaws.{picked_more}
use Rattle.pm_number.proofs.left.unflagged.Goals as goal
use Rattle.pm_number.proofs.left.unflagged.Goals.{then-not-flags-k+in_ok-push, else-not-flags-k}

pub loop-k-preserved : goal.loop-k-preserved
loop-k-preserved c =
    let k = c.loop-k.k in
    let test = is_unset c.args.flags.now in
    elim c.if-not-flags-k.branch [
      | then-not-flags-k+in_ok-push w ↦
          let passes : test k ≡ true = ap not w.if-not-flags-k.true in
          rw (w.numbers-is, w.in_ok-push.ensures.items) (rw (
            c.loop-k.invariant,
            picked_more test k,
            passes,
          ) refl)
      | else-not-flags-k w ↦
          let fails : test k ≡ false = ap not w.if-not-flags-k.false in
          rw (w.numbers-is, c.loop-k.invariant, picked_more test k, fails)
          (rw (append-nil (picked test 0 k)) refl)
    ]
