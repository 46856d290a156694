use Rattle.std.proofs.Common.{get_or, pos, FitsSigned, w64, arith}
use Rattle.std.proofs.Common.{rules}
use Rattle.vdpm_c.proofs.LookingLaws.{left_over, first_told, first_bad}
use Rattle.vdpm_c.proofs.looking.first_plane.Goals as goal

pub returns-in_default-clause-none : goal.returns-in_default-clause-none
returns-in_default-clause-none c ps e good =
    let none = left_over c.args.numbers.now c.requires (omega (arith, c.in_default.len_below)) in
    absurd cc

pub returns-in_err-plane-clause-none : goal.returns-in_err-plane-clause-none
returns-in_err-plane-clause-none c =
    let xs = c.args.numbers.now in
    let fa : FitsSigned w64 (get_or xs 0 (pos 0)) = search rules in
    let fb : FitsSigned w64 (get_or xs 1 (pos 0)) = search rules in
    let fc : FitsSigned w64 (get_or xs 2 (pos 0)) = search rules in
    let fd : FitsSigned w64 (get_or xs 3 (pos 0)) = search rules in
    rw c.from_residual.ensures (first_bad xs (pos 0) c.in-len4-up.len_at_least fa fb fc fd
    c.in_err-plane.ensures.none)

pub returns-clause-some : goal.returns-clause-some
returns-clause-some c =
    let xs = c.args.numbers.now in
    let fa : FitsSigned w64 (get_or xs 0 (pos 0)) = search rules in
    let fb : FitsSigned w64 (get_or xs 1 (pos 0)) = search rules in
    let fc : FitsSigned w64 (get_or xs 2 (pos 0)) = search rules in
    let fd : FitsSigned w64 (get_or xs 3 (pos 0)) = search rules in
    first_told xs (pos 0) c.in_ok-plane.plane c.in-len4-up.len_at_least fa fb fc fd
    c.in_ok-plane.ensures.some
