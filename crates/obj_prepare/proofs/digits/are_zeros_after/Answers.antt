use Rattle.std.proofs.Common.{◌≡◌, ℕ, ◌-◌, Bool, true, ◌&&◌, List, length, take, drop, sym, ◌∙◌}
use Rattle.std.proofs.Common.{ap, arith}
use Rattle.std.proofs.lemmas.List.{take_rest}
use Rattle.obj_read.specs.Coordinates.{are_zeros}
use Rattle.obj_prepare.proofs.ExactLaws.{zeros_after}
use Rattle.obj_prepare.proofs.digits.are_zeros_after.Goals as goal

pub returns-then-are_zeros : goal.returns-then-are_zeros
returns-then-are_zeros c =
    let xs = c.args.whole.now in
    let ys = c.args.decimals.now in
    let i = c.min.result in
    let j = c.min-2.result in
    let rest : take (length c.args.whole.now - c.min.result) (drop c.min.result c.args.whole.now)
    ≡ drop c.min.result c.args.whole.now = take_rest xs c.min.result in
    let last : take (length c.args.decimals.now - c.min-2.result)
    (drop c.min-2.result c.args.decimals.now)
    ≡ drop c.min-2.result c.args.decimals.now = take_rest ys c.min-2.result in
    let front : are_zeros (drop c.min.result c.args.whole.now) ≡ true =
    ap (λ (l : List ℕ). are_zeros l) (sym rest) ∙ sym c.are_zeros.ensures ∙ c.if-are_zeros.true in
    c.are_zeros-then-are_zeros.ensures
    ∙ ap (λ (l : List ℕ). are_zeros l) last
    ∙ sym (zeros_after xs ys c.args.kept i j (omega (arith, c.min.ensures))
    (omega (arith, c.min-2.ensures, c.saturating_sub.ensures))
    ∙ ap (λ (t : Bool). t && are_zeros (drop c.min-2.result c.args.decimals.now)) front)
