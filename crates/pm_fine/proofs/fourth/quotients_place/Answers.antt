use Rattle.std.proofs.Common.{ℕ, ◌≡◌, true, ◌/◌, ◌^◌, w32, FitsSigned, to_z, of_z, ap, rules}
use mir.Syntax.{w128}
use Rattle.std.specs.Prelude.{unsigned_abs}
use Rattle.std.specs.Int.{int_shr}
use Rattle.pm_fine.specs.declared.matrix.Vector.{Vector}
use Rattle.pm_fine.specs.Rounded.{near}
use Rattle.pm_fine.specs.Fourth.{is_near, digits_above}
use Rattle.pm_fine.proofs.QuotientLaws.{quotient_small}
use Rattle.pm_fine.proofs.FourthPlaces.{quotients_is}
use Rattle.pm_fine.proofs.fourth.quotients_place.Goals as goal

pub quotient-x-requires-clause-digits : goal.quotient-x-requires-clause-digits
quotient-x-requires-clause-digits c = c.digits_above-digits.ensures.small

pub quotient-x-requires-clause-some : goal.quotient-x-requires-clause-some
quotient-x-requires-clause-some c =
    let near : c.is_near.result ≡ true = search rules in
    c.digits_above-digits.ensures.first
    (rw c.unsigned_abs-size.ensures.value (c.is_near.ensures.some near))

pub quotient-x-requires-clause-kept : goal.quotient-x-requires-clause-kept
quotient-x-requires-clause-kept c = c.digits_above-digits.ensures.kept

pub quotient-x-requires-clause-a_small : goal.quotient-x-requires-clause-a_small
quotient-x-requires-clause-a_small c =
    let near : c.is_near.result ≡ true = search rules in
    let fits : FitsSigned w128 c.args.n.now.x = search rules in
    quotient_small c.args.n.now.x c.args.det c.unsigned_abs-size.result
    c.digits_above-digits.result fits (c.is_near.ensures.bounds near).0
    c.unsigned_abs-size.ensures.value

pub quotient-y-requires-clause-digits : goal.quotient-y-requires-clause-digits
quotient-y-requires-clause-digits c = c.digits_above-digits.ensures.small

pub quotient-y-requires-clause-some : goal.quotient-y-requires-clause-some
quotient-y-requires-clause-some c =
    let near : c.is_near.result ≡ true = search rules in
    c.digits_above-digits.ensures.first
    (rw c.unsigned_abs-size.ensures.value (c.is_near.ensures.some near))

pub quotient-y-requires-clause-kept : goal.quotient-y-requires-clause-kept
quotient-y-requires-clause-kept c = c.digits_above-digits.ensures.kept

pub quotient-y-requires-clause-a_small : goal.quotient-y-requires-clause-a_small
quotient-y-requires-clause-a_small c =
    let near : c.is_near.result ≡ true = search rules in
    let fits : FitsSigned w128 c.args.n.now.y = search rules in
    quotient_small c.args.n.now.y c.args.det c.unsigned_abs-size.result
    c.digits_above-digits.result fits (c.is_near.ensures.bounds near).1
    c.unsigned_abs-size.ensures.value

pub quotient-z-requires-clause-digits : goal.quotient-z-requires-clause-digits
quotient-z-requires-clause-digits c = c.digits_above-digits.ensures.small

pub quotient-z-requires-clause-some : goal.quotient-z-requires-clause-some
quotient-z-requires-clause-some c =
    let near : c.is_near.result ≡ true = search rules in
    c.digits_above-digits.ensures.first
    (rw c.unsigned_abs-size.ensures.value (c.is_near.ensures.some near))

pub quotient-z-requires-clause-kept : goal.quotient-z-requires-clause-kept
quotient-z-requires-clause-kept c = c.digits_above-digits.ensures.kept

pub quotient-z-requires-clause-a_small : goal.quotient-z-requires-clause-a_small
quotient-z-requires-clause-a_small c =
    let near : c.is_near.result ≡ true = search rules in
    let fits : FitsSigned w128 c.args.n.now.z = search rules in
    quotient_small c.args.n.now.z c.args.det c.unsigned_abs-size.result
    c.digits_above-digits.result fits (c.is_near.ensures.bounds near).2
    c.unsigned_abs-size.ensures.value

pub returns : goal.returns
returns c =
    let n : Vector = c.args.n.now in
    let det = c.args.det in
    let k = c.digits_above-digits.result in
    let d = c.unsigned_abs-size.result / 2 ^ k in
    let x = to_z w32 (of_z w32 c.quotient-x.result) in
    let y = to_z w32 (of_z w32 c.quotient-y.result) in
    let z = to_z w32 (of_z w32 c.quotient-z.result) in
    let test : is_near c.args.reach n det ≡ true = search rules in
    let size : c.unsigned_abs-size.result ≡ unsigned_abs det = search rules in
    let ek : k ≡ digits_above 42 (unsigned_abs det) = search rules in
    let ed : d ≡ unsigned_abs det / 2 ^ k = ap (λ (v : ℕ). v / 2 ^ k) size in
    let ex : x ≡ near (int_shr n.x k) d = search rules in
    let ey : y ≡ near (int_shr n.y k) d = search rules in
    let ez : z ≡ near (int_shr n.z k) d = search rules in
    quotients_is c.args.m c.args.reach n det k d x y z c.moved.result test ek ed ex ey ez
    c.moved.ensures
