use Rattle.std.proofs.Common.{◌≡◌, ℕ, ◌<◌, ◌*◌, ◌/◌, ◌^◌, to_z, of_z, refl, ap, ◌∙◌}
use Rattle.std.proofs.Common.{lit<, rules, arith}
use mir.Syntax.{w128}
use Rattle.std.specs.Prelude.{ℤ, ◌+ℤ◌, ◌*ℤ◌, unsigned_abs}
use Rattle.std.specs.Int.{int_shr}
use Rattle.pm_base.proofs.ReadBack.{read_small}
use Rattle.pm_fine.specs.declared.matrix.Vector.{Vector}
use Rattle.pm_fine.specs.Rounded.{near}
use Rattle.pm_fine.specs.Fourth.{digits_above}
use Rattle.pm_fit.specs.declared.moments.Moments.{Moments}
use Rattle.pm_fit.specs.declared.moments.Spot.{Spot}
use Rattle.pm_fit.specs.Fit.{away_of, rise_of}
use Rattle.pm_fit.proofs.ReadLaws.{read_as}
use Rattle.pm_fit.proofs.slopes.rise.Goals as goal

pub returns-clause-small : goal.returns-clause-small
returns-clause-small c =
    let same : c.unsigned_abs-size.result ≡ unsigned_abs c.args.det = search rules in
    let some : 0 < c.unsigned_abs-size.result = omega (arith, same, c.requires.some) in
    let first = c.digits_above-digits.ensures.first some in
    let sum = read_small w128 c.add_three.result (2 ^ 69) c.add_three.ensures.small (lit< tt) in
    let near = c.near_wide.ensures.within (2 ^ 69) (omega (arith, first, sum)) in
    read_small w128 c.near_wide.result (2 ^ 69) near (lit< tt)

pub returns-clause-value : goal.returns-clause-value
unfolding rise_of
returns-clause-value c =
    let m : Moments = c.args.m.now in
    let p : Spot = c.args.place.now in
    let n : Vector = c.args.n.now in
    let size = c.unsigned_abs-size.result in
    let det = unsigned_abs c.args.det in
    let k = c.digits_above-digits.result in
    let same : size ≡ det = search rules in
    let some : 0 < size = omega (arith, same, c.requires.some) in
    let first = c.digits_above-digits.ensures.first some in
    let sum_small =
    read_small w128 c.add_three.result (2 ^ 69) c.add_three.ensures.small (lit< tt) in
    let near_small = c.near_wide.ensures.within (2 ^ 69) (omega (arith, first, sum_small)) in
    let rnx : to_z w128 (of_z w128 n.x) ≡ n.x = search rules in
    let rny : to_z w128 (of_z w128 n.y) ≡ n.y = search rules in
    let rnz : to_z w128 (of_z w128 n.z) ≡ n.z = search rules in
    let rax = read_as (2 ^ 20) _ (away_of m.count m.places.x p.x) (lit< tt) c.away.ensures.small
    c.away.ensures.value in
    let ray = read_as (2 ^ 20) _ (away_of m.count m.places.y p.y) (lit< tt) c.away-2.ensures.small
    c.away-2.ensures.value in
    let raz = read_as (2 ^ 20) _ (away_of m.count m.places.z p.z) (lit< tt) c.away-3.ensures.small
    c.away-3.ensures.value in
    let ex = read_as (2 ^ 67) _ (int_shr n.x k *ℤ away_of m.count m.places.x p.x) (lit< tt)
    c.along-by_x.ensures.small (c.along-by_x.ensures.value ∙ rw (rnx, rax) refl) in
    let ey = read_as (2 ^ 67) _ (int_shr n.y k *ℤ away_of m.count m.places.y p.y) (lit< tt)
    c.along-by_y.ensures.small (c.along-by_y.ensures.value ∙ rw (rny, ray) refl) in
    let ez = read_as (2 ^ 67) _ (int_shr n.z k *ℤ away_of m.count m.places.z p.z) (lit< tt)
    c.along-by_z.ensures.small (c.along-by_z.ensures.value ∙ rw (rnz, raz) refl) in
    let total : ℕ → ℤ = λ j. int_shr n.x j *ℤ away_of m.count m.places.x p.x
    +ℤ int_shr n.y j *ℤ away_of m.count m.places.y p.y
    +ℤ int_shr n.z j *ℤ away_of m.count m.places.z p.z in
    let sum = read_as (2 ^ 69) _ (total k) (lit< tt) c.add_three.ensures.small
    (c.add_three.ensures.value ∙ rw (ex, ey, ez) refl) in
    let value : c.near_wide.result ≡ near (total k) (16 * (size / 2 ^ k)) =
    c.near_wide.ensures.value ∙ ap (λ (t : ℤ). near t (16 * (size / 2 ^ k))) sum in
    let at_det : c.near_wide.result ≡ near (total k) (16 * (det / 2 ^ k)) =
    value ∙ ap (λ (s : ℕ). near (total k) (16 * (s / 2 ^ k))) same in
    let ek : k ≡ digits_above 36 det =
    c.digits_above-digits.ensures.value ∙ ap (λ (s : ℕ). digits_above 36 s) same in
    read_as (2 ^ 69) _ _ (lit< tt) near_small
    (at_det ∙ ap (λ (j : ℕ). near (total j) (16 * (det / 2 ^ j))) ek)
