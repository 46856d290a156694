use Rattle.std.proofs.Common.{◌≡◌, ℕ, ◌<◌, ◌≤◌, Bool, List, length, slice_index_or, refl, sym}
use Rattle.std.proofs.Common.{subst, arith}
use Rattle.std.specs.Prelude.{ℤ}
use Rattle.pm_base.specs.Sides.{Net, net_of}
use Rattle.pm_turn.specs.declared.patches.Root.{Root}
use Rattle.pm_turn.specs.declared.choice.Sums.{Sums}
use Rattle.pm_turn.specs.Choice.{area_at, volume_at}
use Rattle.pm_turn.specs.Sums.{root_at, parity_at, no_sums, with_face, AreSums}
use Rattle.pm_turn.proofs.Summing.{none_summed, none_small, summed_more, small_more, small_by}
use Rattle.pm_turn.proofs.choice.patch_sums.Goals as goal

pub loop-face-init : goal.loop-face-init
loop-face-init c = record {
  sums = none_summed (net_of c.args.faces.now) c.args.places.now c.args.mates.now c.args.roots.now
      c.in_ok-sums.sums.items c.in_ok-sums.ensures;
  small = none_small (length c.args.faces.now) c.in_ok-sums.sums.items c.in_ok-sums.ensures;
}

pub add_face-requires-clause-small : goal.add_face-requires-clause-small
add_face-requires-clause-small c =
    let face : ℕ = c.loop-face.face in
    let r : ℕ = root_at c.args.roots.now face in
    let most : face ≤ 1048575 =
    omega (arith, c.loop-face-test.true, c.loop-face.auto.face-end, c.requires.short) in
    small_by face 1048575 (slice_index_or c.loop-face.sums.items r no_sums) most
    (c.loop-face.invariant.small r)

pub loop-face-preserved : goal.loop-face-preserved
loop-face-preserved c =
    let m : Net = net_of c.args.faces.now in
    let roots : List Root = c.args.roots.now in
    let face : ℕ = c.loop-face.face in
    let r : ℕ = root_at roots face in
    let inv = c.loop-face.invariant in
    let xs : List Sums = c.loop-face.sums.items in
    let ys : List Sums = c.add_face.new.sums.items in
    let l : face < m.faces = omega (arith, c.loop-face-test.true, c.loop-face.auto.face-end) in
    let below = c.requires.below face in
    let long = inv.sums.long in
    let low : r < length xs = omega (arith, below, l, long) in
    let parity : Bool = parity_at roots face in
    let bare : Bool = c.is_bare-bare.result in
    let area : ℕ = area_at m c.args.places.now face in
    let volume : ℤ = volume_at m c.args.places.now parity face in
    let new : Sums = with_face (slice_index_or xs r no_sums) parity bare area volume in
    record {
      sums = summed_more xs ys r new low c.add_face.ensures.items m c.args.places.now
          c.args.mates.now roots face parity bare volume refl refl (sym c.is_bare-bare.ensures) refl
          refl inv.sums;
      small = small_more xs ys r new low c.add_face.ensures.items face parity bare area volume
          refl c.add_face.ensures.area c.add_face.ensures.volume inv.small;
    }

pub returns : goal.returns
returns c =
    let m : Net = net_of c.args.faces.now in
    let end : c.loop-face.face ≡ m.faces =
    omega (arith, c.loop-face-test.false, c.loop-face.auto.face-end) in
    subst (λ n. AreSums m c.args.places.now c.args.mates.now c.args.roots.now n
    c.loop-face.sums.items) end c.loop-face.invariant.sums
