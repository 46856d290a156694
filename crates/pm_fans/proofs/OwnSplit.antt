-- An oriented manifold of which every vertex is used is its own split by fans.
use Rattle.std.proofs.Common.{ℕ, ◌<◌, refl, sym, ap, ◌∙◌, subst, List, arith}
use Rattle.std.proofs.lemmas.Grind.{common_steps}
use Rattle.std.specs.List.{range_with_len}
use Rattle.std.proofs.lemmas.List.FromFn.{length-range_with_len, get_or-range_with_len}
use Rattle.pm_base.specs.declared.mesh.Corners.{Corners}
use Rattle.pm_base.specs.Sides.{Net, net_of, side_count, next, prev, to, third, NoSideTwice}
use Rattle.pm_base.specs.Fans.{IsPairAt, IsUsed, IsOrientedManifold}
use Rattle.pm_base.specs.Rounds.{Goes, stay as halt, on as go}
use Rattle.pm_base.proofs.Sides.{next-next-next, stands_next, pair_at, one_side}
use Rattle.pm_base.proofs.FanLaws.{fan_round}
use Rattle.pm_fans.specs.Splits.{Turns, stay, on, IsSplitByFans}
use Rattle.pm_fans.specs.Orders.{IsSplitMesh}
use Rattle.pm_fans.proofs.Splitting.{twins_glued, first_pair}

-- From a pair on round a vertex the sides follow one another, where no directed side stands twice.
goes_turns : (m : Net) (once : NoSideTwice m) {v a x y0 : ℕ} (f0 : IsPairAt m v a y0) → Goes m v a x
    → (y : ℕ) (f : IsPairAt m v x y) → Turns m f0.side f.side
goes_turns m once f0 halt y f = subst (Turns m f0.side) (one_side m once f0 f) stay
goes_turns m once f0 (go w p) y f =
    let q = stands_next m (next p.side) (stands_next m p.side p.stands) in
    let k = twins_glued m once (prev p.side) f.side q
    (record {
      stands = f.stands;
      begins =
          f.at ∙ sym p.at ∙ sym (ap m.from (next-next-next p.side));
      ends = f.one ∙ sym p.two;
    }) in
    on (goes_turns m once f0 w _ p) p.stands k

own_fans : (m : Net) → IsOrientedManifold m → IsSplitByFans m m
own_fans m is = record {
  faces = refl;
  old = λ v. v;
  back = λ e l. refl;
  along = λ e g t r. r.twin.begins ∙ ap m.from (next-next-next e);
  apart = λ e t.
      let once = is.no_side_twice in
      let (a, all) = fan_round m (m.from e) (is.fans (m.from e) (e, t, refl)) in
      let pe : IsPairAt m (m.from e) (to m e) (third m e) = pair_at m e t in
      let (b, f0) =
      first_pair m once (m.from e) a (to m e) (third m e) (all (to m e) (third m e) pe) pe in (
        f0.side,
        f0.stands,
        λ g tg same.
            let pg : IsPairAt m (m.from e) (to m g) (third m g) = grind (arith, common_steps) in
            goes_turns m once f0 (all (to m g) (third m g) pg) (third m g) pg,
      );
}

pub manifolds_are_their_own_split : (fs : List Corners) (n : ℕ) → IsOrientedManifold (net_of fs)
    → ((e : ℕ) → e < side_count (net_of fs) → (net_of fs).from e < n)
    → ((v : ℕ) → v < n → IsUsed (net_of fs) v) → IsSplitMesh (net_of fs) fs (range_with_len 0 n)
manifolds_are_their_own_split fs n is low used =
    grind (arith, common_steps, get_or-range_with_len, length-range_with_len, own_fans)
