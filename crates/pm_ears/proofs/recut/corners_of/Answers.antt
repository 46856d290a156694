use Rattle.std.proofs.Common.{◌≡◌, ◌++◌, List, map, take, ℕ, ap, ◌∙◌, sym, append_assoc}
use Rattle.std.proofs.lemmas.List.{append-nil, map_more}
use Rattle.pm_base.specs.declared.mesh.Corners.{Corners}
use Rattle.pm_ears.specs.Recutting.{first_two}
use Rattle.pm_ears.proofs.recut.corners_of.Goals as goal

pub loop-face-init : goal.loop-face-init
loop-face-init c = c.in_ok-corners.ensures ∙ sym (append-nil (first_two c.args.fan.now))

pub loop-face-preserved : goal.loop-face-preserved
loop-face-preserved c =
    let fan = c.args.fan.now in
    let i = c.loop-face.face-index in
    let was : c.loop-face.corners.items ≡ first_two fan ++ map (λ (g : Corners). g.c) (take i fan) =
    c.loop-face.invariant in
    rw (c.in_ok-push.ensures.items, was, append_assoc)
    (ap (λ (l : List ℕ). first_two fan ++ l)
    (sym (map_more (λ (g : Corners). g.c) fan i _ c.loop-face-test.true)))
