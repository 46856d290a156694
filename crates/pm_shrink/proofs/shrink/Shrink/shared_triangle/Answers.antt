use Rattle.std.proofs.Common.{◌∙◌, ap, sym}
use Rattle.std.proofs.lemmas.Bool.{false≢true}
use Rattle.pm_runs.proofs.Found.{found-runs, none-side}
use Rattle.pm_shrink.specs.Shrinking.{net_at}
use Rattle.pm_shrink.specs.Writes.{side_number}
use Rattle.pm_shrink.proofs.ObstacleLaws.{triangle_told, only_triangle}
use Rattle.pm_shrink.proofs.shrink.Shrink.shared_triangle.Goals as goal

pub returns-in_default : goal.returns-in_default
returns-in_default c e g r w f k =
    none-side (net_at c.args.self.now) c.args.b c.args.a (sym c.side_to-2.ensures.value
    ∙ ap side_number c.in_default.is-1) (g, w)

pub returns-in_default-2 : goal.returns-in_default-2
returns-in_default-2 c e g r w f k =
    none-side (net_at c.args.self.now) c.args.a c.args.b (sym c.side_to.ensures.value
    ∙ ap side_number c.in_default.is-0) (e, r)

pub third-v-requires : goal.third-v-requires
third-v-requires c =
    (found-runs (net_at c.args.self.now) c.args.a c.args.b c.in-Some-Some.left.0
    (sym c.side_to.ensures.value ∙ ap side_number c.in-Some-Some.is-0)).stands

pub third-w-requires : goal.third-w-requires
third-w-requires c =
    (found-runs (net_at c.args.self.now) c.args.b c.args.a c.in-Some-Some.right.0
    (sym c.side_to-2.ensures.value ∙ ap side_number c.in-Some-Some.is-1)).stands

pub returns-then-not-has_face : goal.returns-then-not-has_face
returns-then-not-has_face c =
    only_triangle (record {
      left = c.in-Some-Some.left.0;
      right = c.in-Some-Some.right.0;
      once = c.side_to.ensures.once;
      found_left = sym c.side_to.ensures.value ∙ ap side_number c.in-Some-Some.is-0;
      found_right = sym c.side_to-2.ensures.value ∙ ap side_number c.in-Some-Some.is-1;
      is_v = c.third-v.ensures.value;
      is_w = c.third-w.ensures.value;
    }) (λ f k. false≢true (sym c.if-not-has_face.true ∙ c.has_face.ensures.1 k))

pub returns : goal.returns
returns c =
    triangle_told (record {
      left = c.in-Some-Some.left.0;
      right = c.in-Some-Some.right.0;
      once = c.side_to.ensures.once;
      found_left = sym c.side_to.ensures.value ∙ ap side_number c.in-Some-Some.is-0;
      found_right = sym c.side_to-2.ensures.value ∙ ap side_number c.in-Some-Some.is-1;
      is_v = c.third-v.ensures.value;
      is_w = c.third-w.ensures.value;
    }) (c.has_face.ensures.0 c.if-not-has_face.false) c.face_with.result c.face_with.ensures
