use Rattle.std.proofs.Common.{sym, subst}
use Rattle.pm_base.specs.Sides.{face_of}
use Rattle.pm_turn.specs.Unions.{Up}
use Rattle.pm_turn.proofs.JoinedSides.{begun, none_more, agreeing_more, odd_more, under_first}
use Rattle.pm_turn.proofs.JoinedSides.{under_second, elders_traced}
use Rattle.pm_turn.proofs.theory.unions_are_sound.Goals as goal

pub returns : goal.returns
returns c = record {
  grow = λ m n k t s a r o p q v w. (
    λ is agree. agreeing_more m n k t s a r p q v (subst (λ i. Up t (face_of k) i q) (sym is) w)
        agree,
    odd_more m n k t s a r o p q v w,
    under_first m n k t s a r o p q v w,
    under_second m n k t s a r o p q v w,
  );
  begin = begun;
  pass = none_more;
  traced = elders_traced;
}
