-- Why a pair may not be collapsed. Most reasons are shown by one face, and last as long as its
-- corners are there.
use Rattle.std.specs.Prelude.{◌≡◌, ◌≢◌, ℕ, ◌⊎◌}
use Rattle.pm_base.specs.Place.{Place}
use Rattle.pm_base.specs.Sides.{Net, face_of, next, prev, to, third, Stands, IsBorderSide, IsBorder}
use Rattle.pm_runs.specs.Surfaces.{Surface, net_of_surface}
use Rattle.pm_runs.specs.Pairs.{Runs, Joined, Links, HasSide, IsThird, HasFace, IsPair}
use Rattle.pm_runs.specs.Pairs.{StaysUpright, IsLegalPair}
use Rattle.pm_shrink.specs.declared.verdict.Verdict.{Verdict}
use Rattle.pm_shrink.specs.declared.verdict.Verdict.TheVariants as verdicts

-- The face at a corner of one of the two turns over when the corner moves to the place.
pub record TurnsOver (s : Surface) (a b : ℕ) (place : Place) (e : ℕ) : Type 0 where
  pub end : ℕ
  pub other_end : ℕ
  pub pair : IsPair a b end other_end
  pub stands : Stands (net_of_surface s) e
  pub begins : (net_of_surface s).from e ≡ end
  pub not_to : to (net_of_surface s) e ≢ other_end
  pub not_third : third (net_of_surface s) e ≢ other_end
  pub turns : StaysUpright s place end (to (net_of_surface s) e) (third (net_of_surface s) e) → ⊥

-- w is a neighbour of both, and no third corner of a face that holds both.
pub record Strays (m : Net) (a b w : ℕ) : Type 0 where
  pub first : Joined m a w
  pub second : Joined m b w
  pub off : IsThird m a b w → ⊥

-- Both a, v, w and b, v, w are the corners of faces, and so are a, b, v and a, b, w.
pub record SharesTriangle (m : Net) (a b e g : ℕ) : Type 0 where
  pub left : Runs m e a b
  pub right : Runs m g b a
  pub first : HasFace m a (third m e) (third m g)
  pub second : HasFace m b (third m e) (third m g)

-- Two faces hold the pair, and their third corners stand in the face of side e.
pub record TellsTriangle (m : Net) (a b e : ℕ) : Type 0 where
  pub left : ℕ
  pub right : ℕ
  pub shares : SharesTriangle m a b left right
  pub left_in : (to m e ≡ third m left) ⊎ (third m e ≡ third m left)
  pub right_in : (to m e ≡ third m right) ⊎ (third m e ≡ third m right)

-- Nothing stands across any side of a face that holds both.
pub record IsAlone (m : Net) (a b e : ℕ) : Type 0 where
  pub links : Links m e a b
  pub own : IsBorderSide m e
  pub next_side : IsBorderSide m (next e)
  pub prev_side : IsBorderSide m (prev e)

-- The face of side e shows why the pair may not be collapsed to the place.
pub record Hinders (s : Surface) (a b : ℕ) (place : Place) (e : ℕ) : Type 0 where
  pub stands : Stands (net_of_surface s) e
  pub why : TurnsOver s a b place e
      ⊎ (Strays (net_of_surface s) a b ((net_of_surface s).from e)
      ⊎ (TellsTriangle (net_of_surface s) a b e ⊎ IsAlone (net_of_surface s) a b e))

-- Both are on the border, and two faces hold both. This lasts as long as the two are there.
pub record IsBarred (m : Net) (a b : ℕ) : Type 0 where
  pub first : IsBorder m a
  pub second : IsBorder m b
  pub forth : HasSide m a b
  pub back : HasSide m b a

-- What a verdict on a pair says.
abbrev pub VerdictTells : Surface → ℕ → ℕ → Place → Verdict → Type 0
VerdictTells s a b place verdicts.Legal = IsLegalPair s a b place
VerdictTells s a b place (verdicts.Waits f) = (x : ℕ) × (face_of x ≡ f.0) × Hinders s a b place x
VerdictTells s a b place verdicts.Barred = IsBarred (net_of_surface s) a b
