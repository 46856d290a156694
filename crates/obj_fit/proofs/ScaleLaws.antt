-- The first line tells the scale.
use Rattle.std.proofs.Common.{◌≡◌, ℕ, List, Option, refl, sym, subst}
use Rattle.obj_prepare.specs.declared.placing.Fit.{Fit}
use Rattle.obj_prepare.specs.declared.placing.Fit.TheVariants as fits
use Rattle.obj_prepare.specs.Back.{way_back_of}
use Rattle.obj_fit.specs.Texts.{head_line}
use Rattle.obj_fit.specs.declared.scale.Scale.{Scale}
use Rattle.obj_fit.specs.Scales.{scale_in, TellsScale}

line_tells : (fit : Fit) → TellsScale (head_line fit) (scale_in fit)
line_tells fits.Standing = refl
line_tells (fits.Scaled size b) = (way_back_of size b, refl, refl)

pub head_line_tells : (fit : Fit) (line : List ℕ) (scale : Option Scale) → line ≡ head_line fit
    → scale ≡ scale_in fit → TellsScale line scale
head_line_tells fit line scale is same =
    subst (λ l. TellsScale l scale) (sym is)
    (subst (λ s. TellsScale (head_line fit) s) (sym same) (line_tells fit))
