-- What a sink gained is read as the mesh that was made, comes back, and leads back to the points of
-- the text.
use Rattle.std.proofs.Common.{◌≡◌, ℕ, List, Option, Some, None, IfSome, subst}
use Rattle.obj_prepare.specs.Placing.{IsSize}
use Rattle.prepare.specs.Ending.{Written}
use Rattle.prepare.specs.declared.words.Asked.{Asked}
use Rattle.prepare.specs.Gains.{GainsFitText, GainsWayBack}
use Rattle.obj_fit.proofs.ReadLaws.{texts_are_read}
use Rattle.obj_fit.proofs.AgainLaws.{texts_come_back}
use Rattle.obj_fit.proofs.BackLaws.{texts_lead_back}

written_fits : (size : Option ℕ) (bytes notes : List ℕ) (old new : Option (List ℕ)) → IsSize size
    → Written size bytes notes old new → GainsFitText old new
written_fits size bytes notes old new sized w =
    let fit = texts_are_read size bytes w.done None sized w.outcome in
    record {
      text = w.done.text;
      gained = w.gained;
      fit = fit;
      comes_back =
          texts_come_back size bytes w.done None fit.mesh sized w.outcome fit.read;
    }

pub gained_fits : (size : Option ℕ) (left : Option (List ℕ)) (notes : List ℕ)
    (old new : Option (List ℕ)) → IsSize size
    → IfSome left (λ bytes. Written size bytes notes old new)
    → IfSome left (λ bytes. GainsFitText old new)
gained_fits size None notes old new sized w = tt
gained_fits size (Some bytes) notes old new sized w = written_fits size bytes notes old new sized w

written_leads : (size : Option ℕ) (bytes notes : List ℕ) (old new : Option (List ℕ)) → IsSize size
    → Written size bytes notes old new → GainsWayBack size bytes old new
written_leads size bytes notes old new sized w =
    let fit = texts_are_read size bytes w.done None sized w.outcome in
    record {
      text = w.done.text;
      mesh = fit.mesh;
      gained = w.gained;
      read = fit.read;
      leads = λ s spells some. texts_lead_back size bytes s w.done None fit.mesh sized spells
          w.outcome fit.read some;
    }

pub gained_leads : (mine other : Asked) (left : Option (List ℕ)) (notes : List ℕ)
    (old new : Option (List ℕ)) → mine ≡ other → IsSize mine.size
    → IfSome left (λ bytes. Written mine.size bytes notes old new)
    → IfSome left (λ bytes. GainsWayBack other.size bytes old new)
gained_leads mine other None notes old new same sized w = tt
gained_leads mine other (Some bytes) notes old new same sized w =
    subst (λ (a : Asked). GainsWayBack a.size bytes old new) same
    (written_leads mine.size bytes notes old new sized w)
