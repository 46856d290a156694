-- What was finished of a text that needs nothing.
use Rattle.std.proofs.Common.{◌≡◌, ℕ, List, Option, None, Some, IfSome, Result, Ok, refl, subst}
use Rattle.pm_io.specs.Bytes.{Gains}
use Rattle.pm_io.specs.Puts.{Said}
use Rattle.obj_fit.specs.declared.fault.Fault.{Fault}
use Rattle.obj_fit.specs.Outcome.{Done}
use Rattle.obj_fit.specs.Laws.{as_it_is}
use Rattle.obj_fit.proofs.OutcomeLaws.{one_outcome}
use Rattle.obj_fit.proofs.StayLaws.{fit_scans_stay}
use Rattle.prepare.specs.Ending.{Finished}
use Rattle.prepare.specs.Gains.{StaysAsItIs}

one_done : (r : Result Done Fault) (a b : Done) → r ≡ Ok a → r ≡ Ok b → a ≡ b
one_done r a b is are = cc

-- What was finished of a text that needs nothing.
finished_stays : (size : Option ℕ) (bytes : List ℕ) (old new err_old err_new : Option (List ℕ))
    (before now : ℕ) → Finished size bytes old new err_old err_new before now
    → StaysAsItIs size bytes old new err_old err_new before now
finished_stays size bytes old new err_old err_new before now f = λ s means needs.
    let (k, inward, stays) = fit_scans_stay size bytes s means needs in
    let same : Ok f.done ≡ Ok (as_it_is size s k) =
    (one_outcome size bytes (Ok f.done) (Ok (as_it_is size s k)) None None f.outcome stays).0 in
    let done = one_done (Ok f.done) f.done (as_it_is size s k) refl same in (
      k,
      inward,
      subst (λ (d : Done). Gains old new d.text) done f.gained,
      subst (λ (d : Done). Said err_old err_new before now d.notes) done f.said,
    )

pub left_stays : (size : Option ℕ) (left old new err_old err_new : Option (List ℕ)) (before now : ℕ)
    → IfSome left (λ bytes. Finished size bytes old new err_old err_new before now)
    → IfSome left (λ bytes. StaysAsItIs size bytes old new err_old err_new before now)
left_stays size None old new err_old err_new before now f = tt
left_stays size (Some bytes) old new err_old err_new before now f =
    finished_stays size bytes old new err_old err_new before now f
