-- A text is no size.
use Rattle.std.proofs.Common.{◌≡◌, ℕ, Bool, true, false, List, Option, Some, None, IfSome}
use Rattle.std.proofs.Common.{if◌then◌else◌, subst}
use Rattle.pm_program.specs.declared.request.Request.{Request}
use Rattle.pm_program.specs.declared.request.Request.TheVariants as requests
use Rattle.pm_program.specs.Requests.{text_asked}
use Rattle.prepare.specs.declared.words.Asked.{Asked}
use Rattle.obj_prepare.specs.Placing.{IsSize}
use Rattle.prepare.specs.Words.{HasSize}

sized : (help version : Bool) (h v : Request Asked) → HasSize h → HasSize v
    → IfSome (if help then Some h else if version then Some v else None) HasSize
sized true version h v a b = a
sized false true h v a b = b
sized false false h v a b = tt

pub texts_have_size : (word : List ℕ) (r : Option (Request Asked)) → r ≡ text_asked word
    → IfSome r HasSize
texts_have_size word r is = rw is (sized _ _ requests.Help requests.Version tt tt)

pub size_of : (asks : Option (Request Asked)) (a : Asked) → asks ≡ Some (requests.Work a)
    → IfSome asks HasSize → IsSize a.size
size_of asks a is sized = subst (λ (r : Option (Request Asked)). IfSome r HasSize) is sized
