-- The last of the words tells whether the border is kept, and a text asks for no work.
use Rattle.std.proofs.Common.{◌≡◌, ℕ, ◌-◌, Bool, true, false, List, [], ◌∷◌, ◌++◌, length}
use Rattle.std.proofs.Common.{take, String, slice_index_or, Option, Some, None, IfSome}
use Rattle.std.proofs.Common.{map, if◌then◌else◌, refl, sym, ◌∙◌, ap, arith, length-append}
use Rattle.std.specs.Prelude.{nat_eq, codes}
use Rattle.std.specs.String.{string_bytes}
use Rattle.std.specs.Cmp.Lexicographic.{pointwise}
use Rattle.std.specs.declared.alloc.Global.{Global}
use Rattle.std.proofs.Math.Seq.{get_or-append_seam, take-append_seam}
use Rattle.std.proofs.lemmas.Bool.{false≢true}
use Rattle.std.proofs.lemmas.List.{map-append}
use Rattle.pm_program.specs.declared.request.Request.{Request}
use Rattle.pm_program.specs.declared.request.Request.TheVariants as requests
use Rattle.pm_program.specs.Requests.{text_asked}
use Rattle.pm_commands.specs.declared.asked.Asked.{Asked}
use Rattle.pm_commands.specs.declared.asked.Border.TheVariants as borders
use Rattle.simplify.specs.Words.{with_border, last_word, work_of, IsPossible}

pick_true : {A : Type 0} (test : Bool) (a b : A) → test ≡ true → (if test then a else b) ≡ a
pick_true true a b is = refl
pick_true false a b is = absurd (false≢true is)

pick_false : {A : Type 0} (test : Bool) (a b : A) → test ≡ false → (if test then a else b) ≡ b
pick_false true a b is = absurd (false≢true (sym is))
pick_false false a b is = refl

-- The number of the last word, and the words before it.
module _ (before : List (List ℕ)) (last : List ℕ) where
  place : length (before ++ last ∷ []) - 1 ≡ length before
  place = omega (arith, length-append before (last ∷ []))

  last_is : last_word (before ++ last ∷ []) ≡ last
  last_is = ap (λ i. slice_index_or (before ++ last ∷ []) i []) place
      ∙ get_or-append_seam before last [] []

  before_is : take (length (before ++ last ∷ []) - 1) (before ++ last ∷ []) ≡ before
  before_is = ap (λ i. take i (before ++ last ∷ [])) place ∙ take-append_seam before (last ∷ [])

module _ (words before : List (String Global)) (last : String Global) (are : words ≡ before
    ++ last ∷ []) where
  spelled : map string_bytes words ≡ map string_bytes before ++ string_bytes last ∷ []
  spelled = ap (map string_bytes) are ∙ map-append string_bytes before (last ∷ [])

  last_bytes : last_word (map string_bytes words) ≡ string_bytes last
  last_bytes = ap last_word spelled ∙ last_is (map string_bytes before) (string_bytes last)

  pub last_kept :
      pointwise nat_eq (string_bytes last) (codes "--keep-border") ≡ true →
      work_of (map string_bytes words) ≡ with_border borders.Kept (map string_bytes before)
  unfolding work_of
  last_kept flag =
      let fronts =
      ap (λ l. take (length l - 1) l) spelled
      ∙ before_is (map string_bytes before) (string_bytes last) in
      pick_true _ _ _ (ap (λ w. pointwise nat_eq w (codes "--keep-border")) last_bytes ∙ flag)
      ∙ ap (with_border borders.Kept) fronts

  pub last_free :
      pointwise nat_eq (string_bytes last) (codes "--keep-border") ≡ false →
      work_of (map string_bytes words) ≡ with_border borders.Free (map string_bytes words)
  unfolding work_of
  last_free no_flag =
      pick_false _ _ _ (ap (λ w. pointwise nat_eq w (codes "--keep-border")) last_bytes ∙ no_flag)

pub no_last :
    (words : List (String Global)) → length words ≡ 0 →
    work_of (map string_bytes words) ≡ with_border borders.Free (map string_bytes words)
unfolding work_of
no_last [] none = refl
no_last (w ∷ ws) none = absurd (omega (arith, none))

possible : (help version : Bool) (h v : Request Asked) → IsPossible h → IsPossible v
    → IfSome (if help then Some h else if version then Some v else None) IsPossible
possible true version h v a b = a
possible false true h v a b = b
possible false false h v a b = tt

pub texts_are_possible : (word : List ℕ) (r : Option (Request Asked)) → r ≡ text_asked word
    → IfSome r IsPossible
texts_are_possible word r is = rw is (possible _ _ requests.Help requests.Version tt tt)
