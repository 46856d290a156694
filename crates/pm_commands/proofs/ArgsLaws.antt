-- What gathered arguments ask for, the words after the first of them do.
use Rattle.std.proofs.Common.{◌≡◌, ◌⊎◌, inl, ℕ, List, String, Option, Some, None, Result, Ok, map}
use Rattle.std.proofs.Common.{drop, refl, sym, ◌∙◌, subst}
use Rattle.std.specs.String.{string_bytes}
use Rattle.std.specs.declared.alloc.Global.{Global}
use Rattle.std.specs.declared.io.Error.{Error}
use Rattle.std.specs.declared.vec.IntoIter.{IntoIter}
use Rattle.std.specs.Vec.Iter.{into_iter_items}
use Rattle.pm_commands.specs.declared.asked.Asked.{Asked}
use Rattle.pm_commands.specs.Asking.{AskBy, ArgsAskBy}

module _ (reads : List (List ℕ) → Option Asked)
    (args : Result (IntoIter (String Global) Global) Error)
    (it : IntoIter (String Global) Global) (gathered words : List (String Global))
    (is : args ≡ Ok it)
    (are : gathered ≡ drop 1 (into_iter_items it)) (same : words ≡ gathered) where
  pub words_ask : (a : Asked) → ArgsAskBy reads args a → AskBy reads words a
  words_ask a asks =
      subst (λ (l : List (String Global)). AskBy reads l a) (sym (same ∙ are))
      (subst (λ (r : Result (IntoIter (String Global) Global) Error). ArgsAskBy reads r a) is asks)

  args_ask : (a : Asked) → AskBy reads words a → ArgsAskBy reads args a
  args_ask a asks =
      subst (λ (r : Result (IntoIter (String Global) Global) Error). ArgsAskBy reads r a) (sym is)
      (subst (λ (l : List (String Global)). AskBy reads l a) (same ∙ are) asks)

  -- Where they ask for nothing, the status is that of words which aren't understood.
  pub refused_words :
      (status : ℕ) → (reads (map string_bytes words) ≡ None → status ≡ 2) →
      ((a : Asked) → ArgsAskBy reads args a → ⊥) → (status ≡ 2) ⊎ (status ≡ 5)
  refused_words status refused nothing = go (reads (map string_bytes words)) refl
    where
      go : (o : Option Asked) → reads (map string_bytes words) ≡ o → (status ≡ 2) ⊎ (status ≡ 5)
      go None e = inl (refused e)
      go (Some a) e = absurd (nothing a (args_ask a e))
