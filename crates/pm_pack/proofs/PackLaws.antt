-- Writing packed texts.
use Rattle.std.proofs.Common.{◌≡◌, ℕ, List, [], ◌∷◌, ◌++◌, refl, sym, ◌∙◌, ap}
use Rattle.std.proofs.Common.{append_assoc}
use Rattle.std.proofs.lemmas.List.{append-nil}
use Rattle.std.specs.Int.{w32, to_be_bytes}
use Rattle.pm_coder.specs.declared.predictor.Predictor as predictor
use Rattle.pm_coder.specs.Coding.{Progress, ended}
use Rattle.pm_coder.specs.Coders.{Writing, Makes}
use Rattle.pm_coder.specs.RoundTrips.{first}
use Rattle.pm_coder.proofs.CoderLaws.{makes-none, made-are_read}
use Rattle.pm_pack.specs.Texts.{Known, word_choices, words_choices, known_after, all_known}
use Rattle.pm_pack.specs.Packed.{Says}
use Rattle.pm_pack.specs.Packing.{HasWritten}
use Rattle.pm_pack.proofs.TextLaws.{makes-join, words-append, words-one, words-none}
use Rattle.pm_pack.proofs.TextLaws.{known-none, known-more}

-- Before the first word.
pub writes-none : {P : Type 0} (k : predictor.Ghosts P) (from : Known P) (start : Progress)
    (words : List ℕ) → HasWritten k from start words words from start
writes-none k from start words = record {
  done = [];
  all = refl;
  known_is = sym (known-none k from);
  made = rw (words-none k from) (makes-none (Writing start));
}

-- After one more word.
pub writes-more : {P : Type 0} (k : predictor.Ghosts P) (from known new : Known P)
    (start at on : Progress) (words rest more : List ℕ) (w v : ℕ)
    → HasWritten k from start words rest known at → rest ≡ w ∷ more → v ≡ w
    → Makes (Writing at) (word_choices k known v) (Writing on) → new ≡ known_after k known v
    → HasWritten k from start words more new on
writes-more k from known new start at on words rest more w v h e same made learnt =
    let made' : Makes (Writing at) (word_choices k (all_known k from h.done) w) (Writing on) =
    rw h.known_is at (rw same at made) in
    let one : Makes (Writing at) (words_choices k (all_known k from h.done) (w ∷ []))
    (Writing on) = rw (words-one k (all_known k from h.done) w) made' in
    record {
      done = h.done ++ w ∷ [];
      all =
          h.all ∙ (ap (λ (l : List ℕ). h.done ++ l) e
          ∙ sym (append_assoc h.done (w ∷ []) more));
      known_is = known-more k from known new h.done w h.known_is (rw same at learnt);
      made = rw (words-append k h.done (w ∷ []) from)
          (makes-join (Writing start) (Writing at) (Writing on) (words_choices k from h.done)
          (words_choices k (all_known k from h.done) (w ∷ [])) h.made one);
    }

-- After the last word.
pub writes-all : {P : Type 0} (k : predictor.Ghosts P) (from known : Known P)
    (start at : Progress) (words rest : List ℕ) → HasWritten k from start words rest known at
    → rest ≡ [] → Makes (Writing start) (words_choices k from words) (Writing at)
writes-all k from known start at words rest h e =
    let all : words ≡ h.done =
    h.all ∙ (ap (λ (l : List ℕ). h.done ++ l) e ∙ append-nil h.done) in
    rw all h.made

-- What was written, its code bytes say.
pub code-says : {P : Type 0} (k : predictor.Ghosts P) (from : Known P) (code words : List ℕ)
    (p : Progress) → Makes (Writing (first [])) (words_choices k from words) (Writing p)
    → code ≡ ended p → Says k from code words
code-says k from code words p made e =
    let read = made-are_read (words_choices k from words) p [] made in
    let bytes : ended p ++ [] ≡ code = append-nil (ended p) ∙ sym e in
    record {
      end = record { interval = p.interval; bytes = to_be_bytes w32 p.interval.low ++ [] };
      made = rw bytes at read;
      all = refl;
    }
