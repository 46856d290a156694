-- Texts as the choices of their words.
use Rattle.std.proofs.Common.{◌≡◌, ◌≢◌, ℕ, ◌<◌, ◌⊎◌, inl, inr, List, [], ◌∷◌, ◌++◌}
use Rattle.std.proofs.Common.{refl, sym, ◌∙◌, ap, append_assoc, arith}
use Rattle.std.proofs.lemmas.List.{append-nil}
use Rattle.pm_coder.specs.declared.predictor.Predictor as predictor
use Rattle.pm_coder.specs.Intervals.{Choice}
use Rattle.pm_coder.specs.Coding.{AreFit, Progress, passed}
use Rattle.pm_coder.specs.Coders.{Coding, Reading, made, all_made, Can, Makes, Part}
use Rattle.pm_coder.proofs.IntervalLaws.{at_least}
use Rattle.pm_coder.proofs.CoderLaws.{readers-go_one_way, parts-join}
use Rattle.pm_coder.proofs.DifferLaws.{guesses-part}
use Rattle.pm_pack.specs.Hints.{guess_of, firsts_of}
use Rattle.pm_pack.specs.Texts.{Known, word_choices, known_after, words_choices, all_known}
use Rattle.pm_pack.specs.Texts.{AreWords}
use Rattle.pm_pack.proofs.GuessedLaws.{guess-small}
use Rattle.pm_pack.proofs.FirstsLaws.{guesses-differ}

-- Choices after others.
pub all_made-append : (xs ys : List Choice) (a : Coding)
    → all_made a (xs ++ ys) ≡ all_made (all_made a xs) ys
unfolding all_made
all_made-append [] ys a = refl
all_made-append (c ∷ xs) ys a = all_made-append xs ys (made a c)

pub can-append : (xs ys : List Choice) (a : Coding) → Can a xs → Can (all_made a xs) ys
    → Can a (xs ++ ys)
unfolding Can all_made
can-append [] ys a first rest = rest
can-append (c ∷ xs) ys a first rest =
    (first.0, can-append xs ys (made a c) first.1 rest)

pub can-front : (xs ys : List Choice) (a : Coding) → Can a (xs ++ ys) → Can a xs
unfolding Can
can-front [] ys a can = tt
can-front (c ∷ xs) ys a can = (can.0, can-front xs ys (made a c) can.1)

pub can-back : (xs ys : List Choice) (a : Coding) → Can a (xs ++ ys) → Can (all_made a xs) ys
unfolding Can all_made
can-back [] ys a can = can
can-back (c ∷ xs) ys a can = can-back xs ys (made a c) can.1

fit-append : (xs ys : List Choice) → AreFit xs → AreFit ys → AreFit (xs ++ ys)
fit-append [] ys first rest = rest
fit-append (c ∷ xs) ys first rest = (first.0, fit-append xs ys first.1 rest)

pub makes-join : (a b c : Coding) (xs ys : List Choice) → Makes a xs b → Makes b ys c
    → Makes a (xs ++ ys) c
makes-join a b c xs ys first rest =
    let can : Can (all_made a xs) ys = rw first.now at rest.can in
    let now : c ≡ all_made (all_made a xs) ys = rw first.now at rest.now in
    record {
      can = can-append xs ys a first.can can;
      fit = fit-append xs ys first.fit rest.fit;
      now = now ∙ sym (all_made-append xs ys a);
    }

-- Who reads goes on reading.
pub record IsReading (a : Coding) : Type 0 where
  pub at : Progress
  pub is : a ≡ Reading at

pub reading-on : (cs : List Choice) (p : Progress) → IsReading (all_made (Reading p) cs)
unfolding all_made
reading-on [] p = record { at = p; is = refl }
reading-on (c ∷ cs) p = reading-on cs (passed p c)

-- A word after others.
pub words-append : {P : Type 0} (k : predictor.Ghosts P) (ws vs : List ℕ) (m : Known P)
    → words_choices k m (ws ++ vs)
    ≡ words_choices k m ws ++ words_choices k (all_known k m ws) vs
unfolding words_choices all_known
words-append k [] vs m = refl
words-append k (w ∷ ws) vs m =
    ap (λ (cs : List Choice). word_choices k m w ++ cs)
    (words-append k ws vs (known_after k m w))
    ∙ sym (append_assoc (word_choices k m w) (words_choices k (known_after k m w) ws)
    (words_choices k (all_known k (known_after k m w) ws) vs))

pub words-one : {P : Type 0} (k : predictor.Ghosts P) (m : Known P) (w : ℕ)
    → words_choices k m (w ∷ []) ≡ word_choices k m w
unfolding words_choices
words-one k m w = append-nil (word_choices k m w)

pub known-append : {P : Type 0} (k : predictor.Ghosts P) (ws vs : List ℕ) (m : Known P)
    → all_known k m (ws ++ vs) ≡ all_known k (all_known k m ws) vs
unfolding all_known
known-append k [] vs m = refl
known-append k (w ∷ ws) vs m = known-append k ws vs (known_after k m w)

pub known-one : {P : Type 0} (k : predictor.Ghosts P) (m : Known P) (w : ℕ)
    → all_known k m (w ∷ []) ≡ known_after k m w
unfolding all_known
known-one k m w = refl

pub words-first : {P : Type 0} (k : predictor.Ghosts P) (m : Known P) (w : ℕ) (ws : List ℕ)
    → words_choices k m (w ∷ ws)
    ≡ word_choices k m w ++ words_choices k (known_after k m w) ws
unfolding words_choices
words-first k m w ws = refl

-- No words before any.
pub words-none : {P : Type 0} (k : predictor.Ghosts P) (m : Known P) → words_choices k m [] ≡ []
unfolding words_choices
words-none k m = refl

pub known-none : {P : Type 0} (k : predictor.Ghosts P) (m : Known P) → all_known k m [] ≡ m
unfolding all_known
known-none k m = refl

-- The choices of two words part.
pub words-part : {P : Type 0} (k : predictor.Ghosts P) (m : Known P) (w v : ℕ)
    → w < 4294967296 → v < 4294967296 → w ≢ v
    → Part (word_choices k m w) (word_choices k m v)
unfolding word_choices
words-part k m w v lw lv other =
    guesses-part k m.learnt _ _
    (guesses-differ (guess_of m.seen) (firsts_of m.seen) w v (guess-small m.seen) lw lv other)

-- The words begin with others.
pub record Begins (short long : List ℕ) : Type 0 where
  pub more : List ℕ
  pub is : long ≡ short ++ more

begins-none : (ws : List ℕ) → Begins [] ws
begins-none ws = record { more = ws; is = refl }

begins-more : (w : ℕ) (vs ws : List ℕ) → Begins vs ws → Begins (w ∷ vs) (w ∷ ws)
begins-more w vs ws b = record { more = b.more; is = ap (λ (l : List ℕ). w ∷ l) b.is }

same_or_other : (a b : ℕ) → (a ≡ b) ⊎ (a ≢ b)
same_or_other a b =
    elim (at_least a b) [
      | inl le ↦
          elim (at_least b a) [
            | inl ge ↦ inl (omega arith)
            | inr lt ↦ inr (λ e. omega arith)
          ]
      | inr lt ↦ inr (λ e. omega arith)
    ]

-- What may be read after a word that both begin with.
after_word : {P : Type 0} (k : predictor.Ghosts P) (w : ℕ) (ws : List ℕ) (m : Known P)
    (p q : Progress) → all_made (Reading p) (word_choices k m w) ≡ Reading q
    → Can (Reading p) (words_choices k m (w ∷ ws))
    → Can (Reading q) (words_choices k (known_after k m w) ws)
after_word k w ws m p q is can =
    rw is at (can-back (word_choices k m w) (words_choices k (known_after k m w) ws) (Reading p)
    (rw (words-first k m w ws) at can))

-- Of two lists of words that a decoder may read one begins with the other.
pub readers-read_one : {P : Type 0} (k : predictor.Ghosts P) (vs ws : List ℕ) (m : Known P)
    (p : Progress) → AreWords vs → AreWords ws → Can (Reading p) (words_choices k m vs)
    → Can (Reading p) (words_choices k m ws) → Begins vs ws ⊎ Begins ws vs
readers-read_one k [] ws m p fv fw cv cw = inl (begins-none ws)
readers-read_one k (v ∷ vs) [] m p fv fw cv cw = inr (begins-none (v ∷ vs))
readers-read_one k (v ∷ vs) (w ∷ ws) m p fv fw cv cw =
    elim (same_or_other v w) [
      | inl same ↦
          let on = reading-on (word_choices k m v) p in
          let cw' : Can (Reading p) (words_choices k m (v ∷ ws)) = rw same cw in
          let cv' = after_word k v vs m p on.at on.is cv in
          let cw'' = after_word k v ws m p on.at on.is cw' in
          elim (readers-read_one k vs ws (known_after k m v) on.at fv.1 fw.1 cv' cw'') [
            | inl b ↦ inl (rw same (begins-more w vs ws b))
            | inr b ↦ inr (rw same (begins-more w ws vs b))
          ]
      | inr other ↦
          absurd (readers-go_one_way p _ _ (rw (words-first k m v vs) at cv)
          (rw (words-first k m w ws) at cw)
          (parts-join (word_choices k m v) (word_choices k m w) _ _
          (words-part k m v w fv.0 fw.0 other)))
    ]

-- What is known after one more word.
pub known-more : {P : Type 0} (k : predictor.Ghosts P) (from known new : Known P)
    (words : List ℕ) (w : ℕ) → known ≡ all_known k from words → new ≡ known_after k known w
    → new ≡ all_known k from (words ++ w ∷ [])
known-more k from known new words w is on =
    rw (known-append k words (w ∷ []) from, known-one k (all_known k from words) w)
    (rw is at on)
