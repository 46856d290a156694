-- Reading packed texts.
use Rattle.std.proofs.Common.{◌≡◌, ◌≢◌, ◌⊎◌, ℕ, ◌<◌, inl, inr, List, [], ◌∷◌, ◌++◌}
use Rattle.std.proofs.Common.{length, Some, None, refl, sym, ◌∙◌, ap}
use Rattle.std.proofs.lemmas.List.{append-nil}
use Rattle.pm_coder.specs.declared.predictor.Predictor as predictor
use Rattle.pm_coder.specs.Coding.{Progress}
use Rattle.pm_coder.specs.Coders.{Reading, all_made, Can}
use Rattle.pm_coder.specs.RoundTrips.{first}
use Rattle.pm_format.specs.declared.fault.FormatError.{FormatError}
use Rattle.pm_format.specs.declared.fault.FormatError.TheVariants as faults
use Rattle.pm_format.specs.Words.{words_of, spelled}
use Rattle.pm_format.specs.Stream.{stream, stream_words}
use Rattle.pm_format.specs.Faults.{stream_fault}
use Rattle.pm_format.proofs.WordLaws.{words_again}
use Rattle.pm_format.proofs.TextLaws.{spelled-append}
use Rattle.pm_format.proofs.WordFits.{stream_is_words}
use Rattle.pm_format.proofs.WholeLaws.{whole_text, no_longer}
use Rattle.pm_pack.specs.Texts.{Known, AreWords, word_choices, words_choices, known_after}
use Rattle.pm_pack.specs.Texts.{all_known}
use Rattle.pm_pack.specs.Packed.{IsStream, Says}
use Rattle.pm_pack.specs.Unpacking.{HasRead, IsCut, ReadsAll, CutsOff, SaysFault, GoesOn, IsFailOf}
use Rattle.pm_pack.specs.declared.reading.UnpackFail.{UnpackFail}
use Rattle.pm_pack.specs.declared.reading.UnpackFail.TheVariants as fails
use Rattle.pm_pack.proofs.TextLaws.{can-back, words-append}
use Rattle.pm_pack.proofs.TextLaws.{words-first, can-front}
use Rattle.pm_pack.proofs.TextLaws.{Begins, readers-read_one}

-- A stream text is that of its words.
pub record IsSpelled (text words : List ℕ) : Type 0 where
  pub fit : AreWords words
  pub is : text ≡ spelled words
  pub words_are : words_of text ≡ words

spelled-words : (ws : List ℕ) → AreWords ws → words_of (spelled ws) ≡ ws
spelled-words ws fit =
    rw (append-nil (spelled ws), append-nil ws) at (words_again ws [] fit)

pub stream-spelled : (text : List ℕ) → IsStream text → IsSpelled text (words_of text)
unfolding stream
stream-spelled text s =
    let fit = stream_is_words s.digits s.h s.is.few s.is.shape in
    let words : words_of text ≡ stream_words s.digits s.h =
    ap words_of s.is.text ∙ spelled-words (stream_words s.digits s.h) fit in
    record {
      fit = rw words fit;
      is = s.is.text ∙ ap spelled (sym words);
      words_are = refl;
    }

-- It has no fault, whatever follows.
pub stream-fine : (text more : List ℕ) → IsStream text → stream_fault (text ++ more) ≡ None
stream-fine text more s =
    rw s.is.text (whole_text s.digits s.h more s.is.few s.is.shape)

-- Two of which one begins with the other are one.
stream-same : (s t more : List ℕ) → IsStream s → IsStream t → t ≡ s ++ more → s ≡ t
stream-same s t more ss st e =
    let none : more ≡ [] =
    no_longer ss.digits st.digits ss.h st.h more ss.is.few st.is.few ss.is.shape st.is.shape
    (ap (λ (l : List ℕ). l ++ more) (sym ss.is.text) ∙ (sym e ∙ st.is.text)) in
    sym (e ∙ (ap (λ (l : List ℕ). s ++ l) none ∙ append-nil s))

-- What was read, and what a packed text says: one begins with the other.
pub says-begins : {P : Type 0} (k : predictor.Ghosts P) (from : Known P)
    (code text words : List ℕ) (at : Progress) → IsStream text → HasRead k from code words at
    → Says k from code (words_of text) → Begins words (words_of text) ⊎ Begins (words_of text) words
says-begins k from code text words at s r said =
    let t = stream-spelled text s in
    readers-read_one k words (words_of text) from (first code) r.fit t.fit r.made.can said.made.can

-- The texts of words that begin with others.
pub spelled-begins : (short long : List ℕ) (b : Begins short long)
    → spelled long ≡ spelled short ++ spelled b.more
spelled-begins short long b = ap spelled b.is ∙ spelled-append short b.more

-- Where the words read so far are cut off, those of a text don't end in them.
cut-short : (text words : List ℕ) → IsStream text → IsCut (spelled words)
    → ¬ Begins (words_of text) words
cut-short text words s cut b =
    let t = stream-spelled text s in
    let e : spelled words ≡ text ++ spelled b.more =
    spelled-begins (words_of text) words b ∙ ap (λ (l : List ℕ). l ++ spelled b.more) (sym t.is) in
    let none = stream-fine text (spelled b.more) s in
    let both : None ≡ Some (faults.Truncated (length (spelled words))) =
    sym none ∙ (ap stream_fault (sym e) ∙ cut) in
    absurd cc

-- Where no word can be read, no more words are.
none-more : {P : Type 0} (k : predictor.Ghosts P) (m : Known P) (p : Progress) (more : List ℕ)
    → AreWords more → ((w : ℕ) → w < 4294967296 → ¬ Can (Reading p) (word_choices k m w))
    → Can (Reading p) (words_choices k m more) → more ≡ []
none-more k m p [] fit none can = refl
none-more k m p (w ∷ ws) fit none can =
    absurd (none w fit.0 (can-front (word_choices k m w) (words_choices k (known_after k m w) ws)
    (Reading p) (rw (words-first k m w ws) at can)))

words-after : (short more : List ℕ) → AreWords (short ++ more) → AreWords more
words-after [] more fit = fit
words-after (w ∷ short) more fit = words-after short more fit.1

-- What may be read after the words that were read.
can-after : {P : Type 0} (k : predictor.Ghosts P) (from : Known P) (code words long : List ℕ)
    (at : Progress) (b : Begins words long) → HasRead k from code words at
    → Can (Reading (first code)) (words_choices k from long)
    → Can (Reading at) (words_choices k (all_known k from words) b.more)
can-after k from code words long at b r can =
    let can' = rw (b.is, words-append k words b.more from) at can in
    rw (← r.made.now) at (can-back (words_choices k from words)
    (words_choices k (all_known k from words) b.more) (Reading (first code)) can')

cut-more : {P : Type 0} (k : predictor.Ghosts P) (from : Known P) (code text : List ℕ)
    → IsStream text → (c : CutsOff k from code) → Says k from code (words_of text)
    → ¬ Begins c.words (words_of text)
cut-more k from code text s c said b =
    let t = stream-spelled text s in
    let fit : AreWords b.more = words-after c.words b.more (rw b.is at t.fit) in
    let none : b.more ≡ [] =
    none-more k (all_known k from c.words) c.at b.more fit c.none
    (can-after k from code c.words (words_of text) c.at b c.read said.made.can) in
    let same : words_of text ≡ c.words =
    b.is ∙ (ap (λ (l : List ℕ). c.words ++ l) none ∙ append-nil c.words) in
    cut-short text c.words s c.cut
    (record { more = []; is = sym same ∙ sym (append-nil (words_of text)) })

pub cut-unsaid : {P : Type 0} (k : predictor.Ghosts P) (from : Known P) (code text : List ℕ)
    → IsStream text → CutsOff k from code → ¬ Says k from code (words_of text)
cut-unsaid k from code text s c said =
    elim (says-begins k from code text c.words c.at s c.read said) [
      | inl b ↦ cut-more k from code text s c said b
      | inr b ↦ cut-short text c.words s c.cut b
    ]

-- The words have a fault.
fault-more : {P : Type 0} (k : predictor.Ghosts P) (from : Known P) (code text : List ℕ)
    (fault : FormatError) → IsStream text → (f : SaysFault k from code fault)
    → ¬ Begins f.words (words_of text)
fault-more k from code text fault s f b =
    let t = stream-spelled text s in
    let e : text ≡ spelled f.words ++ spelled b.more =
    t.is ∙ spelled-begins f.words (words_of text) b in
    let none = stream-fine text [] s in
    let fine : stream_fault text ≡ None = rw (append-nil text) at none in
    let both : None ≡ Some fault =
    sym fine ∙ (ap stream_fault e ∙ f.faulty (spelled b.more)) in
    absurd cc

fault-short : {P : Type 0} (k : predictor.Ghosts P) (from : Known P) (code text : List ℕ)
    (fault : FormatError) → IsStream text → (f : SaysFault k from code fault)
    → ¬ Begins (words_of text) f.words
fault-short k from code text fault s f b =
    let t = stream-spelled text s in
    let e : spelled f.words ≡ text ++ spelled b.more =
    spelled-begins (words_of text) f.words b
    ∙ ap (λ (l : List ℕ). l ++ spelled b.more) (sym t.is) in
    let none = stream-fine text (spelled b.more) s in
    let faulty = rw (append-nil (spelled f.words)) at (f.faulty []) in
    let both : None ≡ Some fault = sym none ∙ (ap stream_fault (sym e) ∙ faulty) in
    absurd cc

pub fault-unsaid : {P : Type 0} (k : predictor.Ghosts P) (from : Known P) (code text : List ℕ)
    (fault : FormatError) → IsStream text → SaysFault k from code fault
    → ¬ Says k from code (words_of text)
fault-unsaid k from code text fault s f said =
    elim (says-begins k from code text f.words f.at s f.read said) [
      | inl b ↦ fault-more k from code text fault s f b
      | inr b ↦ fault-short k from code text fault s f b
    ]

-- Two stream texts of which code bytes say the words are one.
one-said : {P : Type 0} (k : predictor.Ghosts P) (from : Known P) (code s t words : List ℕ)
    (at : Progress) → IsStream s → IsStream t → t ≡ spelled words → HasRead k from code words at
    → Says k from code (words_of s) → s ≡ t
one-said k from code s t words at ss st e r said =
    let is = stream-spelled s ss in
    elim (says-begins k from code s words at ss r said) [
      | inl b ↦
          sym (stream-same t s (spelled b.more) st ss
          (is.is ∙ (spelled-begins words (words_of s) b
          ∙ ap (λ (l : List ℕ). l ++ spelled b.more) (sym e))))
      | inr b ↦
          stream-same s t (spelled b.more) ss st
          (e ∙ (spelled-begins (words_of s) words b
          ∙ ap (λ (l : List ℕ). l ++ spelled b.more) (sym is.is)))
    ]

-- The end of the reading is one.
reading-same : (p q : Progress) → Reading p ≡ Reading q → p ≡ q
reading-same p q e = cc

pub trailing-unsaid : {P : Type 0} (k : predictor.Ghosts P) (from : Known P)
    (code text : List ℕ) → IsStream text → GoesOn k from code
    → ¬ Says k from code (words_of text)
trailing-unsaid k from code text s g said =
    let a = g.all in
    let same : text ≡ g.text =
    one-said k from code text g.text a.words g.at s a.stream a.text_is a.read said in
    let words : words_of text ≡ a.words =
    ap words_of (same ∙ a.text_is) ∙ spelled-words a.words a.read.fit in
    let now : Reading said.end ≡ all_made (Reading (first code)) (words_choices k from a.words) =
    rw words at said.made.now in
    let end : said.end ≡ g.at = reading-same said.end g.at (now ∙ sym a.read.made.now) in
    g.left (rw end at said.all)

-- Code bytes that were refused say no stream text.
pub fail-unsaid : {P : Type 0} (k : predictor.Ghosts P) (from : Known P) (code text : List ℕ)
    (e : UnpackFail) → e ≢ fails.OutOfMemory → IsFailOf k from code e → IsStream text
    → ¬ Says k from code (words_of text)
fail-unsaid k from code text fails.NotPacked other f s said = f
fail-unsaid k from code text fails.Cut other f s said = cut-unsaid k from code text s f said
fail-unsaid k from code text fails.Trailing other f s said =
    trailing-unsaid k from code text s f said
fail-unsaid k from code text (fails.Stream fault) other f s said =
    fault-unsaid k from code text fault s f said
fail-unsaid k from code text fails.OutOfMemory other f s said = other refl

-- A text whose words were read to the end is said.
pub all-said : {P : Type 0} (k : predictor.Ghosts P) (from : Known P) (code text : List ℕ)
    (at : Progress) → ReadsAll k from code at text → length at.bytes ≡ 4
    → Says k from code (words_of text)
all-said k from code text at a four =
    let words : words_of text ≡ a.words =
    ap words_of a.text_is ∙ spelled-words a.words a.read.fit in
    record { end = at; made = rw words a.read.made; all = four }

-- Of two texts that code bytes say one is the other.
pub said-one : {P : Type 0} (k : predictor.Ghosts P) (from : Known P) (code s t : List ℕ)
    → IsStream s → IsStream t → Says k from code (words_of s) → Says k from code (words_of t)
    → s ≡ t
said-one k from code s t ss st said said' =
    let is = stream-spelled t st in
    one-said k from code s t (words_of t) said'.end ss st is.is
    (record { fit = is.fit; made = said'.made }) said
