-- What the beginning of a packed text tells is of the whole.
use Rattle.std.proofs.Common.{◌≡◌, ℕ, ◌≤◌, ◌⊎◌, inl, inr, List, [], ◌++◌, true, length, take, min}
use Rattle.std.proofs.Common.{Ok, refl, sym, ◌∙◌, ap, subst, arith, append_assoc}
use Rattle.std.proofs.lemmas.List.{append-nil, append_cancel_left, take_all, length-take}
use Rattle.pm_coder.specs.RoundTrips.{first}
use Rattle.pm_coder.specs.Coding.{Progress}
use Rattle.pm_forest.specs.Forest.{Hierarchy, record_count}
use Rattle.pm_forest.specs.Rules.{HasShape}
use Rattle.pm_format.specs.declared.stage.Stage.{Stage}
use Rattle.pm_format.specs.declared.stage.Stage.TheVariants as stages
use Rattle.pm_format.specs.Words.{words_of, spelled}
use Rattle.pm_format.specs.Stream.{stream}
use Rattle.pm_format.specs.Reading.{forest_at, digits_at, digits_in}
use Rattle.pm_format.specs.Faults.{stream_digits}
use Rattle.pm_format.specs.Standing.{IsText, StandsAfter, HasUnits, has_begun, digits_of}
use Rattle.pm_format.specs.Decoding.{rest_from}
use Rattle.pm_format.proofs.WholeLaws.{text_again, digits_told, one_text}
use Rattle.pm_pack.specs.Packed.{head, slots, at_first, IsStream, Says}
use Rattle.pm_pack.specs.Unpacking.{HasRead}
use Rattle.pm_pack.specs.Beginnings.{first_of, IsOfWhole, BeginningsAreOfTheWhole}
use Rattle.pm_prefix.specs.Laws.{BeginsWith, FirstRecordsAreOfTheWhole}
use Rattle.pm_pack.proofs.TextLaws.{Begins, readers-read_one}
use Rattle.pm_pack.proofs.UnpackLaws.{stream-spelled, spelled-begins}
use Rattle.pm_pack.proofs.LongerLaws.{words-longer}
use Rattle.pm_pack.proofs.BegunLaws.{rest-begins}

-- Two texts that are one with what follows them.
record AreOne (a b : List ℕ) : Type 0 where
  more : List ℕ
  rest : List ℕ
  is : a ++ more ≡ b ++ rest

begun-one : (words text : List ℕ) → IsStream text
    → Begins words (words_of text) ⊎ Begins (words_of text) words → AreOne (spelled words) text
begun-one words text s (inl b) =
    let t = stream-spelled text s in
    record {
      more = spelled b.more;
      rest = [];
      is = sym (t.is ∙ spelled-begins words (words_of text) b) ∙ sym (append-nil text);
    }
begun-one words text s (inr b) =
    let t = stream-spelled text s in
    record {
      more = [];
      rest = spelled b.more;
      is = append-nil (spelled words)
          ∙ (spelled-begins (words_of text) words b
          ∙ ap (λ (l : List ℕ). l ++ spelled b.more) (sym t.is));
    }

-- Words that were read of code bytes, and the text that these say where more follow.
read-one : (code more whole words : List ℕ) → IsStream whole
    → Says slots at_first (code ++ more) (words_of whole)
    → (at : Progress) → HasRead slots at_first code words at → AreOne (spelled words) whole
read-one code more whole words s said at r =
    let t = stream-spelled whole s in
    begun-one words whole s
    (readers-read_one slots words (words_of whole) at_first (first (code ++ more)) r.fit t.fit
    (words-longer slots at_first code more words at r) said.made.can)

-- The code bytes of a longer packed text are longer by what follows.
code-longer : (packed more code all : List ℕ) → packed ≡ head ++ code
    → packed ++ more ≡ head ++ all → code ++ more ≡ all
code-longer packed more code all is whole =
    append_cancel_left head (code ++ more) all
    (sym (append_assoc head code more) ∙ (ap (λ (l : List ℕ). l ++ more) (sym is) ∙ whole))

-- A stage that has begun so: the decimals, and the units that the hierarchy begins with.
record BeginsAs (d digits : ℕ) (h units : Hierarchy) : Type 0 where
  digits_are : digits ≡ d
  begins : BeginsWith h units

begins-same : (h : Hierarchy) → BeginsWith h h
begins-same h = record {
  roots = refl;
  bases = refl;
  records = take_all (length h.records) h.records (omega arith);
}

-- A whole text.
whole-begins : (text whole : List ℕ) (digits d : ℕ) (g h : Hierarchy) → IsText text digits g
    → IsText whole d h → AreOne text whole → BeginsAs d digits h g
whole-begins text whole digits d g h s t one =
    let is : stream digits g ++ one.more ≡ stream d h ++ one.rest =
    ap (λ (l : List ℕ). l ++ one.more) (sym s.text)
    ∙ (one.is ∙ ap (λ (l : List ℕ). l ++ one.rest) t.text) in
    let same = one_text digits d g h one.more one.rest s.few t.few s.shape t.shape is in
    record {
      digits_are = same.1;
      begins = subst (λ q. BeginsWith h q) (sym same.0) (begins-same h);
    }

digits-in : (bytes : List ℕ) → digits_in (digits_at (words_of bytes)) ≡ stream_digits bytes
unfolding stream_digits
digits-in bytes = refl

-- What a stage has begun with.
stage-begins : (text whole : List ℕ) (stage : Stage) (held : List ℕ) (d : ℕ) (h units : Hierarchy)
    → StandsAfter text stage held → has_begun stage ≡ true → HasUnits stage units
    → IsText whole d h → AreOne text whole
    → BeginsAs d (digits_of stage) h units
stage-begins text whole stages.Header held d h units s begun are t one = absurd are
stage-begins text whole (stages.Units s digits) held d h units g begun are t one =
    let is : text ++ one.more ≡ stream d h ++ one.rest =
    one.is ∙ ap (λ (l : List ℕ). l ++ one.rest) t.text in
    let read : rest_from s (words_of (held ++ one.more)) ≡ Ok (h, words_of one.rest) =
    sym (g.reads one.more)
    ∙ (ap (λ (l : List ℕ). forest_at (words_of l)) is ∙ text_again d h one.rest t.few t.shape) in
    let told : digits ≡ d =
    sym (g.told one.more)
    ∙ (digits-in (text ++ one.more)
    ∙ (ap stream_digits is ∙ digits_told d h one.rest t.few t.shape)) in
    record {
      digits_are = told;
      begins = subst (λ q. BeginsWith h q) (sym are)
          (rest-begins s (words_of (held ++ one.more)) h (words_of one.rest) g.waits begun read);
    }
stage-begins text whole (stages.Whole g digits) held d h units s begun are t one =
    subst (λ q. BeginsAs d digits h q) (sym are) (whole-begins text whole digits d g h s t one)
stage-begins text whole (stages.Refused e) held d h units s begun are t one = absurd are

-- The first records of what has begun so are those of the whole.
first-of_whole : FirstRecordsAreOfTheWhole → (n d digits : ℕ) (p h units : Hierarchy)
    → HasShape h → BeginsAs d digits h units → p ≡ first_of units n → IsOfWhole n digits p d h
first-of_whole law n d digits p h units shape b is =
    let count : length (take (record_count units) h.records) ≡ record_count units =
    ap length b.begins.records in
    let most : record_count units ≤ record_count h =
    omega (arith, count, length-take (record_count units) h.records) in
    let m = min n (record_count units) in
    record {
      digits_are = b.digits_are;
      records = m;
      few = omega arith;
      some = omega (arith, most);
      is = is ∙ law h units shape b.begins m (omega arith);
    }

pub begins-of_whole : FirstRecordsAreOfTheWhole → BeginningsAreOfTheWhole
begins-of_whole law packed more whole n part d h b p t =
    let tells = b.2.tells in
    let said = rw (sym (code-longer packed more b.0 p.code b.1 p.head)) at p.says in
    let one = read-one b.0 more whole tells.words p.stream said tells.at tells.read in
    let stage = tells.stream.stage in
    let begins = stage-begins (spelled tells.words) whole stage tells.stream.held d h b.2.units
    tells.stands.after.0 tells.begun tells.are t one in
    first-of_whole law n d part.digits part.h h b.2.units t.shape
    (record {
      digits_are = tells.digits_are ∙ begins.digits_are;
      begins = begins.begins;
    }) b.2.is
