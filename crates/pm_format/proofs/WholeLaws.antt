-- A text in bytes, and the hierarchy that its words spell.
use Rattle.std.proofs.Common.{◌≡◌, ℕ, zero, suc, ◌*◌, ◌≤◌, ltb, Bool, true, false, cond}
use Rattle.std.proofs.lemmas.Grind.{common_steps}
use Rattle.std.proofs.Common.{List, [], ◌∷◌, ◌++◌, Some, None, Result, Ok, Err, length, sum, take}
use Rattle.std.proofs.Common.{drop, get_or, refl, sym, ◌∙◌, ap, subst, arith, append_assoc}
use Rattle.std.proofs.Common.{length-append}
use Rattle.std.specs.List.{flat_map}
use Rattle.std.proofs.lemmas.Bool.{not-false, le-ltb, ne_eqb}
use Rattle.std.proofs.lemmas.List.{take_at, append-nil, append_cancel_left, take-append-drop}
use Rattle.pm_forest.specs.declared.parts.Counts.{Counts}
use Rattle.pm_forest.specs.declared.parts.Root.{Root}
use Rattle.pm_forest.specs.declared.parts.Face.{Face}
use Rattle.pm_forest.specs.declared.parts.Record.{Record}
use Rattle.pm_forest.specs.Forest.{Hierarchy, leaf_count, record_count, widths_of}
use Rattle.pm_forest.specs.Rules.{AllFit, counts_are_bad, counts_of, root_fault, base_fault}
use Rattle.pm_forest.specs.Rules.{record_fault_after, past_fault, HasShape}
use Rattle.pm_forest.proofs.UnitLaws.{passed}
use Rattle.pm_forest.proofs.ShapingLaws.{leaves_all}
use Rattle.pm_format.specs.declared.fault.FormatError.TheVariants as faults
use Rattle.pm_format.specs.declared.stop.Stop.{Stop}
use Rattle.pm_format.specs.Words.{words_of, spelled, AreWords, IsBytes}
use Rattle.pm_format.specs.Stream.{magic_word, root_words, base_words, record_words, version_words}
use Rattle.pm_format.specs.Stream.{count_words}
use Rattle.pm_format.specs.Stream.{stream_words, stream}
use Rattle.pm_format.specs.Reading.{root_after, base_after, record_after_all, units_at, digits_at}
use Rattle.pm_format.specs.Reading.{digits_in, header_at, rest_at, forest_at}
use Rattle.pm_format.specs.Faults.{magic_is_bad, fault_in, stream_fault, stream_digits}
use Rattle.pm_format.specs.Laws.{OneSpelling, NoPrefix, WholeTextsHaveNoFault}
use Rattle.pm_format.specs.Laws.{WhatHasNoFaultIsWhole, TextsTellTheirDigits}
use Rattle.pm_format.proofs.ReadingLaws.{same_Ok, then_read_ok, judged_ok}
use Rattle.pm_format.proofs.WordLaws.{words_again, words_take, text_words, length-words_of}
use Rattle.pm_format.proofs.WordLaws.{length-spelled}
use Rattle.pm_format.proofs.TakesLaws.{BeginsWithMagic, Takes, takes_both, units_take, roots_read}
use Rattle.pm_format.proofs.TakesLaws.{bases_read, header_takes, version_two}
use Rattle.pm_format.proofs.RecordTakes.{records_read}
use Rattle.pm_format.proofs.AgainLaws.{units_again, roots_again, bases_again, records_again}
use Rattle.pm_format.proofs.WordFits.{stream_is_words}

-- A whole text is read as it is spelled

unguarded : {A : Type 0} (b : Bool) (stop : Stop) (r : Result A Stop) (y : A)
    → cond b (Err stop) r ≡ Ok y →
    (b ≡ false) × (r ≡ Ok y)
unguarded true stop r y is = absurd cc
unguarded false stop r y is = (refl, is)

-- The words of all units.
abbrev unit_words : List Root → List Face → List Record → List ℕ
unit_words roots bases records =
    flat_map root_words roots ++ (flat_map base_words bases ++ flat_map record_words records)

-- What was read is a hierarchy of the right shape, and its words.
pub record ForestTakes (ws : List ℕ) (h : Hierarchy) (rest : List ℕ) : Type 0 where
  pub digits : ℕ
  pub few : digits ≤ 4
  pub told : digits_in (digits_at ws) ≡ digits
  pub shape : HasShape h
  pub takes : Takes ws (stream_words digits h) rest

-- The words of a text, part by part.
spread : (d : ℕ) (h : Hierarchy) (units rest : List ℕ) →
    (magic_word ∷ (version_words d ++ count_words h) ++ units) ++ rest ≡ magic_word
    ∷ (version_words d ++ (count_words h ++ (units ++ rest)))
spread d h units rest = grind (arith, common_steps, append_assoc)

pub forest_takes : (ws : List ℕ) (h : Hierarchy) (rest : List ℕ) → BeginsWithMagic ws → AreWords ws
    →
    forest_at ws ≡ Ok (h, rest) → ForestTakes ws h rest
unfolding forest_at rest_at
forest_takes ws h rest magic fit is =
    then_read_ok _ (header_at ws) (h, rest) is (λ c header units.
    let head = header_takes ws c magic fit header in
    let good = unguarded (counts_are_bad c.0) _ _ _ units in
    then_read_ok _ (units_at (root_after c.0) c.0.roots [] c.1) (h, rest) good.1 (λ r roots more.
    let rs = units_take (root_fault c.0) root_words (root_after c.0) (roots_read c.0) c.0.roots []
    c.1 r head.rest_fits roots in
    then_read_ok _ (units_at (base_after r.0) c.0.bases [] r.1) (h, rest) more (λ b bases most.
    let bs = units_take (base_fault r.0) base_words (base_after r.0) (bases_read r.0) c.0.bases []
    r.1 b rs.takes.rest_fits bases in
    then_read_ok _ (units_at (record_after_all r.0 b.0) c.0.records [] b.1) (h, rest) most
    (λ n records last.
    let fault = record_fault_after r.0 b.0 in
    let read = record_after_all r.0 b.0 in
    let ns = units_take fault record_words read (records_read r.0 b.0) c.0.records [] b.1 n
    bs.takes.rest_fits records in
    let found : Hierarchy = record { roots = r.0; bases = b.0; records = n.0 } in
    let judgement = judged_ok (past_fault found) (found, n.1) (h, rest) last in
    let is_h : found ≡ h = ap (λ (v : Hierarchy × List ℕ). v.0) judgement.1 in
    let is_rest : n.1 ≡ rest = ap (λ (v : Hierarchy × List ℕ). v.1) judgement.1 in
    let same_roots : rs.more ≡ h.roots = sym rs.all_is ∙ ap (λ (q : Hierarchy). q.roots) is_h in
    let same_bases : bs.more ≡ h.bases = sym bs.all_is ∙ ap (λ (q : Hierarchy). q.bases) is_h in
    let same_records : ns.more ≡ h.records =
    sym ns.all_is ∙ ap (λ (q : Hierarchy). q.records) is_h in
    let leaves : c.0.leaves ≡ leaf_count h =
    sym (leaves_all c.0 rs.more good.0 rs.fits rs.count) ∙ ap (λ l. sum (widths_of l)) same_roots in
    let root_count : c.0.roots ≡ length h.roots =
    sym rs.count ∙ ap (λ (l : List Root). length l) same_roots in
    let base_count : c.0.bases ≡ length h.bases =
    sym bs.count ∙ ap (λ (l : List Face). length l) same_bases in
    let count : c.0.records ≡ record_count h =
    sym ns.count ∙ ap (λ (l : List Record). length l) same_records in
    let counts : c.0 ≡ counts_of h = grind (arith, common_steps) in
    let root_part = flat_map root_words rs.more in
    let base_part = flat_map base_words bs.more in
    let record_part = flat_map record_words ns.more in
    let last_two = takes_both r.1 base_part b.1 record_part n.1 bs.takes ns.takes in
    let all = takes_both c.1 root_part r.1 (base_part ++ record_part) n.1 rs.takes last_two in
    let tail : c.1 ≡ unit_words h.roots h.bases h.records ++ rest =
    all.parts ∙ (λ j. unit_words (same_roots j) (same_bases j) (same_records j) ++ is_rest j) in
    record {
      digits = head.digits;
      few = head.few;
      told = head.told;
      shape = record {
        counts = subst (λ v. counts_are_bad v ≡ false) counts good.0;
        roots = subst (λ (v : Counts × List Root). AllFit (root_fault v.0) [] v.1)
            (λ j. (counts j, same_roots j)) rs.fits;
        bases = subst (λ (v : Hierarchy × List Face). AllFit (base_fault v.0.roots) [] v.1)
            (λ j. (is_h j, same_bases j)) bs.fits;
        records = subst
            (λ (v : Hierarchy × List Record). AllFit (record_fault_after v.0.roots v.0.bases) []
            v.1) (λ j. (is_h j, same_records j)) ns.fits;
        inputs = subst (λ (v : Hierarchy). past_fault v ≡ None) is_h judgement.0;
      };
      takes = record {
        parts = head.parts
            ∙ (λ j. magic_word
            ∷ (version_words head.digits ++ leaves j ∷ root_count j ∷ base_count j ∷ count j
            ∷ tail j))
            ∙ sym (spread head.digits h (unit_words h.roots h.bases h.records) rest);
        rest_fits = subst AreWords is_rest all.rest_fits;
      };
    }))))

-- The number of decimals is read again.
digits_again : (d : ℕ) (ws : List ℕ) → d ≤ 4 → digits_at (magic_word ∷ (version_words d ++ ws))
    ≡ Ok (d, ws)
unfolding digits_at
digits_again zero ws few = refl
digits_again (suc d) ws few =
    let most : ltb 4 (suc d) ≡ false = le-ltb 4 (suc d) few in
    rw (version_two d, ne_eqb (suc d) 0 (λ e. omega (arith, e)), most) refl

pub digits_of_words : (d : ℕ) (h : Hierarchy) → d ≤ 4 → digits_in (digits_at (stream_words d h)) ≡ d
digits_of_words d h few = grind (arith, common_steps, append_assoc, digits_again)

pub forest_again : (d : ℕ) (h : Hierarchy) (rest : List ℕ) → d ≤ 4 → HasShape h →
    forest_at (stream_words d h ++ rest) ≡ Ok (h, rest)
unfolding forest_at rest_at header_at
forest_again d h rest few shape =
    let c = counts_of h in
    let root_part = flat_map root_words h.roots in
    let base_part = flat_map base_words h.bases in
    let record_part = flat_map record_words h.records in
    let apart : (root_part ++ (base_part ++ record_part)) ++ rest ≡ root_part
    ++ (base_part ++ (record_part ++ rest)) =
    append_assoc root_part (base_part ++ record_part) rest
    ∙ ap (λ l. root_part ++ l) (append_assoc base_part record_part rest) in
    let after_roots = base_part ++ (record_part ++ rest) in
    let roots = units_again (root_fault c) root_words (root_after c) (roots_again c) [] h.roots
    after_roots shape.roots in
    let read_base = bases_again h.roots in
    let bases = units_again (base_fault h.roots) base_words (base_after h.roots) read_base []
    h.bases (record_part ++ rest) shape.bases in
    let fault = record_fault_after h.roots h.bases in
    let read_record = records_again h.roots h.bases in
    let records =
    units_again fault record_words (record_after_all h.roots h.bases) read_record [] h.records
    rest shape.records in
    let told = digits_again d (count_words h ++ ((root_part ++ (base_part ++ record_part)) ++ rest))
    few in
    rw (
      spread d h (root_part ++ (base_part ++ record_part)) rest,
      told,
      shape.counts,
      apart,
      roots,
      bases,
      records,
      shape.inputs,
    ) refl

-- with good counts all is what follows the header
pub forest_is : (ws : List ℕ) (c : Counts) (rest : List ℕ) → header_at ws ≡ Ok (c, rest) →
    counts_are_bad c ≡ false → forest_at ws ≡ rest_at c rest
unfolding forest_at
forest_is ws c rest header good = rw (header, good) refl

-- Texts

-- bytes whose first ones aren't wrong begin with the magic as a word
pub magic_first : (bytes : List ℕ) → magic_is_bad bytes ≡ false → BeginsWithMagic (words_of bytes)
unfolding magic_is_bad
magic_first (a ∷ b ∷ c ∷ d ∷ bytes) good w rest is = grind (arith, common_steps, get_or, not-false)
magic_first [] good w rest is = absurd cc
magic_first (a ∷ []) good w rest is = absurd cc
magic_first (a ∷ b ∷ []) good w rest is = absurd cc
magic_first (a ∷ b ∷ c ∷ []) good w rest is = absurd cc

pub record Begins (bytes : List ℕ) (h : Hierarchy) (used : ℕ) : Type 0 where
  pub within : used ≤ length bytes
  pub text : take used bytes ≡ stream (digits_in (digits_at (words_of bytes))) h
  pub few : digits_in (digits_at (words_of bytes)) ≤ 4

pub begins : (bytes : List ℕ) (h : Hierarchy) (rest : List ℕ) (used : ℕ) → IsBytes bytes →
    magic_is_bad bytes ≡ false → forest_at (words_of bytes) ≡ Ok (h, rest)
    → used ≡ length (stream (digits_in (digits_at (words_of bytes))) h) →
    Begins bytes h used
unfolding stream
begins bytes h rest used fit magic read is =
    let f = forest_takes (words_of bytes) h rest (magic_first bytes magic) (text_words bytes fit)
    read in
    let t = f.takes in
    let d = digits_in (digits_at (words_of bytes)) in
    let ws : stream_words f.digits h ≡ stream_words d h =
    ap (λ (e : ℕ). stream_words e h) (sym f.told) in
    let parts : words_of bytes ≡ stream_words d h ++ rest =
    t.parts ∙ ap (λ (l : List ℕ). l ++ rest) ws in
    let k = length (stream_words d h) in
    let len : used ≡ 4 * k = is ∙ length-spelled (stream_words d h) in
    let enough : k ≤ length (words_of bytes) =
    omega (arith, ap length parts, length-append (stream_words d h) rest) in
    let front : take k (words_of bytes) ≡ stream_words d h =
    ap (λ (l : List ℕ). take k l) parts ∙ take_at (stream_words d h) rest k refl in
    record {
      within = omega (arith, length-words_of bytes);
      text = ap (λ (n : ℕ). take n bytes) len ∙ words_take bytes k fit enough ∙ ap spelled front;
      few = subst (λ (e : ℕ). e ≤ 4) (sym f.told) f.few;
    }

pub text_again : (d : ℕ) (h : Hierarchy) (rest : List ℕ) → d ≤ 4 → HasShape h →
    forest_at (words_of (stream d h ++ rest)) ≡ Ok (h, words_of rest)
unfolding stream
text_again d h rest few shape =
    ap forest_at (words_again (stream_words d h) rest (stream_is_words d h few shape))
    ∙ forest_again d h (words_of rest) few shape

magic_again : (d : ℕ) (h : Hierarchy) (rest : List ℕ) → magic_is_bad (stream d h ++ rest) ≡ false
unfolding magic_is_bad stream spelled
magic_again d h rest = refl

pub digits_told : TextsTellTheirDigits
unfolding stream_digits stream
digits_told d h rest few shape =
    grind (arith, common_steps, digits_again, spread, stream_is_words, words_again)

pub one_text : OneSpelling
one_text d e h g rest more d_few e_few h_shape g_shape is =
    let same = sym (text_again d h rest d_few h_shape) ∙ ap (λ l. forest_at (words_of l)) is
    ∙ text_again e g more e_few g_shape in
    let told = sym (digits_told d h rest d_few h_shape) ∙ ap stream_digits is
    ∙ digits_told e g more e_few g_shape in
    (ap (λ (v : Hierarchy × List ℕ). v.0) (same_Ok _ _ same), told)

pub no_longer : NoPrefix
no_longer d e h g rest d_few e_few h_shape g_shape is =
    let whole : stream d h ++ rest ≡ stream e g ++ [] = is ∙ sym (append-nil (stream e g)) in
    let same = one_text d e h g rest [] d_few e_few h_shape g_shape whole in
    append_cancel_left (stream d h) rest []
    (whole ∙ (λ j. stream (sym same.1 j) (sym same.0 j) ++ []))

-- Faults

pub whole_text : WholeTextsHaveNoFault
unfolding stream_fault
whole_text d h rest few shape = rw (magic_again d h rest, text_again d h rest few shape) refl

pub no_fault : {A : Type 0} (count : ℕ) (r : Result A Stop) → fault_in count r ≡ None
    → (x : A) × (r ≡ Ok x)
no_fault count (Ok x) is = (x, refl)
no_fault count (Err stop) is = absurd cc

pub what_is_whole : WhatHasNoFaultIsWhole
unfolding stream_fault
what_is_whole bytes fit none =
    let (good, read) = passed (magic_is_bad bytes) _ _ none in
    let (u, is) = no_fault (length bytes) (forest_at (words_of bytes)) read in
    let t = forest_takes (words_of bytes) u.0 u.1 (magic_first bytes good) (text_words bytes fit)
    is in
    let d = digits_in (digits_at (words_of bytes)) in
    let b = begins bytes u.0 u.1 (length (stream d u.0)) fit good is refl in
    record {
      digits = d;
      h = u.0;
      rest = drop (length (stream d u.0)) bytes;
      few = b.few;
      shape = t.shape;
      text = sym (take-append-drop (length (stream d u.0)) bytes)
          ∙ ap (λ l. l ++ drop (length (stream d u.0)) bytes) b.text;
    }

pub bad_magic : (bytes : List ℕ) → magic_is_bad bytes ≡ true
    → stream_fault bytes ≡ Some faults.BadMagic
unfolding stream_fault
bad_magic bytes bad = rw bad refl
