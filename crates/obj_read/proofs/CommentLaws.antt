-- A comment in front of a text that spells a mesh changes nothing.
use Rattle.std.proofs.Common.{◌≡◌, ℕ, ◌+◌, ◌≤◌, min, Bool, true, false, List, [], ◌∷◌, ◌++◌, length}
use Rattle.std.proofs.Common.{nat_lt, Result, Ok, Err, refl, sym, ◌∙◌, ap, subst, arith}
use Rattle.std.proofs.Common.{append_assoc, length-append}
use Rattle.std.specs.List.{concat}
use Rattle.std.proofs.lemmas.Bool.{le-ltb}
use Rattle.pm_base.specs.Meshes.{Mesh}
use Rattle.pm_base.specs.Canonical.{canonical_text}
use Rattle.obj_lines.specs.Text.{lines, is_continued}
use Rattle.obj_lines.proofs.PlainLaws.{comment_read, lines_joined}
use Rattle.obj_read.specs.declared.fault.ObjFault.{ObjFault}
use Rattle.obj_read.specs.declared.fault.ObjFault.TheVariants as faults
use Rattle.obj_read.specs.declared.found.Found.{Found}
use Rattle.obj_read.specs.declared.found.Found.TheVariants as found
use Rattle.obj_read.specs.Judged.{line_found}
use Rattle.obj_read.specs.Meaning.{SoFar, nothing_yet, read_alone, and_line, then_lines}
use Rattle.obj_read.specs.Meaning.{meaning_from, meaning_of}
use Rattle.obj_read.specs.Texts.{CommentIsSkipped, CommentedIsRead}
use Rattle.obj_read.proofs.CanonicalLaws.{reads_line, length_canonical, canonical_is_read}

abbrev standing : ℕ → ℕ → ℕ → Mesh → SoFar
standing digits bytes number mesh = record {
  digits = digits;
  bytes = bytes;
  number = number;
  mesh = mesh;
}

-- After so many bytes in place of those that stood before, with this number of the next line.
abbrev moved : SoFar → ℕ → ℕ → SoFar
moved s bytes number = standing s.digits bytes number s.mesh

-- A line without a fault has none there, where the text doesn't get too long.
judged_case : (s : SoFar) (bytes number : ℕ) (line : List ℕ) (f : Found) (b : Bool)
    → nat_lt 1073741824 (s.bytes + min (length line) 65537) ≡ b → bytes + length line ≤ 1073741824
    → read_alone s line ≡ Ok f
    → read_alone (moved s bytes number) line ≡ Ok f
unfolding read_alone
judged_case s bytes number line f true past within is = let e : Err faults.TooMany ≡ Ok f =
    rw past at is in cc
judged_case s bytes number line f false past within is =
    let short : nat_lt 1073741824 (bytes + min (length line) 65537) ≡ false =
    le-ltb _ _ (omega (arith, within)) in
    rw short (rw past at is)

judged_moved : (s : SoFar) (bytes number : ℕ) (line : List ℕ) (f : Found)
    → bytes + length line ≤ 1073741824 → read_alone s line ≡ Ok f
    → read_alone (moved s bytes number) line ≡ Ok f
judged_moved s bytes number line f within is =
    judged_case s bytes number line f (nat_lt 1073741824 (s.bytes + min (length line) 65537)) refl
    within is

-- Lines that spell a mesh spell it there too.
then_moved : (s : SoFar) (bytes number : ℕ) (line : List ℕ) (ls : List (List ℕ)) (m : Mesh)
    (r : Result Found ObjFault) → read_alone s line ≡ r
    → bytes + length (line ++ concat ls) ≤ 1073741824
    → ((t : SoFar) (b n : ℕ) → b + length (concat ls) ≤ 1073741824 → meaning_from t ls ≡ Ok m
    → meaning_from (moved t b n) ls ≡ Ok m)
    → then_lines r s line (λ t. meaning_from t ls) ≡ Ok m
    → meaning_from (moved s bytes number) (line ∷ ls) ≡ Ok m
unfolding and_line
then_moved s bytes number line ls m (Ok f) judges within more is =
    let joined = length-append line (concat ls) in
    ap (λ (r : Result Found ObjFault). then_lines r (moved s bytes number) line
    (λ t. meaning_from t ls))
    (judged_moved s bytes number line f (omega (arith, within, joined)) judges)
    ∙ more (and_line s line f) (bytes + length line) (number + 1) (omega (arith, within, joined)) is
then_moved s bytes number line ls m (Err e) judges within more is = cc

meaning_moved : (s : SoFar) (bytes number : ℕ) (ls : List (List ℕ)) (m : Mesh)
    → bytes + length (concat ls) ≤ 1073741824 → meaning_from s ls ≡ Ok m
    → meaning_from (moved s bytes number) ls ≡ Ok m
meaning_moved s bytes number [] m within is = is
meaning_moved s bytes number (line ∷ ls) m within is =
    then_moved s bytes number line ls m (read_alone s line) refl within
    (λ t b n fits spells. meaning_moved t b n ls m fits spells) is

nothing_found : (d n k : ℕ) → line_found d n k [] ≡ Ok found.Nothing
unfolding line_found is_continued
nothing_found d n k = refl

pub comment_is_skipped : CommentIsSkipped
unfolding meaning_of
comment_is_skipped digits line bytes m clean short within is =
    let s = nothing_yet digits in
    let front = 35 ∷ line in
    let r = reads_line s front found.Nothing (ap (λ (l : List ℕ). 35 ∷ l) clean)
    (omega (arith, short)) (omega (arith, short))
    (ap (line_found digits 0 0) (comment_read line) ∙ nothing_found digits 0 0) in
    let same : moved s r.after.bytes r.after.number ≡ r.after =
    ap (λ (d : ℕ). standing d r.after.bytes r.after.number s.mesh) (sym r.digits)
    ∙ ap (λ (k : Mesh). standing r.after.digits r.after.bytes r.after.number k) (sym r.mesh) in
    let fits : r.after.bytes + length (concat (lines bytes)) ≤ 1073741824 =
    omega (
      arith,
      within,
      r.bytes,
      ap length (lines_joined bytes),
      length-append front (10 ∷ bytes),
      length-append front (10 ∷ []),
    ) in
    ap (λ (l : List ℕ). meaning_from s (lines l)) (sym (append_assoc front (10 ∷ []) bytes))
    ∙ r.same bytes
    ∙ subst (λ (t : SoFar). meaning_from t (lines bytes) ≡ Ok m) same
    (meaning_moved s r.after.bytes r.after.number (lines bytes) m fits is)

pub commented_is_read : CommentedIsRead
commented_is_read digits line m clean short few formed places =
    let text = canonical_text digits m in
    comment_is_skipped digits line text m clean short
    (omega (
      arith,
      short,
      length-append (35 ∷ line) (10 ∷ text),
      length_canonical digits m few
          formed places,
    )) (canonical_is_read digits m few formed places)
