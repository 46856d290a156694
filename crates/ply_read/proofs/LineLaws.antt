-- Laws of the lines of a header.
use Rattle.std.proofs.Common.{◌≡◌, ℕ, suc, ◌+◌, ◌<◌, ◌≤◌, min, inl, inr, refl, sym, ap}
use Rattle.std.proofs.Common.{◌∙◌, ◌==◌, List, [], ◌∷◌, length, drop, Result, Ok, true, false}
use Rattle.std.proofs.Common.{arith}
use Rattle.std.proofs.Common.{Bool, if◌then◌else◌}
use Rattle.std.specs.Prelude.{codes}
use Rattle.std.proofs.lemmas.Bool.{cases_Bool, cases_lt}
use Rattle.std.proofs.Math.ListN.{drop_of_length-le}
use Rattle.obj_lines.specs.Text.{until}
use Rattle.ply_read.specs.declared.fault.PlyFail.{PlyFail}
use Rattle.ply_read.specs.declared.fault.PlyFail.TheVariants as fails
use Rattle.ply_read.specs.declared.fault.PlyFault.TheVariants as faults
use Rattle.ply_read.specs.declared.fault.Refused.{Refused}
use Rattle.ply_read.specs.Header.{SoFar, Header, after_words, from_line, ended}
use Rattle.ply_read.specs.Lines.{Line, line_of, begun, lines, words, one, is_only}
use Rattle.ply_read.specs.Meaning.{Explains}
use Rattle.ply_read.specs.Results.{◌>>=◌, refused}

-- The first line, and the others.
cut : (xs : List ℕ) → 0 < length xs
    → lines xs ≡ line_of (until 10 xs) (drop (suc (length (until 10 xs))) xs)
    ∷ lines (drop (suc (length (until 10 xs))) xs)
cut [] some = absurd (omega arith)
cut (b ∷ []) some =
    elim (cases_Bool (b == 10)) [
      | inl end ↦ rw end refl
      | inr more ↦ rw more refl
    ]
cut (b ∷ c ∷ cs) some =
    let rest = cut (c ∷ cs) (omega arith) in
    elim (cases_Bool (b == 10)) [
      | inl end ↦ rw end refl
      | inr more ↦ rw (more, rest) refl
    ]

pub next_line : (bytes text : List ℕ) (end : ℕ) → 0 < length bytes → text ≡ until 10 bytes
    → end ≡ min (length text + 1) (length bytes)
    → lines bytes ≡ line_of text (drop end bytes) ∷ lines (drop end bytes)
next_line bytes text end some is so =
    let first = cut bytes some in
    let same : suc (length (until 10 bytes)) ≡ length text + 1 =
    omega (arith, ap (λ (xs : List ℕ). length xs) is) in
    let here : lines bytes ≡ line_of text (drop (length text + 1) bytes)
    ∷ lines (drop (length text + 1) bytes) =
    first ∙ rw (same, is) refl in
    elim (cases_lt (length bytes) (length text + 1)) [
      | inl past ↦
          let one : drop (length text + 1) bytes ≡ [] =
          drop_of_length-le bytes (omega (arith, past)) in
          let two : drop end bytes ≡ [] = drop_of_length-le bytes (omega (arith, past, so)) in
          here ∙ ap (λ (xs : List ℕ). line_of text xs ∷ lines xs) (one ∙ sym two)
      | inr within ↦
          let one : length text + 1 ≡ end = omega (arith, within, so) in
          here ∙ ap (λ (n : ℕ). line_of text (drop n bytes) ∷ lines (drop n bytes)) one
    ]

begun_few : (b : ℕ) (ls : List Line) → length (begun b ls) ≤ length ls + 1
begun_few b [] = omega arith
begun_few b (l ∷ ls) = omega arith

pub lines_few : (bytes : List ℕ) → length (lines bytes) ≤ length bytes
lines_few [] = omega arith
lines_few (b ∷ bs) =
    let rest = lines_few bs in
    elim (cases_Bool (b == 10)) [
      | inl end ↦ rw end (omega (arith, rest))
      | inr more ↦ rw more (omega (arith, rest, begun_few b (lines bs)))
    ]

module _ (line : ℕ) (s : SoFar) (text after : List ℕ) (rest all : List Line)
    (whole : Result Header Refused) (cut : all ≡ line_of text after ∷ rest)
    (so : from_line line s all ≡ whole) where
  one_line : (b : Bool) → is_only (codes "end_header") (one (words text)) ≡ b
      → (if b then ended line s after
      else after_words line s (words text) >>= λ t. from_line (line + 1) t rest) ≡ whole
  one_line b is = rw (cut, is) at so

  pub lines_next : (t : SoFar) → is_only (codes "end_header") (one (words text)) ≡ false
      → after_words line s (words text) ≡ Ok t → from_line (line + 1) t rest ≡ whole
  lines_next t more is = rw is at (one_line false more)

  pub lines_fail : (e : PlyFail) → is_only (codes "end_header") (one (words text)) ≡ false
      → Explains (after_words line s (words text)) e → Explains whole e
  lines_fail (fails.Fault why) more is = sym (rw is at (one_line false more))
  lines_fail fails.OutOfMemory more is = tt

  pub lines_done : is_only (codes "end_header") (one (words text)) ≡ true
      → ended line s after ≡ whole
  lines_done is = one_line true is

pub lines_end : (line : ℕ) (s : SoFar) (all : List Line) (whole : Result Header Refused)
    → all ≡ [] → from_line line s all ≡ whole → whole ≡ refused faults.CutOff line
lines_end line s all whole none so = sym (rw none at so)
