-- Laws of the lines of a text.
use Rattle.std.proofs.Common.{◌≡◌, ℕ, suc, ◌+◌, ◌<◌, ◌≤◌, min, inl, inr, refl, sym, ap}
use Rattle.std.proofs.Common.{◌∙◌, ◌==◌, List, [], ◌∷◌, length, drop, Result, Ok, arith}
use Rattle.std.proofs.lemmas.Bool.{cases_Bool, cases_lt}
use Rattle.std.proofs.Math.ListN.{drop_of_length-le}
use Rattle.obj_lines.specs.Text.{until}
use Rattle.pm_io.specs.Bytes.{onto}
use Rattle.stl_read.specs.declared.fault.Refused.{Refused}
use Rattle.stl_read.specs.declared.fault.StlFail.{StlFail}
use Rattle.stl_read.specs.declared.fault.StlFail.TheVariants as fails
use Rattle.stl_read.specs.Ascii.{SoFar, texts, after_text, from_line, ended}
use Rattle.stl_read.specs.Meaning.{Explains}
use Rattle.stl_read.specs.Refusals.{◌>>=◌}
use Rattle.stl_read.specs.Vertices.{Triangles}

-- The first line, and the others.
cut : (xs : List ℕ) → 0 < length xs
    → texts xs ≡ until 10 xs ∷ texts (drop (suc (length (until 10 xs))) xs)
cut [] some = absurd (omega arith)
cut (b ∷ []) some =
    elim (cases_Bool (b == 10)) [
      | inl end ↦ rw end refl
      | inr more ↦ rw more refl
    ]
cut (b ∷ c ∷ cs) some =
    let rest = cut (c ∷ cs) (omega arith) in
    elim (cases_Bool (b == 10)) [
      | inl end ↦ rw end refl
      | inr more ↦ rw (more, rest) refl
    ]

pub next_text : (bytes text : List ℕ) (end : ℕ) → 0 < length bytes → text ≡ until 10 bytes
    → end ≡ min (length text + 1) (length bytes) → texts bytes ≡ text ∷ texts (drop end bytes)
next_text bytes text end some is so =
    let first = cut bytes some in
    let same : suc (length (until 10 bytes)) ≡ length text + 1 =
    omega (arith, ap (λ (xs : List ℕ). length xs) is) in
    let here : texts bytes ≡ text ∷ texts (drop (length text + 1) bytes) =
    first ∙ rw (same, is) refl in
    elim (cases_lt (length bytes) (length text + 1)) [
      | inl past ↦
          let one : drop (length text + 1) bytes ≡ [] =
          drop_of_length-le bytes (omega (arith, past)) in
          let two : drop end bytes ≡ [] = drop_of_length-le bytes (omega (arith, past, so)) in
          here ∙ ap (λ (xs : List ℕ). text ∷ texts xs) (one ∙ sym two)
      | inr within ↦
          let one : length text + 1 ≡ end = omega (arith, within, so) in
          here ∙ ap (λ (n : ℕ). text ∷ texts (drop n bytes)) one
    ]

onto_some : (b : ℕ) (ls : List (List ℕ)) → length (onto b ls) ≤ length ls + 1
onto_some b [] = omega arith
onto_some b (l ∷ ls) = omega arith

pub texts_few : (bytes : List ℕ) → length (texts bytes) ≤ length bytes
texts_few [] = omega arith
texts_few (b ∷ bs) =
    let rest = texts_few bs in
    elim (cases_Bool (b == 10)) [
      | inl end ↦ rw end (omega (arith, rest))
      | inr more ↦ rw more (omega (arith, rest, onto_some b (texts bs)))
    ]

-- A failure before the rest is one of the whole.
pub explains_then : {A B : Type 0} (r : Result A Refused) (next : A → Result B Refused)
    (e : StlFail) → Explains r e → Explains (r >>= next) e
explains_then r next (fails.Fault why) is = rw is refl
explains_then r next fails.OutOfMemory is = tt

module _ (line : ℕ) (s : SoFar) (text : List ℕ) (rest all : List (List ℕ))
    (whole : Result Triangles Refused) (cut : all ≡ text ∷ rest)
    (so : from_line line s all ≡ whole) where
  one_line : (after_text line s text >>= λ t. from_line (line + 1) t rest) ≡ whole
  one_line = rw cut at so

  pub lines_next : (t : SoFar) → after_text line s text ≡ Ok t
      → from_line (line + 1) t rest ≡ whole
  lines_next t is = rw is at one_line

  pub lines_fail : (e : StlFail) → Explains (after_text line s text) e → Explains whole e
  lines_fail (fails.Fault why) is = sym (rw is at one_line)
  lines_fail fails.OutOfMemory is = tt

pub lines_end : (line : ℕ) (s : SoFar) (all : List (List ℕ)) (whole : Result Triangles Refused)
    → all ≡ [] → from_line line s all ≡ whole → whole ≡ ended line s s.stage
lines_end line s all whole none so = sym (rw none at so)
