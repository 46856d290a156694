-- More code bytes change nothing of what was read.
use Rattle.std.proofs.Common.{◌≡◌, ℕ, ◌≤◌, List, [], ◌∷◌, ◌++◌, length, ap, arith}
use Rattle.std.proofs.Common.{length-append}
use Rattle.std.proofs.lemmas.List.{drop-append-le}
use Rattle.pm_coder.specs.declared.predictor.Predictor as predictor
use Rattle.pm_coder.specs.Intervals.{Choice, choice_bytes}
use Rattle.pm_coder.specs.Coding.{Progress, IsRead, passed}
use Rattle.pm_coder.specs.Coders.{Reading, Can}
use Rattle.pm_coder.specs.RoundTrips.{first}
use Rattle.pm_coder.proofs.HoldLaws.{window-append}
use Rattle.pm_pack.specs.Texts.{Known, words_choices}
use Rattle.pm_pack.specs.Unpacking.{HasRead}

-- A decoder with more bytes after its own.
abbrev with_more : Progress → List ℕ → Progress
with_more p more = record { interval = p.interval; bytes = p.bytes ++ more }

read-longer : (p : Progress) (more : List ℕ) (c : Choice) → IsRead p c
    → IsRead (with_more p more) c
read-longer p more c r =
    let long : 4 ≤ length p.bytes = omega (arith, r.enough) in
    let same = window-append p.bytes more long in
    record {
      said = rw same r.said;
      enough = rw (length-append p.bytes more) (omega (arith, r.enough));
    }

passed-longer : (p : Progress) (more : List ℕ) (c : Choice) → IsRead p c
    → passed (with_more p more) c ≡ with_more (passed p c) more
passed-longer p more c r =
    let k = length (choice_bytes p.interval c) in
    let few : k ≤ length p.bytes = omega (arith, r.enough) in
    ap (λ (l : List ℕ). record (passed p c) { bytes = l })
    (drop-append-le k p.bytes more few)

can-longer : (cs : List Choice) (p : Progress) (more : List ℕ) → Can (Reading p) cs
    → Can (Reading (with_more p more)) cs
unfolding Can
can-longer [] p more can = tt
can-longer (c ∷ cs) p more can =
    let rest : Can (Reading (with_more (passed p c) more)) cs =
    can-longer cs (passed p c) more can.1 in
    (read-longer p more c can.0, rw (passed-longer p more c can.0) rest)

-- The words that were read of code bytes may be read of them where more follow.
pub words-longer : {P : Type 0} (k : predictor.Ghosts P) (from : Known P)
    (code more words : List ℕ) (at : Progress) → HasRead k from code words at
    → Can (Reading (first (code ++ more))) (words_choices k from words)
words-longer k from code more words at r =
    can-longer (words_choices k from words) (first code) more r.made.can
