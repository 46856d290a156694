-- What coders make.
use Rattle.std.proofs.Common.{◌≡◌, ℕ, ◌<◌, ◌⊎◌, inl, inr, Bool, List, [], ◌∷◌, ◌++◌}
use Rattle.std.proofs.Common.{refl, sym, ◌∙◌, ap, append_assoc}
use Rattle.std.specs.Int.{w32, to_be_bytes}
use Rattle.pm_coder.specs.declared.interval.Interval.{Interval}
use Rattle.pm_coder.specs.Intervals.{Choice, choice, whole, after, choice_bytes}
use Rattle.pm_coder.specs.Coding.{AreFit, Progress, written, passed, ended, code_from}
use Rattle.pm_coder.specs.Coders.{Coding, Writing, Reading, IsWriting, May, made, all_made, Can}
use Rattle.pm_coder.specs.Coders.{Makes, Part}
use Rattle.pm_coder.specs.RoundTrips.{first, MadeAreRead, ReadersGoOneWay, PartsJoin}
use Rattle.pm_coder.specs.RoundTrips.{PartsFollow}
use Rattle.pm_coder.proofs.IntervalLaws.{IsWide, after-wide}
use Rattle.pm_coder.proofs.CodeLaws.{at_code, first-is_read, first-passed}
use Rattle.pm_coder.proofs.DecodeLaws.{whole-wide}

-- No choice, and one before others.
pub makes-none : (a : Coding) → Makes a [] a
unfolding Can all_made
makes-none a = record { can = tt; fit = tt; now = refl }

pub makes-more : (a mid new : Coding) (c : Choice) (cs : List Choice) → May a c
    → c.share < 65536 → mid ≡ made a c → Makes mid cs new → Makes a (c ∷ cs) new
unfolding Can all_made
makes-more a mid new c cs may fit e m =
    let can : Can (made a c) cs = rw e at m.can in
    let now : new ≡ all_made (made a c) cs = rw e at m.now in
    record { can = (may, can); fit = (fit, m.fit); now = now }

pub can-first : (a : Coding) (c : Choice) (cs : List Choice) → Can a (c ∷ cs) → May a c
unfolding Can
can-first a c cs can = can.0

pub can-rest : (a : Coding) (c : Choice) (cs : List Choice) → Can a (c ∷ cs) → Can (made a c) cs
unfolding Can
can-rest a c cs can = can.1

-- Who writes can make all.
pub writer-can : (cs : List Choice) (a : Coding) → IsWriting a → Can a cs
unfolding Can
writer-can [] a w = tt
writer-can (c ∷ cs) (Writing p) w = (tt, writer-can cs (Writing (written p c)) tt)
writer-can (c ∷ cs) (Reading p) w = absurd w

pub made-writing : (a : Coding) (c : Choice) → IsWriting a → IsWriting (made a c)
made-writing (Writing p) c w = tt
made-writing (Reading p) c w = absurd w

pub made-was_writing : (a : Coding) (c : Choice) → IsWriting (made a c) → IsWriting a
made-was_writing (Writing p) c w = tt
made-was_writing (Reading p) c w = absurd w

-- Who doesn't write may make one choice at a share.
pub one_choice : (a : Coding) (x y : Bool) (share : ℕ) → May a (choice x share)
    → May a (choice y share) → IsWriting a ⊎ (x ≡ y)
one_choice (Writing p) x y share mx my = inl tt
one_choice (Reading p) x y share mx my = inr (mx.said ∙ sym my.said)

-- What was written, and where it is read.
writing-same : (p q : Progress) → Writing q ≡ Writing p → q ≡ p
writing-same p q e = cc

written-ended : (cs : List Choice) (p q : Progress) → Writing q ≡ all_made (Writing p) cs
    → ended q ≡ p.bytes ++ code_from p.interval cs
unfolding all_made code_from
written-ended [] p q e = ap ended (writing-same p q e)
written-ended (c ∷ cs) p q e =
    written-ended cs (written p c) q e
    ∙ append_assoc p.bytes (choice_bytes p.interval c) (code_from (after p.interval c) cs)

-- A decoder at the end of the code bytes.
at_end : Progress → List ℕ → Progress
at_end q more = record { interval = q.interval; bytes = to_be_bytes w32 q.interval.low ++ more }

read-ended : (cs : List Choice) (p q : Progress) (more : List ℕ)
    → Writing q ≡ all_made (Writing p) cs
    → all_made (Reading (at_code p.interval cs more)) cs ≡ Reading (at_end q more)
unfolding all_made code_from at_end
read-ended [] p q more e =
    ap (λ (r : Progress). Reading (at_end r more)) (sym (writing-same p q e))
read-ended (c ∷ cs) p q more e =
    rw (first-passed c cs p.interval more) (read-ended cs (written p c) q more e)

readers_read : (cs : List Choice) (i : Interval) (more : List ℕ) → IsWide i → AreFit cs
    → Can (Reading (at_code i cs more)) cs
unfolding Can
readers_read [] i more w f = tt
readers_read (c ∷ cs) i more w f =
    let read = first-is_read c cs i more w f in
    let rest = readers_read cs (after i c) more (after-wide i c w f.0) f.1 in
    (read, rw (first-passed c cs i more) rest)

pub made-are_read : MadeAreRead
unfolding at_end
made-are_read cs p more m =
    let end : ended p ≡ code_from whole cs = written-ended cs (first []) p m.now in
    let can : Can (Reading (first (ended p ++ more))) cs =
    rw end (readers_read cs whole more whole-wide m.fit) in
    let now : all_made (Reading (first (ended p ++ more))) cs ≡ Reading (at_end p more) =
    rw end (read-ended cs (first []) p more m.now) in
    record { can = can; fit = m.fit; now = sym now }

-- Choices that part.
pub readers-go_one_way : ReadersGoOneWay
unfolding Can Part
readers-go_one_way p [] ys ca cb part = part
readers-go_one_way p (a ∷ xs) [] ca cb part = part
readers-go_one_way p (a ∷ xs) (b ∷ ys) ca cb part =
    let share = part.0 in
    let bit : a.bit ≡ b.bit = ca.0.said ∙ rw share (sym cb.0.said) in
    elim (part.1) [
      | inl other ↦ other bit
      | inr on ↦
          let same : b ≡ a = (λ i. record { bit = sym bit i; share = sym share i }) in
          let cb' : Can (Reading (passed p a)) ys = rw same at cb.1 in
          readers-go_one_way (passed p a) xs ys ca.1 cb' on.1
    ]

pub parts-join : PartsJoin
unfolding Part
parts-join [] ys xs' ys' part = absurd part
parts-join (a ∷ xs) [] xs' ys' part = absurd part
parts-join (a ∷ xs) (b ∷ ys) xs' ys' part =
    elim (part.1) [
      | inl other ↦ (part.0, inl other)
      | inr on ↦ (part.0, inr (on.0, parts-join xs ys xs' ys' on.1))
    ]

pub parts-follow : PartsFollow
unfolding Part
parts-follow [] xs ys part = part
parts-follow (c ∷ cs) xs ys part = (refl, inr (refl, parts-follow cs xs ys part))
