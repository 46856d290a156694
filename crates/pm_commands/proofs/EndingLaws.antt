-- What a status says of how a command ended.
use Rattle.std.proofs.Common.{◌≡◌, ◌≢◌, ◌⊎◌, inl, inr, ℕ, ◌-◌, ◌^◌, ◌<◌, List, ◌++◌, Option}
use Rattle.std.proofs.Common.{Some, None, Err, IfSome, refl, sym, ◌∙◌, ap, subst, arith}
use Rattle.std.proofs.Common.{append_assoc}
use Rattle.std.specs.Prelude.{codes}
use Rattle.pm_io.specs.Causes.{Rose}
use Rattle.pm_commands.specs.declared.fault.Fault.{Fault}
use Rattle.pm_commands.specs.declared.fault.CommandFail.{CommandFail}
use Rattle.pm_commands.specs.declared.fault.CommandFail.TheVariants as fails
use Rattle.pm_commands.specs.declared.asked.Asked.{Asked}
use Rattle.pm_commands.specs.Ran.{Ran}
use Rattle.pm_commands.specs.FaultText.{fail_text, fault_text}
use Rattle.pm_commands.specs.Outcome.{IsOutcome, OneOutcome, Replied, CutShort}
use Rattle.pm_commands.specs.Ending.{ReadFails, Ends, Counts, Answers, status_of}
use Rattle.pm_io.specs.Puts.{Said}
use Rattle.pm_io.specs.Devices.{Tells}
use Rattle.pm_io.specs.Endings.{CountsFaults, SaysEnding, Says}
use Rattle.pm_io.specs.declared.device.Source as source
use Rattle.pm_io.specs.declared.device.Sink as sink

-- The words ask for one thing.
pub one_asked : (asks : Option Asked) (a b : Asked) → asks ≡ Some a → asks ≡ Some b → a ≡ b
one_asked asks a b is are = cc

-- What is said begins with the name of the program.
module _ (name : List ℕ) where
  pub said_fault : (asks : Asked) (fail : CommandFail)
      (left rest old new err_old err_new : Option (List ℕ)) (before now : ℕ)
      → status_of fail ≡ 1 → Ends asks (Err fail) left rest old new
      → Said err_old err_new before now (name ++ fail_text fail)
      → (f : Fault) × IfSome left (λ bytes. Replied asks bytes (Some f) old new)
      × Said err_old err_new before now (name ++ fault_text f)
  unfolding fail_text
  said_fault asks (fails.Faulty f) left rest old new err_old err_new before now is ends said =
      (f, ends, said)
  said_fault asks fails.Read left rest old new err_old err_new before now is ends said =
      absurd (omega arith)
  said_fault asks fails.Write left rest old new err_old err_new before now is ends said =
      absurd (omega arith)
  said_fault asks fails.OutOfMemory left rest old new err_old err_new before now is ends said =
      absurd (omega arith)

  pub said_line : (fail : CommandFail) (text : List ℕ) (err_old err_new : Option (List ℕ))
      (before now : ℕ)
      → fail_text fail ≡ text → Said err_old err_new before now (name ++ fail_text fail)
      → Said err_old err_new before now (name ++ text)
  said_line fail text err_old err_new before now is said =
      subst (λ (l : List ℕ). Said err_old err_new before now (name ++ l)) is said

pub text_of_read : (fail : CommandFail) → status_of fail ≡ 3 → fail_text fail ≡ codes "read fault\n"
unfolding fail_text
text_of_read (fails.Faulty f) is = absurd (omega arith)
text_of_read fails.Read is = refl
text_of_read fails.Write is = absurd (omega arith)
text_of_read fails.OutOfMemory is = absurd (omega arith)

pub text_of_write : (fail : CommandFail) → status_of fail ≡ 4
    → fail_text fail ≡ codes "write fault\n"
unfolding fail_text
text_of_write (fails.Faulty f) is = absurd (omega arith)
text_of_write fails.Read is = absurd (omega arith)
text_of_write fails.Write is = refl
text_of_write fails.OutOfMemory is = absurd (omega arith)

pub text_of_memory : (fail : CommandFail) → status_of fail ≡ 5
    → fail_text fail ≡ codes "out of memory\n"
unfolding fail_text
text_of_memory (fails.Faulty f) is = absurd (omega arith)
text_of_memory fails.Read is = absurd (omega arith)
text_of_memory fails.Write is = absurd (omega arith)
text_of_memory fails.OutOfMemory is = refl

-- The outcome of the bytes has the fault that the command ended with, or none.
same_fault : OneOutcome
    → (asks : Asked) (bytes : List ℕ) (all : Ran) (found : Option Fault)
    (left old new : Option (List ℕ)) → left ≡ Some bytes → IsOutcome asks bytes all
    → IfSome left (λ b. Replied asks b found old new) → found ≡ all.fault
same_fault one asks bytes all found left old new is outcome ends =
    let replied : Replied asks bytes found old new =
    subst (λ (o : Option (List ℕ)). IfSome o (λ b. Replied asks b found old new)) is ends in
    sym replied.fault_is
    ∙ ap (λ (r : Ran). r.fault) (one asks bytes replied.all all replied.outcome outcome)

pub completes_whole : OneOutcome
    → (asks : Asked) (bytes : List ℕ) (all : Ran) (left old new : Option (List ℕ))
    → left ≡ Some bytes → IsOutcome asks bytes all → IfSome left (λ b. Replied asks b None old new)
    → Answers all.fault 0
completes_whole one asks bytes all left old new is outcome ends =
    subst (λ (o : Option Fault). Answers o 0)
    (same_fault one asks bytes all None left old new is outcome ends) refl

pub completes : OneOutcome
    → (asks : Asked) (fail : CommandFail) (status in_old in_new out_old out_new : ℕ)
    (bytes : List ℕ) (all : Ran) (left now old new : Option (List ℕ)) → left ≡ Some bytes
    → IsOutcome asks bytes all → Ends asks (Err fail) left now old new
    → Counts (Err fail) in_old in_new out_old out_new → status ≡ status_of fail
    → in_new ≡ in_old → out_new ≡ out_old → in_old < 2 ^ 64 - 1 → out_old < 2 ^ 64 - 1
    → Answers all.fault status ⊎ (status ≡ 5)
completes one asks (fails.Faulty f) status in_old in_new out_old out_new bytes all left now old new
    is outcome ends counts given in_same out_same in_few out_few =
    inl (subst (λ (o : Option Fault). Answers o status)
    (same_fault one asks bytes all (Some f) left old new is outcome ends) given)
completes one asks fails.Read status in_old in_new out_old out_new bytes all left now old new is
    outcome ends counts given in_same out_same in_few out_few =
    let rose : Rose in_old in_new = counts.0 in absurd (omega (arith, rose))
completes one asks fails.Write status in_old in_new out_old out_new bytes all left now old new is
    outcome ends counts given in_same out_same in_few out_few =
    let rose : Rose out_old out_new = counts.1 in absurd (omega (arith, rose))
completes one asks fails.OutOfMemory status in_old in_new out_old out_new bytes all left now old new
    is outcome ends counts given in_same out_same in_few out_few = inr given

pub read_of : (asks : Asked) (fail : CommandFail) (left now old new : Option (List ℕ))
    → status_of fail ≡ 3 → Ends asks (Err fail) left now old new → ReadFails asks left now old new
read_of asks (fails.Faulty f) left now old new is ends = absurd (omega arith)
read_of asks fails.Read left now old new is ends = ends
read_of asks fails.Write left now old new is ends = absurd (omega arith)
read_of asks fails.OutOfMemory left now old new is ends = absurd (omega arith)

pub cut_of : (asks : Asked) (fail : CommandFail) (in_old in_new out_old out_new : ℕ)
    (left now old new : Option (List ℕ)) → status_of fail ≡ 4
    → Ends asks (Err fail) left now old new → Counts (Err fail) in_old in_new out_old out_new
    → Rose out_old out_new × IfSome left (λ bytes. CutShort asks bytes old new)
cut_of asks (fails.Faulty f) in_old in_new out_old out_new left now old new is ends counts =
    absurd (omega arith)
cut_of asks fails.Read in_old in_new out_old out_new left now old new is ends counts =
    absurd (omega arith)
cut_of asks fails.Write in_old in_new out_old out_new left now old new is ends counts =
    (counts.1, ends)
cut_of asks fails.OutOfMemory in_old in_new out_old out_new left now old new is ends counts =
    absurd (omega arith)

pub write_of : (fail : CommandFail) → status_of fail ≡ 4 → fail ≡ fails.Write
write_of (fails.Faulty f) is = absurd (omega arith)
write_of fails.Read is = absurd (omega arith)
write_of fails.Write is = refl
write_of fails.OutOfMemory is = absurd (omega arith)

-- What became of the devices where a command ended early.

pub fail_counts : {S K : Type 0} (s : source.Ghosts S) (k : sink.Ghosts K) (fail : CommandFail)
    (status : ℕ) (input input_now : S) (out out_now : K) → status ≡ status_of fail
    → Counts (Err fail) (s.faults input) (s.faults input_now) (k.faults out) (k.faults out_now)
    → CountsFaults s k status input input_now out out_now
fail_counts s k (fails.Faulty f) status input input_now out out_now given counts = record {
  whole = λ is. counts;
  faulty = λ is. counts;
  words = λ is. counts;
  read = λ is. absurd (omega (arith, given, is));
  write = λ is. absurd (omega (arith, given, is));
  memory = λ is. counts;
}
fail_counts s k fails.Read status input input_now out out_now given counts = record {
  whole = λ is. absurd (omega (arith, given, is));
  faulty = λ is. absurd (omega (arith, given, is));
  words = λ is. absurd (omega (arith, given, is));
  read = λ is. counts;
  write = λ is. absurd (omega (arith, given, is));
  memory = λ is. absurd (omega (arith, given, is));
}
fail_counts s k fails.Write status input input_now out out_now given counts = record {
  whole = λ is. absurd (omega (arith, given, is));
  faulty = λ is. absurd (omega (arith, given, is));
  words = λ is. absurd (omega (arith, given, is));
  read = λ is. absurd (omega (arith, given, is));
  write = λ is. counts;
  memory = λ is. absurd (omega (arith, given, is));
}
fail_counts s k fails.OutOfMemory status input input_now out out_now given counts = record {
  whole = λ is. counts;
  faulty = λ is. counts;
  words = λ is. counts;
  read = λ is. absurd (omega (arith, given, is));
  write = λ is. absurd (omega (arith, given, is));
  memory = λ is. counts;
}

-- What ends a command early has neither the status of what was done nor that of other words.
ended : (fail : CommandFail) → (status_of fail ≢ 0) × (status_of fail ≢ 2)
ended (fails.Faulty f) = (λ is. absurd (omega arith), λ is. absurd (omega arith))
ended fails.Read = (λ is. absurd (omega arith), λ is. absurd (omega arith))
ended fails.Write = (λ is. absurd (omega arith), λ is. absurd (omega arith))
ended fails.OutOfMemory = (λ is. absurd (omega arith), λ is. absurd (omega arith))

-- The line of a program is its name, and what comes after it.
pub told_line : {E : Type 0} (e : sink.Ghosts E) (program text line : List ℕ) (err err_now : E)
    → codes ": " ++ text ≡ line → Tells e err err_now (program ++ codes ": " ++ text)
    → Tells e err err_now (program ++ line)
told_line e program text line err err_now is told =
    subst (λ (l : List ℕ). Tells e err err_now l)
    (append_assoc program (codes ": ") text ∙ ap (λ (l : List ℕ). program ++ l) is) told

pub fail_says : {E : Type 0} (e : sink.Ghosts E) (program : List ℕ) (fail : CommandFail)
    (status : ℕ) (err err_now : E) → status ≡ status_of fail
    → Tells e err err_now (program ++ codes ": " ++ fail_text fail)
    → Says e program status err err_now
fail_says e program fail status err err_now given told = record {
  ending = record {
    silent = λ is. absurd ((ended fail).0 (sym given ∙ is));
    words = λ is. absurd ((ended fail).1 (sym given ∙ is));
    read = λ is. told_line e program (fail_text fail) (codes ": read fault\n") err err_now
        (ap (λ (l : List ℕ). codes ": " ++ l) (text_of_read fail (sym given ∙ is))) told;
    write = λ is. told_line e program (fail_text fail) (codes ": write fault\n") err err_now
        (ap (λ (l : List ℕ). codes ": " ++ l) (text_of_write fail (sym given ∙ is))) told;
  };
  memory = λ is. told_line e program (fail_text fail) (codes ": out of memory\n") err err_now
      (ap (λ (l : List ℕ). codes ": " ++ l) (text_of_memory fail (sym given ∙ is))) told;
}

-- Where words can't be gathered no device is asked, and one line is said or none.

pub ungathered_counts : {S K : Type 0} (s : source.Ghosts S) (k : sink.Ghosts K) (status : ℕ)
    (input : S) (out : K) → (status ≡ 2) ⊎ (status ≡ 5)
    → CountsFaults s k status input input out out
ungathered_counts s k status input out either = record {
  whole = λ is. (refl, refl);
  faulty = λ is. (refl, refl);
  words = λ is. (refl, refl);
  read = λ is. elim either [
    | inl two ↦ absurd (omega (arith, two, is))
    | inr five ↦ absurd (omega (arith, five, is))
  ];
  write = λ is. elim either [
    | inl two ↦ absurd (omega (arith, two, is))
    | inr five ↦ absurd (omega (arith, five, is))
  ];
  memory = λ is. (refl, refl);
}

pub ungathered_says : {E : Type 0} (e : sink.Ghosts E) (program : List ℕ) (status : ℕ)
    (err err_now : E) → (status ≡ 2) ⊎ (status ≡ 5)
    → (status ≡ 2 → Tells e err err_now (program ++ codes ": words not understood\n"))
    → SaysEnding e program status err err_now
ungathered_says e program status err err_now either said = record {
  silent = λ is. elim either [
    | inl two ↦ absurd (omega (arith, two, is))
    | inr five ↦ absurd (omega (arith, five, is))
  ];
  words = said;
  read = λ is. elim either [
    | inl two ↦ absurd (omega (arith, two, is))
    | inr five ↦ absurd (omega (arith, five, is))
  ];
  write = λ is. elim either [
    | inl two ↦ absurd (omega (arith, two, is))
    | inr five ↦ absurd (omega (arith, five, is))
  ];
}
