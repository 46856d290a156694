-- What words ask for, the arguments do.
use Rattle.pm_io.specs.declared.device.Source as source
use Rattle.pm_io.specs.declared.device.Sink as sink
use Rattle.std.proofs.Common.{◌≡◌, ℕ, List, String, Option, Some, Ok, map, drop}
use Rattle.std.proofs.Common.{refl}
use Rattle.std.specs.String.{string_bytes}
use Rattle.std.specs.declared.alloc.Global.{Global}
use Rattle.std.specs.declared.vec.IntoIter.{IntoIter}
use Rattle.std.specs.Vec.Iter.{into_iter_items}
use Rattle.pm_program.specs.declared.request.Request.{Request}
use Rattle.pm_program.specs.declared.request.Request.TheVariants as requests
use Rattle.pm_program.specs.Endings.{Arguments}
use Rattle.pm_program.specs.Requests.{TellsTexts}
use Rattle.pm_commands.specs.declared.asked.Asked.{Asked}
use Rattle.pm_commands.specs.declared.asked.Asked.TheVariants as asked
use Rattle.pm_commands.specs.declared.asked.Border.TheVariants as borders
use Rattle.simplify.specs.Words.{asked_by}
use Rattle.simplify.specs.Asking.{asked_of}
use Rattle.simplify.specs.Endings.{Obeys}

pub obeys_of : {S K E : Type 0} (s : source.Ghosts S) (k : sink.Ghosts K) (e : sink.Ghosts E)
    (mine other : Asked → Type 0) (status : ℕ) (input input_now : S) (out out_now : K)
    (err err_now : E) → ((a : Asked) → other a → mine a)
    → Obeys s k e mine status input input_now out out_now err err_now
    → Obeys s k e other status input input_now out out_now err err_now
obeys_of s k e mine other status input input_now out out_now err err_now to o = record {
  whole = λ a asks. o.whole a (to a asks);
  read_whole = λ a asks. o.read_whole a (to a asks);
  expands = λ target digits border asks.
      o.expands target digits border (to (asked.Simplify target digits border) asks);
  surfaces = λ target digits border asks.
      o.surfaces target digits border (to (asked.Simplify target digits border) asks);
  meets = λ target digits asks.
      o.meets target digits (to (asked.Simplify target digits borders.Kept) asks);
  faulty = λ a asks. o.faulty a (to a asks);
  unreached = λ a asks. o.unreached a (to a asks);
  write = λ a asks. o.write a (to a asks);
  memory = o.memory;
  complete = λ a bytes all asks. o.complete a bytes all (to a asks);
}

-- Arguments ask for what the words after the first of them do.
pub same_asked : (args : Arguments) (it : IntoIter (String Global) Global)
    (gathered words : List (String Global)) → args ≡ Ok it
    → gathered ≡ drop 1 (into_iter_items it) → words ≡ gathered
    → asked_of args ≡ asked_by (map string_bytes words)
same_asked args it gathered words is are same = rw (is, same, are) refl

pub texts_of : {S K E : Type 0} (s : source.Ghosts S) (k : sink.Ghosts K) (e : sink.Ghosts E)
    (program help : List ℕ) (mine other : Option (Request Asked)) (status : ℕ)
    (input input_now : S) (out out_now : K) (err err_now : E) → other ≡ mine
    → TellsTexts s k e program help mine status input input_now out out_now err err_now
    → TellsTexts s k e program help other status input input_now out out_now err err_now
texts_of s k e program help mine other status input input_now out out_now err err_now same told =
    rw same told

-- The words ask for one thing.
pub one_asked : (asks : Option (Request Asked)) (a b : Asked) → asks ≡ Some (requests.Work a)
    → asks ≡ Some (requests.Work b) → a ≡ b
one_asked asks a b is are = cc
