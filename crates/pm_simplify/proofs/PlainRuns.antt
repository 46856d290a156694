-- What holds of every answer.
use Rattle.std.specs.Prelude.{Result, Ok, Err, IfOk}

pub if_ok_more :
    {T E : Type 0} {P Q : T → Type 0} (r : Result T E) → IfOk r P → ((t : T) → P t → Q t) →
    IfOk r Q
if_ok_more (Ok t) holds more = more t holds
if_ok_more (Err e) holds more = tt
