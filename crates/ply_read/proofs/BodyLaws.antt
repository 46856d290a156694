-- Laws of what stands after a header.
use Rattle.std.proofs.Common.{◌≡◌, ℕ, List, Result, Ok, Err, refl}
use Rattle.ply_read.specs.declared.stop.BodyFail.{BodyFail}
use Rattle.ply_read.specs.declared.stop.Stop.{Stop}
use Rattle.ply_read.specs.Body.{SoFar, at_body, with_declared}
use Rattle.ply_read.specs.Header.{Header}
use Rattle.ply_read.specs.Ply.{body_of, triangles_of, spot_of}
use Rattle.ply_read.specs.Results.{◌>>=◌}
use Rattle.ply_read.specs.Told.{Tells}

-- A failure of what comes next.
pub tells_next : {A B : Type 0} (r : Result A Stop) (next : A → Result B Stop) (a : A)
    (e : BodyFail) → r ≡ Ok a → Tells (next a) e → Tells (r >>= next) e
tells_next r next a e is tells = rw is tells

pub body_read : (bytes : List ℕ) (h : Header) (start s : SoFar) → start ≡ at_body h.body
    → with_declared h.encoding h.declared start ≡ Ok s
    → body_of bytes h ≡ Ok (triangles_of h s)
body_read bytes h start s from taken =
    let all : with_declared h.encoding h.declared (at_body h.body) ≡ Ok s = rw from at taken in
    rw all refl

pub body_stops : (bytes : List ℕ) (h : Header) (start : SoFar) (stop : Stop)
    → start ≡ at_body h.body → with_declared h.encoding h.declared start ≡ Err stop
    → body_of bytes h
    ≡ Err (record { fault = stop.fault; spot = spot_of h.encoding bytes stop.left })
body_stops bytes h start stop from taken =
    let all : with_declared h.encoding h.declared (at_body h.body) ≡ Err stop = rw from at taken in
    rw all refl
