-- Laws of a text of several parts through a page: each part after the one before it, up to the
-- first that fails.
use Rattle.std.proofs.Common.{◌≡◌, ℕ, List, [], ◌∷◌, ◌++◌, Result, Ok, Err, IsErrAnd}
use Rattle.std.proofs.lemmas.Result.{err_from_is_err_and}
use Rattle.pm_io.specs.Puts.{Puts, PutsThrough}
use Rattle.pm_io.specs.declared.device.Sink as sink
use Rattle.pm_io.proofs.PutLaws.{through_then, through_stops, flush_stops, flush_then}

-- One part after the other.
infixl 10 ◌>>◌
pub ◌>>◌ : {K T U E F : Type 0} {k : sink.Ghosts K} {before mid now : K} {p q r a b : List ℕ}
    {v : U} {result : Result T E}
    → PutsThrough {E = F} k before mid p q a (Ok v) → PutsThrough k mid now q r b result
    → PutsThrough k before now p r (a ++ b) result
one >> other = through_then _ _ _ _ _ _ _ _ _ _ _ one other

-- A text, and then each of the parts that are still to come.
abbrev pub followed : List ℕ → List (List ℕ) → List ℕ
followed text [] = text
followed text (part ∷ more) = followed (text ++ part) more

-- Where the text failed, they aren't put,
pub through_stops_all : {K T E : Type 0} (k : sink.Ghosts K) (before now : K) (p q text : List ℕ)
    (more : List (List ℕ)) (e : E)
    → PutsThrough {T = T} k before now p q text (Err e)
    → PutsThrough {T = T} k before now p q (followed text more) (Err e)
through_stops_all k before now p q text [] e put = put
through_stops_all k before now p q text (part ∷ more) e put =
    through_stops_all k before now p q (text ++ part) more e
    (through_stops k before now p q text part e put)

-- and the failure is handed on,
pub stops_within : {K T E : Type 0} {k : sink.Ghosts K} {before now : K} {p q text : List ℕ}
    {e : E} {result : Result T E} (more : List (List ℕ))
    → PutsThrough {T = T} k before now p q text (Err e) → IsErrAnd result (λ y. y ≡ e)
    → PutsThrough k before now p q (followed text more) result
stops_within {k = k} {before = before} {now = now} {p = p} {q = q} {text = text} {e = e}
    {result = result} more put out =
    let is = err_from_is_err_and result out in
    rw (is.1, is.2) (through_stops_all k before now p q text more e put)

-- also where the page was empty at first.
pub stops_before : {K T E : Type 0} {k : sink.Ghosts K} {before now : K} {p q text : List ℕ}
    {e : E} {result : Result T E} (more : List (List ℕ))
    → p ≡ [] → PutsThrough {T = T} k before now p q text (Err e) → IsErrAnd result (λ y. y ≡ e)
    → Puts k before now (followed text more) result
stops_before {k = k} {before = before} {now = now} {p = p} {q = q} {text = text} {e = e}
    {result = result} more none put out =
    let is = err_from_is_err_and result out in
    rw (is.1, is.2) (flush_stops k before now p q (followed text more) e none
    (through_stops_all k before now p q text more e put))

-- All parts were put: what the page holds comes last,
pub flushed : {K T U E F : Type 0} {k : sink.Ghosts K} {before mid now : K} {p q text : List ℕ}
    {v : U} {result : Result T E}
    → p ≡ [] → PutsThrough {E = F} k before mid p q text (Ok v) → Puts k mid now q result
    → Puts k before now text result
flushed none put last = flush_then _ _ _ _ _ _ _ _ _ none put last

-- and its failure is handed on.
pub stops_at_flush : {K T U E F : Type 0} {k : sink.Ghosts K} {before mid now : K}
    {p q text : List ℕ} {v : U} {e : E} {result : Result T E}
    → p ≡ [] → PutsThrough {E = F} k before mid p q text (Ok v)
    → Puts {T = T} k mid now q (Err e) → IsErrAnd result (λ y. y ≡ e)
    → Puts k before now text result
stops_at_flush {result = result} none put last out =
    let is = err_from_is_err_and result out in
    rw (is.1, is.2) (flushed none put last)
