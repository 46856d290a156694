-- How a script is served while replies are held: where that begins, goes on and fails.
use Rattle.std.proofs.Common.{◌≡◌, ◌⊎◌, inl, inr, ℕ, ◌+◌, ◌<◌, ◌≤◌, List, [], ◌∷◌, ◌++◌, length}
use Rattle.std.proofs.Common.{Option, Some, None, refl, sym, ◌∙◌, ap, subst, arith, length-append}
use Rattle.std.proofs.Common.{append_assoc}
use Rattle.std.proofs.lemmas.List.{append-nil}
use Rattle.std.specs.Io.KnownBytes.{append_known, prepend_known}
use Rattle.obj_lines.specs.Text.{lines}
use Rattle.obj_lines.proofs.TextLaws.{lines_whole}
use Rattle.pm_io.specs.Bytes.{Gains, GainsPart, Loses}
use Rattle.pm_io.proofs.Known.{gains_both}
use Rattle.pm_session.specs.Script.{State, Replies, line_deed}
use Rattle.pm_session.specs.Serving.{played_from, played, PutPart}
use Rattle.pm_session.specs.Steps.{Begun, Standing, with_line, IsReady, at_of, IsServing, EndsLine}
use Rattle.pm_session.specs.Holding.{EndsWithin, Filled, Underway, underway, IsHolding, GainsBut}
use Rattle.pm_session.proofs.PlayLaws.{line_later}
use Rattle.pm_session.proofs.ServeLaws.{told, played_front, plays_on, goes_on}
use Rattle.pm_session.proofs.ReplyLaws.{text_clean, line_put}

-- What the sink will have taken gains what comes through the page.
pub gains_owed : (old new : Option (List ℕ)) (held holds text : List ℕ)
    → GainsBut old new held holds text
    → Gains (append_known old held) (append_known new holds) text
gains_owed old new held holds text g =
    gains_both old new (append_known new holds) g.done holds g.gained refl
    ∙ ap (λ (l : List ℕ). append_known old l) (sym g.whole)
    ∙ sym (gains_both old (append_known old held) (append_known (append_known old held) text) held
    text refl refl)

-- Bytes are taken from the front of the window.
pub loses_front : (window taken window' : List ℕ) (left : Option (List ℕ))
    → window ≡ taken ++ window'
    → Loses (prepend_known window left) (prepend_known window' left) taken
loses_front window taken window' None cut = refl
loses_front window taken window' (Some rest) cut =
    ap (λ (l : List ℕ). Some (l ++ rest)) cut
    ∙ ap (λ (l : List ℕ). Some l) (append_assoc taken window' rest)

-- Either a text ends within the first of two, or it has that whole.
pub record EndsIn (text done : List ℕ) : Type 0 where
  pub rest : List ℕ
  pub is : text ≡ done ++ rest
  pub some : 0 < length rest

pub ends_in : (a b done rest : List ℕ) → a ++ b ≡ done ++ rest
    → EndsIn a done ⊎ (length a ≤ length done)
ends_in [] b done rest is = inr (omega arith)
ends_in (x ∷ a) b [] rest is = inl (record { rest = x ∷ a; is = refl; some = omega arith })
ends_in (x ∷ a) b (y ∷ done) rest is = next (ends_in a b done rest (cc is))
  where
    next : EndsIn a done ⊎ (length a ≤ length done)
        → EndsIn (x ∷ a) (y ∷ done) ⊎ (length (x ∷ a) ≤ length (y ∷ done))
    next (inl e) = inl (record {
      rest = e.rest;
      is = let h : x ≡ y = cc is in rw h (ap (λ (l : List ℕ). y ∷ l) e.is);
      some = e.some;
    })
    next (inr le) = inr (omega (arith, le))

-- The window was filled, and no reply is held.
pub holding_start : (b : Begun) (s : Standing) (window : List ℕ) (got : Option (List ℕ))
    (v : IsServing b s) → Gains b.got got v.text → length window ≤ 4096
    → IsHolding b (record { taken = length v.front + length s.line; put = length v.text }) s
    (underway got [] window)
holding_start b s window got v gained few = record {
  serving = v;
  put = v.text;
  gained = gained;
  text_is = sym (append-nil v.text);
  least = omega arith;
  since = omega arith;
  near = omega (arith, few);
  cuts = λ done rest is least some.
      absurd (omega (arith, ap length is, length-append done rest, least, some));
}

module _ (b : Begun) (f : Filled) (s : Standing) (u : Underway) (v : IsHolding b f s u) where
  -- A write failed.
  pub hold_fails : (got : Option (List ℕ)) → GainsPart u.got got u.held
      → PutPart b.h b.grammar b.state b.script s.left u.window b.got got s.state
  hold_fails got part =
      let w = v.serving in
      let text : w.text ≡ (v.put ++ part.done) ++ part.rest =
      v.text_is ∙ ap (λ (l : List ℕ). v.put ++ l) part.whole
      ∙ sym (append_assoc v.put part.done part.rest) in
      let e = v.cuts (v.put ++ part.done) part.rest text
      (omega (arith, length-append v.put part.done, v.least)) part.lacks in
      let gained : Gains b.got got (v.put ++ part.done) =
      gains_both b.got u.got got v.put part.done v.gained part.gained in
      record {
        front = e.before;
        line = e.line;
        more = e.more;
        past = s.line;
        took = subst (λ (l : List ℕ). Loses b.script s.left (l ++ s.line)) e.are w.took;
        ends = e.ends;
        one = e.one;
        more_ends = e.more_ends;
        to_its_end = inl e.whole;
        few = omega (
          arith,
          v.near,
          e.later,
          ap length e.are,
          length-append (e.before ++ e.line) e.more,
          length-append e.more s.line,
        );
        part = record {
          done = v.put ++ part.done;
          rest = e.rest;
          whole = e.cut;
          lacks = e.lacks;
          gained = gained;
        };
        before = e.put;
        state = sym (ap (λ p. p.state) (played_front b s w))
            ∙ ap (λ (l : List ℕ). (played b.h b.grammar b.state l).state) e.are;
        all = told b.script s.left (w.front ++ s.line)
            (λ script. GainsPart b.got got (played b.h b.grammar b.state script).text) w.took
            (λ rest is. all_of rest (v.put ++ part.done) part.rest text part.lacks gained);
      }
    where
      all_of : (rest done lacking : List ℕ) → v.serving.text ≡ done ++ lacking
          → 0 < length lacking → Gains b.got got done
          → GainsPart b.got got (played b.h b.grammar b.state
          ((v.serving.front ++ s.line) ++ rest)).text
      all_of rest done lacking text lacks gained =
          let later = (played_from b.h b.grammar (at_of s) (lines (s.line ++ rest))).text in
          record {
            done = done;
            rest = lacking ++ later;
            whole = ap (λ p. p.text) (plays_on b s v.serving s.line rest)
                ∙ ap (λ (l : List ℕ). l ++ later) text ∙ append_assoc done lacking later;
            lacks = omega (arith, lacks, length-append lacking later);
            gained = gained;
          }

  -- Some of what is held was put.
  pub hold_puts : (got : Option (List ℕ)) (done holds : List ℕ) → u.held ≡ done ++ holds
      → Gains u.got got done → IsHolding b f s (underway got holds u.window)
  hold_puts got done holds is more = record {
    serving = v.serving;
    put = v.put ++ done;
    gained = gains_both b.got u.got got v.put done v.gained more;
    text_is = v.text_is ∙ ap (λ (l : List ℕ). v.put ++ l) is
        ∙ sym (append_assoc v.put done holds);
    least = omega (arith, v.least, length-append v.put done);
    since = v.since;
    near = v.near;
    cuts = v.cuts;
  }

  -- The line goes on.
  pub hold_more : (left : Option (List ℕ)) (taken line window : List ℕ) → Loses s.left left taken
      → line ≡ s.line ++ taken → length window + length taken ≤ length u.window
      → IsHolding b f (with_line s left line) (underway u.got u.held window)
  unfolding goes_on
  hold_more left taken line window took is fits =
      let len : length line ≡ length s.line + length taken =
      ap length is ∙ length-append s.line taken in
      record {
        serving = goes_on b s v.serving left taken line took is;
        put = v.put;
        gained = v.gained;
        text_is = v.text_is;
        least = v.least;
        since = omega (arith, v.since, len);
        near = omega (arith, v.near, len, fits);
        cuts = v.cuts;
      }

-- A line was taken to its LF and done, and its reply is held.
module _ (b : Begun) (f : Filled) (s s' : Standing) (u : Underway) (v : IsHolding b f s u)
    (taken text : List ℕ) (taking : Loses s.left s'.left taken) (e : EndsLine s.line taken text)
    (ready : IsReady s.line s.at) (within : s.at.before + length text + 1 ≤ 1073741824)
    (reply : List ℕ) (T : State) (does : line_deed b.h b.grammar s.state text ≡ Replies reply T)
    (put : Gains s.got s'.got reply) (is : line_later (at_of s) text T ≡ at_of s')
    (empty : s'.line ≡ []) where
  line_length : length (text ++ 10 ∷ []) ≡ length s.line + length taken
  line_length = omega (
    arith,
    ap length e.cut,
    length-append e.rest_of_line (10 ∷ []),
    ap length e.text_is,
    length-append s.line e.rest_of_line,
    length-append text (10 ∷ []),
  )

  with_it : IsServing b s'
  with_it = line_put b s s' v.serving taken text taking e ready within reply T does put is empty

  -- What was put ends within it,
  ends_here : (done rest : List ℕ) → v.serving.text ++ reply ≡ done ++ rest → 0 < length rest
      → length v.serving.text ≤ length done
      → EndsWithin b f.taken (v.serving.front ++ (text ++ 10 ∷ [])) done
  unfolding with_it line_put
  ends_here done rest cut some le = record {
    before = v.serving.front;
    line = text ++ 10 ∷ [];
    more = [];
    are = sym (append-nil (v.serving.front ++ (text ++ 10 ∷ [])));
    ends = v.serving.ends;
    one = lines_whole text [] (text_clean b s s' v.serving taken text taking e ready within);
    whole = inr (text, refl);
    more_ends = inl refl;
    later = omega (
      arith,
      v.since,
      line_length,
      ap length e.cut,
      length-append e.rest_of_line (10 ∷ []),
      length-append v.serving.front (text ++ 10 ∷ []),
    );
    put = omega (
      arith,
      le,
      ap length (ap (λ p. p.text) (played_front b s v.serving)
          ∙ append-nil v.serving.text),
    );
    rest = rest;
    cut = ap (λ p. p.text) (played_front b s' with_it) ∙ append-nil (v.serving.text ++ reply)
        ∙ cut;
    lacks = some;
  }

  -- or within a line before.
  ends_before : (done : List ℕ) → EndsWithin b f.taken v.serving.front done
      → EndsWithin b f.taken (v.serving.front ++ (text ++ 10 ∷ [])) done
  ends_before done e = record {
    before = e.before;
    line = e.line;
    more = e.more ++ (text ++ 10 ∷ []);
    are = ap (λ (l : List ℕ). l ++ (text ++ 10 ∷ [])) e.are
        ∙ append_assoc (e.before ++ e.line) e.more (text ++ 10 ∷ []);
    ends = e.ends;
    one = e.one;
    whole = e.whole;
    more_ends = inr (e.more ++ text, sym (append_assoc e.more text (10 ∷ [])));
    later = e.later;
    put = e.put;
    rest = e.rest;
    cut = e.cut;
    lacks = e.lacks;
  }

  pub hold_line : (window : List ℕ) → length window + length taken ≤ length u.window
      → IsHolding b f s' (underway u.got (u.held ++ reply) window)
  unfolding with_it line_put
  hold_line window fits = record {
    serving = with_it;
    put = v.put;
    gained = v.gained;
    text_is = ap (λ (l : List ℕ). l ++ reply) v.text_is ∙ append_assoc v.put u.held reply;
    least = v.least;
    since = omega (
      arith,
      v.since,
      line_length,
      ap length empty,
      length-append v.serving.front (text ++ 10 ∷ []),
    );
    near = omega (
      arith,
      v.near,
      fits,
      line_length,
      ap length empty,
      length-append v.serving.front (text ++ 10 ∷ []),
    );
    cuts = λ done rest is least some.
        place done rest is least some (ends_in v.serving.text reply done rest is);
  }
    where
      place : (done rest : List ℕ) → v.serving.text ++ reply ≡ done ++ rest
          → f.put ≤ length done → 0 < length rest
          → EndsIn v.serving.text done ⊎ (length v.serving.text ≤ length done)
          → EndsWithin b f.taken (v.serving.front ++ (text ++ 10 ∷ [])) done
      place done rest is least some (inl i) =
          ends_before done (v.cuts done i.rest i.is least i.some)
      place done rest is least some (inr le) = ends_here done rest is some le
