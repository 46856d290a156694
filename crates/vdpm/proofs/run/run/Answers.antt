use Rattle.std.proofs.Common.{◌≡◌, ℕ, List, Option, None, Err, IfSome, inl, refl, sym, ◌∙◌}
use Rattle.std.proofs.Common.{subst, arith, rules}
use Rattle.std.specs.Prelude.{codes}
use Rattle.pm_commands.specs.declared.asked.Asked.{Asked}
use Rattle.pm_commands.specs.declared.asked.Asked.TheVariants as asked
use Rattle.pm_commands.specs.Outcome.{IsOutcome, Replied}
use Rattle.pm_commands.specs.Ending.{Ends, FewMore, FewMoreLive}
use Rattle.pm_commands.proofs.EndingLaws.{one_asked, said_fault, read_of, cut_of, write_of}
use Rattle.pm_commands.proofs.EndingLaws.{fail_counts, fail_says}
use Rattle.pm_commands.proofs.EndingLaws.{completes_whole, completes}
use Rattle.vdpm.specs.Endings.{ReadsTo, CutsALine}
use Rattle.vdpm.proofs.run.run.Goals as goal

-- Which line a failed write cut, where the words ask for a script.
cut_line : (a : Asked) (left now old new : Option (List ℕ))
    → ((budget : ℕ) → a ≡ asked.View budget → FewMore budget left now old new)
    → ((budget : ℕ) → a ≡ asked.Live budget → FewMoreLive budget left now old new)
    → CutsALine a left now old new
cut_line (asked.View budget) left now old new view live = view budget refl
cut_line (asked.Live budget) left now old new view live = live budget refl
cut_line (asked.Canon digits) left now old new view live = tt
cut_line (asked.Build target digits) left now old new view live = tt
cut_line asked.Expand left now old new view live = tt
cut_line asked.Check left now old new view live = tt
cut_line (asked.Demo n) left now old new view live = tt
cut_line (asked.Simplify target digits border) left now old new view live = tt

pub returns-in-Ok-clause-obeys : goal.returns-in-Ok-clause-obeys
returns-in-Ok-clause-obeys g c = record {
  whole = λ other asks is.
      subst (λ a. IfSome (g.S.Source.left c.args.input.now)
      (λ bytes. Replied a bytes None (g.K.Sink.got c.args.out.now) (g.K.Sink.got c.obey.new.out)))
      (one_asked _ _ other (sym c.read_words.ensures.asked ∙ c.in-Some.is) asks)
      c.in-Ok.ensures.ends;
  read_to = λ other asks is.
      subst (λ a. ReadsTo a (g.S.Source.left c.args.input.now) (g.S.Source.left c.obey.new.input))
      (one_asked _ _ other (sym c.read_words.ensures.asked ∙ c.in-Some.is) asks)
      (c.in-Ok.ensures.read_whole, c.in-Ok.ensures.read_to_place);
  expands = λ target digits asks is. c.in-Ok.ensures.gives_back target digits
      (one_asked _ _ (asked.Build target digits) (sym c.read_words.ensures.asked ∙ c.in-Some.is)
      asks);
  surfaces = λ target digits asks is. c.in-Ok.ensures.surfaces target digits
      (one_asked _ _ (asked.Build target digits) (sym c.read_words.ensures.asked ∙ c.in-Some.is)
      asks);
  demo_unread = λ n asks. (
    (c.in-Ok.ensures.unread n
        (one_asked _ _ (asked.Demo n) (sym c.read_words.ensures.asked ∙ c.in-Some.is) asks)).0,
    (λ is. absurd (omega arith), λ is. absurd (omega arith)),
  );
  faulty = search rules;
  unreached = search rules;
  write = search rules;
  memory = search rules;
  complete = λ other bytes all asks left outcome none.
      inl (completes_whole c.outcomes_are_sound.ensures.one c.in-Some.asked bytes all _ _ _ left
      (subst (λ a. IsOutcome a bytes all)
      (one_asked _ other _ asks (sym c.read_words.ensures.asked ∙ c.in-Some.is)) outcome)
      c.in-Ok.ensures.ends);
}

pub returns-in-Err-clause-obeys : goal.returns-in-Err-clause-obeys
returns-in-Err-clause-obeys g c = record {
  whole = search rules;
  read_to = search rules;
  expands = search rules;
  surfaces = search rules;
  demo_unread = λ n asks.
      let ends = c.in-Err.ensures.unread n
      (one_asked _ _ (asked.Demo n) (sym c.read_words.ensures.asked ∙ c.in-Some.is) asks) in
      (ends.0, rw c.tell.ensures.status ends.1);
  faulty = λ other asks is.
      said_fault (codes "vdpm: ") other c.in-Err.fail _ _ _ _ _ _ _ _
      (sym c.tell.ensures.status ∙ is)
      (subst (λ a. Ends a (Err c.in-Err.fail) (g.S.Source.left c.args.input.now)
      (g.S.Source.left c.obey.new.input) (g.K.Sink.got c.args.out.now)
      (g.K.Sink.got c.obey.new.out))
      (one_asked _ _ other (sym c.read_words.ensures.asked ∙ c.in-Some.is) asks)
      c.in-Err.ensures.ends) c.tell.ensures.said;
  unreached = λ other asks is.
      read_of other c.in-Err.fail _ _ _ _ (sym c.tell.ensures.status ∙ is)
      (subst (λ a. Ends a (Err c.in-Err.fail) (g.S.Source.left c.args.input.now)
      (g.S.Source.left c.obey.new.input) (g.K.Sink.got c.args.out.now)
      (g.K.Sink.got c.obey.new.out))
      (one_asked _ _ other (sym c.read_words.ensures.asked ∙ c.in-Some.is) asks)
      c.in-Err.ensures.ends);
  write = λ other asks is.
      let same = one_asked _ _ other (sym c.read_words.ensures.asked ∙ c.in-Some.is) asks in
      let failed = sym c.tell.ensures.status ∙ is in
      let cut = cut_of other c.in-Err.fail _ _ _ _ _ _ _ _ failed
      (subst (λ a. Ends a (Err c.in-Err.fail) (g.S.Source.left c.args.input.now)
      (g.S.Source.left c.obey.new.input) (g.K.Sink.got c.args.out.now)
      (g.K.Sink.got c.obey.new.out)) same c.in-Err.ensures.ends) c.in-Err.ensures.counts in
      record {
        rose = cut.0;
        part = cut.1;
        line = cut_line other _ _ _ _
            (λ budget view. c.in-Err.ensures.few_more budget (same ∙ view)
            (write_of c.in-Err.fail failed))
            (λ budget live. c.in-Err.ensures.few_more_live budget (same ∙ live)
            (write_of c.in-Err.fail failed));
      };
  memory = search rules;
  complete = λ other bytes all asks left outcome none.
      completes c.outcomes_are_sound.ensures.one c.in-Some.asked c.in-Err.fail _ _ _ _ _ bytes all
      _ _ _ _ left (subst (λ a. IsOutcome a bytes all)
      (one_asked _ other _ asks (sym c.read_words.ensures.asked ∙ c.in-Some.is)) outcome)
      c.in-Err.ensures.ends c.in-Err.ensures.counts c.tell.ensures.status none.input_same
      none.out_same none.input_few none.out_few;
}

pub returns-in-Err-clause-counts : goal.returns-in-Err-clause-counts
returns-in-Err-clause-counts g c =
    fail_counts g.S.Source g.K.Sink c.in-Err.fail _ _ _ _ _ c.tell.ensures.status
    c.in-Err.ensures.counts

pub returns-in-Err-clause-said : goal.returns-in-Err-clause-said
returns-in-Err-clause-said g c =
    fail_says g.E.Sink (codes "vdpm") c.in-Err.fail _ _ _ c.tell.ensures.status c.tell.ensures.said
