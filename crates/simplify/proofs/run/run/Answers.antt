use Rattle.std.proofs.Common.{Some, None, Err, IfSome, inl, sym, ap, ◌∙◌, subst, rules}
use Rattle.std.specs.Prelude.{codes}
use Rattle.pm_commands.specs.declared.asked.Border.TheVariants as borders
use Rattle.pm_commands.specs.declared.asked.Asked.TheVariants as asked
use Rattle.pm_commands.specs.Outcome.{IsOutcome, Replied}
use Rattle.pm_commands.specs.Ending.{ReadToEnd, Ends}
use Rattle.pm_commands.proofs.EndingLaws.{said_fault, read_of, cut_of}
use Rattle.pm_commands.proofs.EndingLaws.{fail_counts, fail_says}
use Rattle.pm_commands.proofs.EndingLaws.{completes_whole, completes}
use Rattle.simplify.proofs.EndingLaws.{one_asked}
use Rattle.simplify.proofs.run.run.Goals as goal

pub returns-in-Ok-clause-obeys : goal.returns-in-Ok-clause-obeys
returns-in-Ok-clause-obeys g c = record {
  whole = λ other asks is.
      subst (λ a. IfSome (g.S.Source.left c.args.input.now)
      (λ bytes. Replied a bytes None (g.K.Sink.got c.args.out.now) (g.K.Sink.got c.obey.new.out)))
      (one_asked _ _ other (sym c.read_words.ensures.asked
      ∙ (c.in-Some.is ∙ ap (λ r. Some r) c.in-Work.is)) asks)
      c.in-Ok.ensures.ends;
  read_whole = λ other asks is.
      subst (λ a. ReadToEnd a (g.S.Source.left c.args.input.now) (g.S.Source.left c.obey.new.input))
      (one_asked _ _ other (sym c.read_words.ensures.asked
      ∙ (c.in-Some.is ∙ ap (λ r. Some r) c.in-Work.is)) asks)
      c.in-Ok.ensures.read_whole;
  expands = λ target digits border asks is.
      c.in-Ok.ensures.simplified_back target digits border
      (one_asked _ _ (asked.Simplify target digits border) (sym c.read_words.ensures.asked
      ∙ (c.in-Some.is ∙ ap (λ r. Some r) c.in-Work.is)) asks);
  surfaces = λ target digits border asks is.
      c.in-Ok.ensures.simplified_surfaces target digits border
      (one_asked _ _ (asked.Simplify target digits border) (sym c.read_words.ensures.asked
      ∙ (c.in-Some.is ∙ ap (λ r. Some r) c.in-Work.is)) asks);
  meets = λ target digits asks is.
      c.in-Ok.ensures.meets target digits
      (one_asked _ _ (asked.Simplify target digits borders.Kept) (sym c.read_words.ensures.asked
      ∙ (c.in-Some.is ∙ ap (λ r. Some r) c.in-Work.is)) asks);
  faulty = search rules;
  unreached = search rules;
  write = search rules;
  memory = search rules;
  complete = λ other bytes all asks left outcome none.
      inl (completes_whole c.outcomes_are_sound.ensures.one c.in-Work.asked bytes all _ _ _ left
      (subst (λ a. IsOutcome a bytes all)
      (one_asked _ other _ asks (sym c.read_words.ensures.asked
      ∙ (c.in-Some.is ∙ ap (λ r. Some r) c.in-Work.is))) outcome)
      c.in-Ok.ensures.ends);
}

pub returns-in-Err-clause-obeys : goal.returns-in-Err-clause-obeys
returns-in-Err-clause-obeys g c = record {
  whole = search rules;
  read_whole = search rules;
  expands = search rules;
  surfaces = search rules;
  meets = search rules;
  faulty = λ other asks is.
      said_fault (codes "simplify: ") other c.in-Err.fail _ _ _ _ _ _ _ _ (sym c.tell.ensures.status
      ∙ is) (subst
      (λ a. Ends a (Err c.in-Err.fail) (g.S.Source.left c.args.input.now)
      (g.S.Source.left c.obey.new.input) (g.K.Sink.got c.args.out.now)
      (g.K.Sink.got c.obey.new.out))
      (one_asked _ _ other (sym c.read_words.ensures.asked
      ∙ (c.in-Some.is ∙ ap (λ r. Some r) c.in-Work.is)) asks)
      c.in-Err.ensures.ends) c.tell.ensures.said;
  unreached = λ other asks is.
      read_of other c.in-Err.fail _ _ _ _ (sym c.tell.ensures.status ∙ is)
      (subst (λ a. Ends a (Err c.in-Err.fail) (g.S.Source.left c.args.input.now)
      (g.S.Source.left c.obey.new.input) (g.K.Sink.got c.args.out.now)
      (g.K.Sink.got c.obey.new.out))
      (one_asked _ _ other (sym c.read_words.ensures.asked
      ∙ (c.in-Some.is ∙ ap (λ r. Some r) c.in-Work.is)) asks)
      c.in-Err.ensures.ends);
  write = λ other asks is.
      cut_of other c.in-Err.fail _ _ _ _ _ _ _ _ (sym c.tell.ensures.status ∙ is)
      (subst (λ a. Ends a (Err c.in-Err.fail) (g.S.Source.left c.args.input.now)
      (g.S.Source.left c.obey.new.input) (g.K.Sink.got c.args.out.now)
      (g.K.Sink.got c.obey.new.out))
      (one_asked _ _ other (sym c.read_words.ensures.asked
      ∙ (c.in-Some.is ∙ ap (λ r. Some r) c.in-Work.is)) asks)
      c.in-Err.ensures.ends) c.in-Err.ensures.counts;
  memory = search rules;
  complete = λ other bytes all asks left outcome none.
      completes c.outcomes_are_sound.ensures.one c.in-Work.asked c.in-Err.fail _ _ _ _ _ bytes all
      _ _ _ _ left (subst (λ a. IsOutcome a bytes all)
      (one_asked _ other _ asks (sym c.read_words.ensures.asked
      ∙ (c.in-Some.is ∙ ap (λ r. Some r) c.in-Work.is))) outcome)
      c.in-Err.ensures.ends c.in-Err.ensures.counts c.tell.ensures.status none.input_same
      none.out_same none.input_few none.out_few;
}

pub returns-in-Err-clause-counts : goal.returns-in-Err-clause-counts
returns-in-Err-clause-counts g c =
    fail_counts g.S.Source g.K.Sink c.in-Err.fail _ _ _ _ _ c.tell.ensures.status
    c.in-Err.ensures.counts

pub returns-in-Err-clause-said : goal.returns-in-Err-clause-said
returns-in-Err-clause-said g c =
    fail_says g.E.Sink (codes "simplify") c.in-Err.fail _ _ _ c.tell.ensures.status
    c.tell.ensures.said
