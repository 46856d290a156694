use Rattle.std.proofs.Common.{◌≡◌, ◌∙◌, ◌+◌, ◌*◌, ◌<◌, ◌++◌, ◌∷◌, [], Bool, List, length, refl}
use Rattle.std.proofs.Common.{sym, ap, subst}
use Rattle.std.specs.Prelude.{IfSome}
use Rattle.pm_base.specs.declared.log.Collapse.{Collapse as Entry}
use Rattle.pm_base.specs.Sides.{face_of, side_count}
use Rattle.pm_queue.specs.Entries.{Entries}
use Rattle.pm_runs.specs.Surfaces.{Surface, net_of_surface}
use Rattle.pm_runs.specs.Pairs.{IsLegalPair}
use Rattle.pm_shrink.specs.Shrinking.{net_at}
use Rattle.pm_shrink.proofs.GoneLaws.{gone_first_in, gone_second_in}
use Rattle.pm_simplify.specs.Choices.{Renews}
use Rattle.pm_simplify.specs.Forgetting.{forgotten}
use Rattle.pm_simplify.specs.KnownBorder.{AreOnBorder}
use Rattle.pm_simplify.proofs.ForgetLaws.{gone_small, gone_within}
use Rattle.pm_simplify.proofs.KnownBorderLaws.{noted_collapse}
use Rattle.pm_simplify.specs.AwaitedVertices.{AreAwaited}
use Rattle.pm_simplify.proofs.AwaitedLaws.{awaited_after}
use Rattle.pm_simplify.proofs.Stepping.{candidate_live, candidate_legal, right_collapse}
use Rattle.pm_simplify.proofs.step.collapse.Goals as goal

pub free_at-requires-clause-live : goal.free_at-requires-clause-live
free_at-requires-clause-live g c = let (p, m, log, on, x) =
    c.requires.candidate in
    (candidate_live p m log c.args.shrink.now on.after c.args.pair.a c.args.pair.b x).0

pub free_at-requires-2-clause-live : goal.free_at-requires-2-clause-live
free_at-requires-2-clause-live g c = let (p, m, log, on, x) =
    c.requires.candidate in
    (candidate_live p m log c.args.shrink.now on.after c.args.pair.a c.args.pair.b x).1

pub forget-requires-clause-small : goal.forget-requires-clause-small
forget-requires-clause-small g c =
    let n = net_at c.args.shrink.now in
    subst (λ (x : Entry). IfSome x.left (λ g. g.face.0 < 1048576))
    (sym c.collapse-entry.ensures.entry)
    (gone_small n c.args.pair.a c.args.pair.b (side_count n) refl
    c.invariant.ensures.kept.short)

pub forget-requires-clause-face : goal.forget-requires-clause-face
forget-requires-clause-face g c =
    let n = net_at c.args.shrink.now in
    let room = c.free_at-2.ensures.room ∙ c.free_at.ensures.room ∙ c.requires.room in
    subst (λ (x : Entry). IfSome x.left
    (λ g. 3 * g.face.0 + 2 < length c.free_at-2.new.edges.queue))
    (sym c.collapse-entry.ensures.entry)
    (gone_within n c.args.pair.a c.args.pair.b (length c.free_at-2.new.edges.queue) room
    c.invariant.ensures.kept.short)

pub forget-requires-clause-first : goal.forget-requires-clause-first
forget-requires-clause-first g c =
    let n = net_at c.args.shrink.now in
    let room = c.free_at-2.ensures.room ∙ c.free_at.ensures.room ∙ c.requires.room in
    subst (λ (x : Entry). IfSome x.left
    (λ g. IfSome g.first (λ s. s.0 < length c.free_at-2.new.edges.queue)))
    (sym c.collapse-entry.ensures.entry)
    (gone_first_in n c.args.pair.a c.args.pair.b (length c.free_at-2.new.edges.queue) room)

pub forget-requires-clause-second : goal.forget-requires-clause-second
forget-requires-clause-second g c =
    let n = net_at c.args.shrink.now in
    let room = c.free_at-2.ensures.room ∙ c.free_at.ensures.room ∙ c.requires.room in
    subst (λ (x : Entry). IfSome x.left
    (λ g. IfSome g.second (λ s. s.0 < length c.free_at-2.new.edges.queue)))
    (sym c.collapse-entry.ensures.entry)
    (gone_second_in n c.args.pair.a c.args.pair.b (length c.free_at-2.new.edges.queue) room)

pub forget-requires-2-clause-small : goal.forget-requires-2-clause-small
forget-requires-2-clause-small g c =
    let n = net_at c.args.shrink.now in
    subst (λ (x : Entry). IfSome x.right (λ g. g.face.0 < 1048576))
    (sym c.collapse-entry.ensures.entry)
    (gone_small n c.args.pair.b c.args.pair.a (side_count n) refl
    c.invariant.ensures.kept.short)

pub forget-requires-2-clause-face : goal.forget-requires-2-clause-face
forget-requires-2-clause-face g c =
    let n = net_at c.args.shrink.now in
    let room = c.forget.ensures.room ∙ c.free_at-2.ensures.room ∙ c.free_at.ensures.room
    ∙ c.requires.room in
    subst (λ (x : Entry). IfSome x.right (λ g. 3 * g.face.0 + 2 < length c.forget.new.queue))
    (sym c.collapse-entry.ensures.entry)
    (gone_within n c.args.pair.b c.args.pair.a (length c.forget.new.queue) room
    c.invariant.ensures.kept.short)

pub forget-requires-2-clause-first : goal.forget-requires-2-clause-first
forget-requires-2-clause-first g c =
    let n = net_at c.args.shrink.now in
    let room = c.forget.ensures.room ∙ c.free_at-2.ensures.room ∙ c.free_at.ensures.room
    ∙ c.requires.room in
    subst (λ (x : Entry). IfSome x.right
    (λ g. IfSome g.first (λ s. s.0 < length c.forget.new.queue)))
    (sym c.collapse-entry.ensures.entry)
    (gone_first_in n c.args.pair.b c.args.pair.a (length c.forget.new.queue) room)

pub forget-requires-2-clause-second : goal.forget-requires-2-clause-second
forget-requires-2-clause-second g c =
    let n = net_at c.args.shrink.now in
    let room = c.forget.ensures.room ∙ c.free_at-2.ensures.room ∙ c.free_at.ensures.room
    ∙ c.requires.room in
    subst (λ (x : Entry). IfSome x.right
    (λ g. IfSome g.second (λ s. s.0 < length c.forget.new.queue)))
    (sym c.collapse-entry.ensures.entry)
    (gone_second_in n c.args.pair.b c.args.pair.a (length c.forget.new.queue) room)

pub free_at-requires-clause-known : goal.free_at-requires-clause-known
free_at-requires-clause-known g c =
    let (p, m, log, on, x) = c.requires.candidate in
    (p, m, log, on)

pub free_at-requires-2-clause-known : goal.free_at-requires-2-clause-known
free_at-requires-2-clause-known g c =
    let (p, m, log, on, x) = c.requires.candidate in
    (p, m, log, on)

pub merged-requires : goal.merged-requires
merged-requires g c =
    let (p, m, log, on, x) = c.requires.candidate in
    record { known = (p, m, log, c.collapse-entry.ensures.after m log on.after, on.costs) }

pub returns-clause-goes_on : goal.returns-clause-goes_on
returns-clause-goes_on g c = λ p m log on. record {
  after = c.collapse-entry.ensures.after m log on.after;
  costs = c.merged.ensures.goes_on p m log (c.collapse-entry.ensures.after m log on.after) on.costs;
  kept = on.kept;
}

pub renew_around-requires-clause-known : goal.renew_around-requires-clause-known
renew_around-requires-clause-known g c =
    let (p, m, log, on, x) = c.requires.candidate in
    let then = c.collapse-entry.ensures.after m log on.after in
    let more : List Entry = log ++ c.collapse-entry.result ∷ [] in (
      p,
      m,
      more,
      record {
        after = then;
        costs = c.merged.ensures.goes_on p m log then on.costs;
        kept = on.kept;
      },
    )

pub renew_around-requires-clause-noted : goal.renew_around-requires-clause-noted
renew_around-requires-clause-noted g c =
    let (p, m, log, on, x) = c.requires.candidate in
    let s = c.args.shrink.now in
    let a = c.args.pair.a in
    let b = c.args.pair.b in
    let place = c.args.pair.place in
    let legal : IsLegalPair s.surface a b place =
    candidate_legal p m log s on.after a b place x (c.requires.place p m log on) in
    let kept = c.invariant.ensures.kept in
    let same = c.free_at-2.ensures.border ∙ c.free_at.ensures.border in
    let flags : List Bool = c.free_at-2.new.edges.border in
    let noted = subst (AreOnBorder s.surface) (sym same) c.requires.noted in
    subst (λ (t : Surface). AreOnBorder t flags) (sym c.collapse-entry.ensures.surface)
    (noted_collapse s.surface flags a b place kept.surface kept.proper legal noted)

pub returns-clause-right : goal.returns-clause-right
returns-clause-right g c = λ p m log on right.
    let (p0, m0, log0, on0, x) = c.requires.candidate in
    let s = c.args.shrink.now in
    let place = c.args.pair.place in
    let legal : IsLegalPair s.surface c.args.pair.a c.args.pair.b place =
    candidate_legal p0 m0 log0 s on0.after c.args.pair.a c.args.pair.b place x
    (c.requires.place p0 m0 log0 on0) in
    let entry = c.collapse-entry.result in
    let then = returns-clause-goes_on g c p m log on in
    let freed = c.free_at-2.ensures.right p m log on
    (c.free_at.ensures.right p m log on right) in
    let keys : c.forget-2.new.queue ≡
    forgotten (forgotten c.free_at-2.new.edges.queue entry.left) entry.right =
    c.forget-2.ensures.keys ∙ ap (λ (q : Entries). forgotten q entry.right) c.forget.ensures.keys in
    right_collapse p m log s c.args.pair.a c.args.pair.b place on.after x.ordered legal entry
    c.collapse-entry.ensures.entry
    c.free_at-2.new.edges.queue c.renew_around.new.queue c.free_at-2.new.edges.waiting freed
    (λ k st from. c.free_at-2.ensures.others (face_of k)
    (c.free_at.ensures.empty k st from))
    c.free_at-2.ensures.empty
    (subst (λ (q : Entries). Renews p m (log ++ entry ∷ []) q c.renew_around.new.queue) keys
    (c.renew_around.ensures.renews p m _ then)) (c.renew_around.ensures.right p m _ then)

pub returns-clause-awaited : goal.returns-clause-awaited
returns-clause-awaited g c =
    let (p, m, log, on, x) = c.requires.candidate in
    let s = c.args.shrink.now in
    let kept = c.invariant.ensures.kept in
    let a = c.args.pair.a in
    let b = c.args.pair.b in
    let place = c.args.pair.place in
    let flags = c.free_at-2.new.edges.awaited in
    let lists = c.free_at-2.new.edges.waiting in
    let legal : IsLegalPair s.surface a b place =
    candidate_legal p m log s on.after a b place x (c.requires.place p m log on) in
    subst (λ (z : Surface). AreAwaited (net_of_surface z) lists flags)
    (sym c.collapse-entry.ensures.surface)
    (awaited_after s.surface kept.surface kept.proper a b place legal lists flags
    c.free_at-2.ensures.awaited
    (λ e st from. c.free_at-2.ensures.others (face_of e) (c.free_at.ensures.empty e st from))
    c.free_at-2.ensures.empty)
