use Rattle.std.proofs.Common.{List, Bool, ◌<◌, length, arith, subst, sym, ap, ◌∙◌}
use Rattle.pm_forest.specs.Forest.{Hierarchy, record_count}
use Rattle.pm_forest.specs.Fronts.{with}
use Rattle.pm_base.specs.Counts.{set_of}
use Rattle.pm_beyond.specs.Moves.{IsClosed, MaySplit}
use Rattle.pm_firm.specs.Firm.{IsFirm}
use Rattle.pm_candidates.specs.Candidates.{AreCandidates}
use Rattle.pm_front.specs.State.{State}
use Rattle.pm_front.proofs.Surfaces.{shows_surface}
use Rattle.pm_front.proofs.FrontLaws.{sound-same, split_sound}
use Rattle.pm_front.proofs.ReadyLaws.{as_read, ready-same, split_ready, row_needed}
use Rattle.pm_front.proofs.front.Front.split_legal.Goals as goal

pub of-needed-requires : goal.of-needed-requires
of-needed-requires c =
    let l = subst (λ (s : State). c.args.k < record_count s.h) (sym c.self.view_is)
    c.requires.record in
    omega (arith, l, c.self.invariant.needed.len)

pub split-requires-clause-needed : goal.split-requires-clause-needed
split-requires-clause-needed c =
    let s = c.self.inside.tables in
    let l = subst (λ (s : State). c.args.k < record_count s.h) (sym c.self.view_is)
    c.requires.record in
    row_needed s.h _ c.self.inside.needed c.self.invariant.needed c.hierarchy.ensures c.args.k
    l _
    c.of-needed.ensures

pub split-requires-clause-closed : goal.split-requires-clause-closed
split-requires-clause-closed c =
    as_read (λ (g : Hierarchy) (fs : List Bool). IsClosed g (set_of fs)) _ _ _ _
    (sym c.hierarchy.ensures) (sym c.flags.ensures) c.self.invariant.sound.closed

pub invariant_of-self : goal.invariant_of-self
invariant_of-self c =
    let s = c.self.inside.tables in
    let k = c.args.k in
    let l = subst (λ (s : State). k < record_count s.h) (sym c.self.view_is) c.requires.record in
    let may = subst (λ (s : State). MaySplit s.h (set_of s.flags) k) (sym c.self.view_is)
    c.requires.legal in
    let sound = c.self.invariant.sound in
    let at : k < length s.flags = omega (arith, l, sound.flag_len) in
    let candidates =
    as_read (λ (g : Hierarchy) (fs : List Bool).
    AreCandidates g (with (set_of fs) k) c.split.new.self) _ _ _ _
    c.hierarchy.ensures c.flags.ensures c.split.ensures in
    ready-same c.split-2.new.self s.h _ c.split.new.self c.self.inside.needed c.split-2.ensures.h
    c.split-2.ensures.flags
    (split_ready s.h s.flags k at c.split.new.self c.self.inside.needed c.self.invariant.needed
    (split_sound s.h s.flags sound k l may) candidates)

pub returns-clause-surface : goal.returns-clause-surface
returns-clause-surface c firm =
    let s = c.self.inside.tables in
    let k = c.args.k in
    let l = subst (λ (s : State). k < record_count s.h) (sym c.self.view_is) c.requires.record in
    let may = subst (λ (s : State). MaySplit s.h (set_of s.flags) k) (sym c.self.view_is)
    c.requires.legal in
    let sound = sound-same c.split-2.new.self s.h _ c.split-2.ensures.h c.split-2.ensures.flags
    (split_sound s.h s.flags c.self.invariant.sound k l may) in
    shows_surface c.split-2.new.self sound
    (subst IsFirm (sym (c.split-2.ensures.h ∙ ap (λ (s : State). s.h) c.self.view_is)) firm)
