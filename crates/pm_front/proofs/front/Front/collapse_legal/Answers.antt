use Rattle.std.proofs.Common.{List, Bool, ◌<◌, length, arith, subst, sym, ap, ◌∙◌}
use Rattle.pm_forest.specs.Forest.{Hierarchy, record_count}
use Rattle.pm_forest.specs.Fronts.{without}
use Rattle.pm_base.specs.Counts.{set_of}
use Rattle.pm_forest.proofs.Flags.{set_of-clear}
use Rattle.pm_beyond.specs.Moves.{IsClosed, MayCollapse}
use Rattle.pm_firm.specs.Firm.{IsFirm}
use Rattle.pm_candidates.specs.Candidates.{AreCandidates}
use Rattle.pm_front.specs.State.{State}
use Rattle.pm_front.proofs.Surfaces.{shows_surface}
use Rattle.pm_front.proofs.FrontLaws.{sound-same, collapse_told, collapse_sound}
use Rattle.pm_front.proofs.ReadyLaws.{as_read, ready-same, collapse_ready, row_needed}
use Rattle.pm_front.proofs.front.Front.collapse_legal.Goals as goal

pub of-needed-requires : goal.of-needed-requires
of-needed-requires c =
    let l = subst (λ (s : State). c.args.k < record_count s.h) (sym c.self.view_is)
    c.requires.record in
    omega (arith, l, c.self.invariant.needed.len)

pub collapse-requires-clause-needed : goal.collapse-requires-clause-needed
collapse-requires-clause-needed c =
    let s = c.self.inside.tables in
    let l = subst (λ (s : State). c.args.k < record_count s.h) (sym c.self.view_is)
    c.requires.record in
    row_needed s.h _ c.self.inside.needed c.self.invariant.needed c.hierarchy.ensures c.args.k
    l _
    c.of-needed.ensures

pub collapse-requires-clause-closed : goal.collapse-requires-clause-closed
collapse-requires-clause-closed c =
    as_read (λ (g : Hierarchy) (fs : List Bool). IsClosed g (set_of fs)) _ _ _ _
    (sym c.hierarchy.ensures) (sym c.flags.ensures) c.self.invariant.sound.closed

pub collapse-requires-2-clause-told : goal.collapse-requires-2-clause-told
collapse-requires-2-clause-told c =
    let s = c.self.inside.tables in
    let k = c.args.k in
    let l = subst (λ (s : State). k < record_count s.h) (sym c.self.view_is) c.requires.record in
    let may = subst (λ (s : State). MayCollapse s.h (set_of s.flags) k) (sym c.self.view_is)
    c.requires.legal in
    collapse_told s.h s.flags c.self.invariant.sound k l may

pub invariant_of-self : goal.invariant_of-self
invariant_of-self c =
    let s = c.self.inside.tables in
    let k = c.args.k in
    let l = subst (λ (s : State). k < record_count s.h) (sym c.self.view_is) c.requires.record in
    let may = subst (λ (s : State). MayCollapse s.h (set_of s.flags) k) (sym c.self.view_is)
    c.requires.legal in
    let sound = c.self.invariant.sound in
    let at : k < length s.flags = omega (arith, l, sound.flag_len) in
    let candidates =
    as_read (λ (g : Hierarchy) (fs : List Bool).
    AreCandidates g (without (set_of fs) k) c.collapse.new.self) _ _ _ _
    c.hierarchy.ensures c.flags.ensures c.collapse.ensures in
    ready-same c.collapse-2.new.self s.h _ c.collapse.new.self c.self.inside.needed
    c.collapse-2.ensures.h c.collapse-2.ensures.flags
    (collapse_ready s.h s.flags k at c.collapse.new.self c.self.inside.needed
    c.self.invariant.needed
    (collapse_sound s.h s.flags sound k l may) candidates)

pub returns-clause-surface : goal.returns-clause-surface
returns-clause-surface c firm =
    let s = c.self.inside.tables in
    let k = c.args.k in
    let l = subst (λ (s : State). k < record_count s.h) (sym c.self.view_is) c.requires.record in
    let may = subst (λ (s : State). MayCollapse s.h (set_of s.flags) k) (sym c.self.view_is)
    c.requires.legal in
    let sound = sound-same c.collapse-2.new.self s.h _ c.collapse-2.ensures.h
    c.collapse-2.ensures.flags (collapse_sound s.h s.flags c.self.invariant.sound k l may) in
    shows_surface c.collapse-2.new.self sound
    (subst IsFirm (sym (c.collapse-2.ensures.h ∙ ap (λ (s : State). s.h) c.self.view_is)) firm)

pub returns-clause-done : goal.returns-clause-done
returns-clause-done c =
    let s = c.self.inside.tables in
    let k = c.args.k in
    let l = subst (λ (s : State). k < record_count s.h) (sym c.self.view_is) c.requires.record in
    let at : k < length s.flags = omega (arith, l, c.self.invariant.sound.flag_len) in
    ap set_of c.collapse-2.ensures.flags ∙ set_of-clear s.flags k at
    ∙ ap (λ (s : State). without (set_of s.flags) k) c.self.view_is
