use Rattle.std.proofs.Common.{◌≡◌, ℕ, ◌<◌, Bool, slice_index_or, sym, subst, ◌∙◌, arith}
use Rattle.pm_base.specs.Sides.{Net, net_of}
use Rattle.pm_turn.specs.Turning.{flag_of}
use Rattle.pm_turn.specs.Sums.{root_at, parity_at, no_sums, is_reversed, chosen_flag}
use Rattle.pm_turn.proofs.Summing.{flags_more}
use Rattle.pm_turn.proofs.Choosing.{chosen}
use Rattle.pm_turn.proofs.choice.chosen_flags.Goals as goal

pub loop-face-preserved : goal.loop-face-preserved
loop-face-preserved c =
    let inv = c.loop-face.invariant in
    let told : ℕ → Bool =
    λ f. chosen_flag (flag_of c.args.odd.now (root_at c.args.roots.now f))
    (is_reversed (slice_index_or c.args.sums.now (root_at c.args.roots.now f) no_sums))
    (parity_at c.args.roots.now f) in
    let (long, each) = flags_more c.loop-face.flags.items c.push.new.self.items c.loop-face.face
    c.flag_at.result told inv.long inv.each c.flag_at.ensures c.in_ok-push.ensures.items in
    record { long = long; each = each }

pub returns : goal.returns
returns c =
    let m : Net = net_of c.args.faces.now in
    let inv = c.loop-face.invariant in
    let end : c.loop-face.face ≡ m.faces =
    omega (arith, c.loop-face-test.false, c.loop-face.auto.face-end) in
    chosen m c.args.places.now c.args.mates.now c.args.roots.now (flag_of c.args.odd.now)
    c.args.sums.now c.requires.traced c.requires.mated c.requires.sums
    c.loop-face.flags.items (inv.long ∙ end) (λ f l. inv.each f (subst (λ i. f < i) (sym end) l))
