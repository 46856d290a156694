use Rattle.std.proofs.Common.{◌≡◌, ℕ, length, ◌∙◌, subst, arith}
use Rattle.pm_base.specs.Sides.{Net, net_of, face_of}
use Rattle.pm_turn.specs.Unions.{Up, AreElders, elders_of}
use Rattle.pm_turn.proofs.Joining.{up_below}
use Rattle.pm_turn.proofs.patches.join.Goals as goal

pub join_roots-requires-clause-one : goal.join_roots-requires-clause-one
join_roots-requires-clause-one c =
    let m : Net = net_of c.args.faces.now in
    let n : ℕ = c.args.side.0 in
    let k : ℕ = c.args.mate.0 in
    let one = c.root_of-one.result in
    let other = c.root_of-other.result in
    let p = c.root_of-other.new.p in
    let t = elders_of p.elders.items p.parities.items p.odd.items in
    let late = c.root_of-other.ensures.shorter in
    let s : AreElders m n t =
    late.stay m n (c.root_of-one.ensures.shorter.stay m n c.requires.so_far) in
    let v : Up t (face_of n) one.face one.parity =
    subst (λ f. Up t f one.face one.parity) c.face.ensures
    (late.ups c.face.result.0 one.face one.parity c.root_of-one.ensures.root) in
    let w : Up t (face_of k) other.face other.parity =
    subst (λ f. Up t f other.face other.parity) c.face-2.ensures c.root_of-other.ensures.root in
    let long : length p.elders.items ≡ m.faces =
    c.root_of-other.ensures.tables.elders_long ∙ c.root_of-one.ensures.tables.elders_long
    ∙ c.requires.tables.elders_long in
    let a = c.requires.mates in
    let side = a.stands.is_side in
    let low = up_below m n t s (face_of n) one.face one.parity v in
    omega (arith, low, side, long)

pub join_roots-requires-clause-other : goal.join_roots-requires-clause-other
join_roots-requires-clause-other c =
    let m : Net = net_of c.args.faces.now in
    let n : ℕ = c.args.side.0 in
    let k : ℕ = c.args.mate.0 in
    let one = c.root_of-one.result in
    let other = c.root_of-other.result in
    let p = c.root_of-other.new.p in
    let t = elders_of p.elders.items p.parities.items p.odd.items in
    let late = c.root_of-other.ensures.shorter in
    let s : AreElders m n t =
    late.stay m n (c.root_of-one.ensures.shorter.stay m n c.requires.so_far) in
    let v : Up t (face_of n) one.face one.parity =
    subst (λ f. Up t f one.face one.parity) c.face.ensures
    (late.ups c.face.result.0 one.face one.parity c.root_of-one.ensures.root) in
    let w : Up t (face_of k) other.face other.parity =
    subst (λ f. Up t f other.face other.parity) c.face-2.ensures c.root_of-other.ensures.root in
    let long : length p.elders.items ≡ m.faces =
    c.root_of-other.ensures.tables.elders_long ∙ c.root_of-one.ensures.tables.elders_long
    ∙ c.requires.tables.elders_long in
    let a = c.requires.mates in
    let side = a.same.stands.is_side in
    let low = up_below m n t s (face_of k) other.face other.parity w in
    omega (arith, low, side, long)

pub returns-clause-one_more : goal.returns-clause-one_more
returns-clause-one_more c =
    let m : Net = net_of c.args.faces.now in
    let n : ℕ = c.args.side.0 in
    let k : ℕ = c.args.mate.0 in
    let one = c.root_of-one.result in
    let other = c.root_of-other.result in
    let p = c.root_of-other.new.p in
    let t = elders_of p.elders.items p.parities.items p.odd.items in
    let late = c.root_of-other.ensures.shorter in
    let s : AreElders m n t =
    late.stay m n (c.root_of-one.ensures.shorter.stay m n c.requires.so_far) in
    let v : Up t (face_of n) one.face one.parity =
    subst (λ f. Up t f one.face one.parity) c.face.ensures
    (late.ups c.face.result.0 one.face one.parity c.root_of-one.ensures.root) in
    let w : Up t (face_of k) other.face other.parity =
    subst (λ f. Up t f other.face other.parity) c.face-2.ensures c.root_of-other.ensures.root in
    c.join_roots.ensures.one_more m n k c.requires.mates c.clash-clash.ensures s v w
