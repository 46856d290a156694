-- What a decoder of a stream has begun with, the hierarchy of the whole text begins with.
use Rattle.std.proofs.Common.{◌≡◌, ℕ, zero, suc, ◌-◌, List, [], ◌∷◌, ◌++◌, length, take}
use Rattle.std.proofs.Common.{Option, Some, None, IfSome, Bool, true, false, not, nat_lt, Ok, ◌||◌}
use Rattle.std.proofs.Common.{refl, sym, ◌∙◌, ap, arith, append_assoc}
use Rattle.std.proofs.lemmas.List.{append-nil, take_at}
use Rattle.std.proofs.lemmas.Bool.Decides.{nat_tests}
use Rattle.pm_forest.specs.declared.parts.Counts.{Counts}
use Rattle.pm_forest.specs.declared.parts.Unfinished.{Unfinished}
use Rattle.pm_forest.specs.Forest.{Hierarchy}
use Rattle.pm_forest.specs.Rules.{past_fault, with_record}
use Rattle.pm_forest.specs.Shaping.{Shaping, expects_after}
use Rattle.pm_format.specs.Reading.{units_at, record_after_all, faces_after}
use Rattle.pm_format.specs.Decoding.{all_after, on_from, rest_from, HasBases, IsWaiting}
use Rattle.pm_format.specs.Standing.{is_root_or_base}
use Rattle.pm_format.proofs.ReadingLaws.{Reader, same_Ok, then_read_ok, judged_ok}
use Rattle.pm_format.proofs.OnLaws.{at_records}
use Rattle.pm_prefix.specs.Laws.{BeginsWith}

-- A list begins with another.
record StartsWith {X : Type 0} (all before : List X) : Type 0 where
  more : List X
  is : all ≡ before ++ more

units-added : {X : Type 0} (read : Reader X) (n : ℕ) (before : List X) (ws : List ℕ)
    (u : List X × List ℕ) → units_at read n before ws ≡ Ok u → StartsWith u.0 before
unfolding units_at
units-added {X} read zero before ws u is = record {
  more = [];
  is = sym (ap (λ (v : List X × List ℕ). v.0) (same_Ok _ _ is)) ∙ sym (append-nil before);
}
units-added read (suc n) before ws u is =
    then_read_ok _ (read before ws) u is (λ v was then_is.
    let on = units-added read n (before ++ v.0 ∷ []) v.1 u then_is in
    record { more = v.0 ∷ on.more; is = on.is ∙ append_assoc before (v.0 ∷ []) on.more })

-- What was read after these units begins with them.
record ReadAfter (h g : Hierarchy) : Type 0 where
  roots : h.roots ≡ g.roots
  bases : h.bases ≡ g.bases
  records : StartsWith h.records g.records

all-after : (c : Counts) (g : Hierarchy) (ws : List ℕ) (h : Hierarchy) (rest : List ℕ)
    → HasBases c g → all_after c g ws ≡ Ok (h, rest) → ReadAfter h g
all-after c g ws h rest full is =
    let read = sym (at_records c g ws full.roots full.bases) ∙ is in
    then_read_ok _
    (units_at (record_after_all g.roots g.bases) (c.records - length g.records) g.records ws)
    (h, rest) read (λ n records last.
    let found : Hierarchy = record { roots = g.roots; bases = g.bases; records = n.0 } in
    let judgement = judged_ok (past_fault found) (found, n.1) (h, rest) last in
    let is_h : found ≡ h = ap (λ (v : Hierarchy × List ℕ). v.0) judgement.1 in
    let added = units-added (record_after_all g.roots g.bases) (c.records - length g.records)
    g.records ws n records in
    record {
      roots = sym (ap (λ (q : Hierarchy). q.roots) is_h);
      bases = sym (ap (λ (q : Hierarchy). q.bases) is_h);
      records = record {
        more = added.more;
        is = sym (ap (λ (q : Hierarchy). q.records) is_h) ∙ added.is;
      };
    })

on-after : (c : Counts) (g : Hierarchy) (coming : Option Unfinished) (ws : List ℕ) (h : Hierarchy)
    (rest : List ℕ) → HasBases c g → on_from c g coming ws ≡ Ok (h, rest) → ReadAfter h g
on-after c g None ws h rest full is = all-after c g ws h rest full is
on-after c g (Some p) ws h rest full is =
    then_read_ok _ (faces_after g p ws) (h, rest) is (λ q was on.
    let after = all-after c (with_record g q.0.split) q.1 h rest
    (record { roots = full.roots; bases = full.bases }) on in
    record {
      roots = after.roots;
      bases = after.bases;
      records = record {
        more = q.0.split ∷ after.records.more;
        is = after.records.is ∙ append_assoc g.records (q.0.split ∷ []) after.records.more;
      };
    })

begins-after : (h g : Hierarchy) → ReadAfter h g → BeginsWith h g
begins-after h g a = record {
  roots = a.roots;
  bases = a.bases;
  records =
      ap (λ l. take (length g.records) l) a.records.is
      ∙ take_at g.records a.records.more (length g.records) refl;
}

-- Where neither a root nor a base face comes next, all of them are there.
none-due : (c : Counts) (g : Hierarchy) (roots bases : Bool)
    → nat_lt (length g.roots) c.roots ≡ roots → nat_lt (length g.bases) c.bases ≡ bases
    → not (is_root_or_base (expects_after c g None)) ≡ true → HasBases c g
none-due c g true bases r b begun = absurd (cc (rw r at begun))
none-due c g false true r b begun = absurd (cc (rw (r, b) at begun))
none-due c g false false r b begun =
    record { roots = grind (arith, nat_tests); bases = grind (arith, nat_tests) }

has-bases : (c : Counts) (g : Hierarchy) (coming : Option Unfinished)
    → IfSome coming (λ p. (p.left_due || p.right_due ≡ true) × HasBases c g)
    → not (is_root_or_base (expects_after c g coming)) ≡ true → HasBases c g
has-bases c g (Some p) waits begun = waits.1
has-bases c g None waits begun = none-due c g _ _ refl refl begun

pub rest-begins : (s : Shaping) (ws : List ℕ) (h : Hierarchy) (rest : List ℕ) → IsWaiting s
    → not (is_root_or_base (expects_after s.counts s.h s.coming)) ≡ true
    → rest_from s ws ≡ Ok (h, rest) → BeginsWith h s.h
rest-begins s ws h rest waits begun is =
    begins-after h s.h (on-after s.counts s.h s.coming ws h rest
    (has-bases s.counts s.h s.coming waits begun) is)
