use Rattle.std.proofs.Common.{◌≡◌, ◌∙◌, ℕ, inl, inr, sym, subst, arith}
use Rattle.std.proofs.Math.ListN.{set}
use Rattle.std.proofs.lemmas.Bool.{cases_lt}
use Rattle.std.proofs.lemmas.List.{length-set}
use Rattle.std.specs.Prelude.{slice_index_or}
use Rattle.pm_number.specs.Tables.{RootsHave}
use Rattle.pm_number.proofs.NumberLaws.{set_keeps, set_makes}
use Rattle.pm_number.proofs.tables.number_left.Goals as goal

pub index_mut-requires : goal.index_mut-requires
index_mut-requires c = omega (arith, c.requires.inside c.loop-j.j c.loop-j-test.true)

pub loop-j-preserved : goal.loop-j-preserved
loop-j-preserved c =
    let table = c.loop-j.table.items in
    let left = c.args.left.now in
    let j = c.loop-j.j in
    let w = slice_index_or left j 0 in
    let len = c.loop-j.invariant.len in
    record {
      len = length-set table w j ∙ len;
      each = λ number right k m.
          let here = right j c.loop-j-test.true in
          let inside = c.requires.inside j c.loop-j-test.true in
          elim (cases_lt k j) [
            | inl a ↦ set_keeps table number w j (slice_index_or left k 0) (sym here)
                (c.loop-j.invariant.each number right k a) (omega arith)
            | inr a ↦ (let is : k ≡ j =
                omega arith in
                subst (λ (n : ℕ). RootsHave (set table w j) number left n) (sym is)
                (set_makes table number w j (sym here) (omega arith)))
          ];
    }

pub returns-clause-each : goal.returns-clause-each
returns-clause-each c = λ number right k m. c.loop-j.invariant.each number right k (omega arith)
