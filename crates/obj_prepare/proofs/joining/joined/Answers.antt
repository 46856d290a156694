use Rattle.std.proofs.Common.{◌∙◌, sym, ap, refl, length, true, false, arith}
use Rattle.std.proofs.lemmas.Bool.{true≢false}
use Rattle.obj_prepare.proofs.NamedLaws.{length-named_in}
use Rattle.obj_prepare.proofs.JoiningLaws.{flag_names, unnamed_on, names_more}
use Rattle.obj_prepare.proofs.joining.joined.Goals.{then-index+in_ok-first_at+in_ok-push}
use Rattle.obj_prepare.proofs.joining.joined.Goals.{else-index+in_ok-push-2}
use Rattle.obj_prepare.proofs.joining.joined.Goals as goal

pub index-requires : goal.index-requires
index-requires c =
    omega (
      arith,
      c.in_ok-named.named.ok.0,
      ap length c.in_ok-named.ensures,
      length-named_in c.args.faces.now (length c.args.places.now),
      c.loop-v-test.true,
    )

pub loop-v-preserved : goal.loop-v-preserved
loop-v-preserved c =
    let places = c.args.places.now in
    let faces = c.args.faces.now in
    let v = c.loop-v.v in
    elim c.if-index.branch [
      | then-index+in_ok-first_at+in_ok-push w ↦
          let named = flag_names c.in_ok-named.named.items faces (length places) v
          c.index.result.now true c.in_ok-named.ensures c.loop-v-test.true c.index.ensures
          w.if-index.true in
          rw (w.firsts-is, w.names-is) (record {
            firsts = w.in_ok-first_at.ensures.noted faces c.loop-v.invariant.firsts named;
            names = names_more places faces v _ c.loop-v.names.items _ c.loop-v.invariant.names
                w.in_ok-push.ensures.items
                (λ t. w.in_ok-first_at.ensures.first faces c.loop-v.invariant.firsts named)
                (λ f. absurd (true≢false (sym named ∙ f)));
          })
      | else-index+in_ok-push-2 w ↦
          let out = flag_names c.in_ok-named.named.items faces (length places) v c.index.result.now
          false c.in_ok-named.ensures c.loop-v-test.true c.index.ensures w.if-index.false in
          rw (w.firsts-is, w.names-is) (record {
            firsts = unnamed_on places faces v c.loop-v.firsts c.loop-v.invariant.firsts out;
            names = names_more places faces v v c.loop-v.names.items _ c.loop-v.invariant.names
                w.in_ok-push-2.ensures.items
                (λ t. absurd (true≢false (sym t ∙ out))) (λ f. refl);
          })
    ]
