use Rattle.std.proofs.Common.{sym}
use Rattle.std.specs.List.{flat_map}
use Rattle.std.proofs.lemmas.Result.{err_from_is_err_and}
use Rattle.pm_io.proofs.PutLaws.{through_then, through_stops, through_same}
use Rattle.pm_format.specs.Words.{spelled}
use Rattle.pm_format.specs.Stream.{header_words, root_words, base_words, record_words}
use Rattle.pm_format.proofs.TextLaws.{stream_text}
use Rattle.pm_format.proofs.write.put_text.Goals as goal

pub returns-in_err-put_header : goal.returns-in_err-put_header
returns-in_err-put_header g c =
    let p = err_from_is_err_and c.from_residual.result c.from_residual.ensures.1 in
    let h = c.args.h.now in
    let head = spelled (header_words c.args.digits h) in
    rw (p.1, p.2)
    (through_same g.K.Sink _ _ _ _ _ _ _ (sym (stream_text c.args.digits h))
    (through_stops g.K.Sink _ _ _ _ head _ _ c.in_err-put_header.ensures))

pub returns-in_err-put_roots : goal.returns-in_err-put_roots
returns-in_err-put_roots g c =
    let p = err_from_is_err_and c.from_residual-in_err-put_roots.result
    c.from_residual-in_err-put_roots.ensures.1 in
    let h = c.args.h.now in
    let head = spelled (header_words c.args.digits h) in
    let roots = flat_map (λ r. spelled (root_words r)) h.roots in
    let part = through_then g.K.Sink _ _ _ _ _ _ head _ _ _ c.in_ok-put_header.ensures
    (through_stops g.K.Sink _ _ _ _ roots _ _ c.in_err-put_roots.ensures) in
    rw (p.1, p.2)
    (through_same g.K.Sink _ _ _ _ _ _ _ (sym (stream_text c.args.digits h)) part)

pub returns-in_err-put_bases : goal.returns-in_err-put_bases
returns-in_err-put_bases g c =
    let p = err_from_is_err_and c.from_residual-in_err-put_bases.result
    c.from_residual-in_err-put_bases.ensures.1 in
    let h = c.args.h.now in
    let head = spelled (header_words c.args.digits h) in
    let roots = flat_map (λ r. spelled (root_words r)) h.roots in
    let bases = flat_map (λ f. spelled (base_words f)) h.bases in
    let two = through_then g.K.Sink _ _ _ _ _ _ roots _ _ _ c.in_ok-put_roots.ensures
    (through_stops g.K.Sink _ _ _ _ bases _ _ c.in_err-put_bases.ensures) in
    let part = through_then g.K.Sink _ _ _ _ _ _ head _ _ _ c.in_ok-put_header.ensures two in
    rw (p.1, p.2)
    (through_same g.K.Sink _ _ _ _ _ _ _ (sym (stream_text c.args.digits h)) part)

pub returns : goal.returns
returns g c =
    let h = c.args.h.now in
    let head = spelled (header_words c.args.digits h) in
    let roots = flat_map (λ r. spelled (root_words r)) h.roots in
    let bases = flat_map (λ f. spelled (base_words f)) h.bases in
    let records = flat_map (λ r. spelled (record_words r)) h.records in
    let two = through_then g.K.Sink _ _ _ _ _ _ bases records _ _ c.in_ok-put_bases.ensures
    c.put_records.ensures in
    let three = through_then g.K.Sink _ _ _ _ _ _ roots _ _ _ c.in_ok-put_roots.ensures two in
    let all = through_then g.K.Sink _ _ _ _ _ _ head _ _ _ c.in_ok-put_header.ensures three in
    through_same g.K.Sink _ _ _ _ _ _ _ (sym (stream_text c.args.digits h)) all
