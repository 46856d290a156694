use Rattle.std.proofs.Common.{◌≡◌, ◌*◌, ◌-◌, ◌∙◌, ◌++◌, length, take, drop, sym, ap, arith}
use Rattle.std.proofs.lemmas.List.{take-append-drop, take_rest, length-take, length-replicate}
use Rattle.pm_format.specs.Words.{words_of}
use Rattle.pm_format.proofs.WordLaws.{length-words_of}
use Rattle.pm_format.proofs.WordReads.{words_front}
use Rattle.pm_format.proofs.words.Words.next_words.Goals as goal

pub returns-then-self : goal.returns-then-self
returns-then-self g c =
    let bytes = c.self.inside.rest.now in
    let count = ap length c.self.view_is in
    omega (arith, length-words_of bytes)

pub returns : goal.returns
returns g c =
    let bytes = c.self.inside.rest.now in
    let ws = c.read_u32_into.new.dst in
    let n = 4 * g.row.N in
    let many : length ws ≡ g.row.N = c.read_u32_into.auto.dst ∙ length-replicate g.row.N 0 in
    let rest : take (length bytes - n) (drop n bytes) ≡ drop n bytes = take_rest bytes n in
    let front : length (take n bytes) ≡ 4 * length ws = omega (arith, length-take n bytes) in
    sym c.self.view_is
    ∙ ap words_of (sym (take-append-drop n bytes))
    ∙ words_front ws (take n bytes) (drop n bytes) front c.read_u32_into.ensures
    ∙ ap (λ l. ws ++ words_of l) (sym rest)
