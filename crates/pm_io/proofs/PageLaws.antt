-- Laws of a text that reaches a sink through a page: its parts one after the other, and line by
-- line, where each item of a list gives its line.
use Rattle.std.proofs.Common.{◌≡◌, ℕ, ◌+◌, ◌%◌, ◌<◌, ◌≤◌, List, [], ◌∷◌, ◌++◌, Option, length}
use Rattle.std.proofs.Common.{get_or, take, drop, refl, sym, ◌∙◌, ap, subst, append_assoc, arith}
use Rattle.std.proofs.Common.{length-append}
use Rattle.std.specs.List.{flat_map}
use Rattle.std.proofs.lemmas.Grind.{flat_map-append}
use Rattle.std.proofs.lemmas.List.{append-nil, take_more, take_all, take-append-drop}
use Rattle.pm_io.specs.declared.page.TheConstants.{PAGE_BYTES}
use Rattle.pm_io.specs.Bytes.{Gains, GainsPart, GainsThrough, ArePages}
use Rattle.pm_io.proofs.Known.{gains_none, gains_both, part_more, part_after}

-- Pages and pages again are pages.
pages_both : (a b : List ℕ) → ArePages a → ArePages b → ArePages (a ++ b)
pages_both a b first second = omega (arith, length-append a b, first, second)

-- No text.
pub through_none : (old : Option (List ℕ)) (held : List ℕ) → GainsThrough old old held held []
through_none old held = record {
  done = [];
  whole = append-nil held;
  pages = refl;
  gained = gains_none old;
}

-- One text after the other.
pub through_both : (old mid new : Option (List ℕ)) (p q r a b : List ℕ) → GainsThrough old mid p q a
    → GainsThrough mid new q r b → GainsThrough old new p r (a ++ b)
through_both old mid new p q r a b first second = record {
  done = first.done ++ second.done;
  whole =
      sym (append_assoc p a b) ∙ ap (λ (l : List ℕ). l ++ b) first.whole
      ∙ append_assoc first.done q b
      ∙ ap (λ (l : List ℕ). first.done ++ l) second.whole
      ∙ sym (append_assoc first.done second.done r);
  pages = pages_both first.done second.done first.pages second.pages;
  gained = gains_both old mid new first.done second.done first.gained second.gained;
}

-- A text, and then the page.
pub through_flush : (old mid new : Option (List ℕ)) (p q a : List ℕ) → GainsThrough old mid p q a
    → Gains mid new q → Gains old new (p ++ a)
through_flush old mid new p q a first second =
    subst (λ (l : List ℕ). Gains old new l) (sym first.whole)
    (gains_both old mid new first.done q first.gained second)

-- A part of what the page holds and of a text is a part of a longer text,
pub through_more : (old new : Option (List ℕ)) (p a b : List ℕ) → GainsPart old new (p ++ a)
    → GainsPart old new (p ++ (a ++ b))
through_more old new p a b part =
    subst (λ (l : List ℕ). GainsPart old new l) (append_assoc p a b)
    (part_more old new (p ++ a) b part)

-- and so it is after a text.
pub through_part : (old mid new : Option (List ℕ)) (p q a b : List ℕ) → GainsThrough old mid p q a
    → GainsPart mid new (q ++ b) → GainsPart old new (p ++ (a ++ b))
through_part old mid new p q a b first part =
    let whole : p ++ (a ++ b) ≡ first.done ++ (q ++ b) =
    sym (append_assoc p a b) ∙ ap (λ (l : List ℕ). l ++ b) first.whole
    ∙ append_assoc first.done q b in
    subst (λ (l : List ℕ). GainsPart old new l) (sym whole)
    (part_after old mid new first.done (q ++ b) first.gained part)

-- A text, and then a part of the page.
pub through_page_part : (old mid new : Option (List ℕ)) (p q a : List ℕ)
    → GainsThrough old mid p q a → GainsPart mid new q → GainsPart old new (p ++ a)
through_page_part old mid new p q a first part =
    subst (λ (l : List ℕ). GainsPart old new l) (sym first.whole)
    (part_after old mid new first.done q first.gained part)

-- The page was filled by the front of a piece and put, then more pages of it; the last of it is
-- held.
pub pages_put : (old mid new : Option (List ℕ)) (held piece front rest pages last : List ℕ)
    → piece ≡ front ++ rest → rest ≡ pages ++ last
    → length (held ++ front) ≡ PAGE_BYTES → ArePages pages → Gains old mid (held ++ front)
    → Gains mid new pages → GainsThrough old new held last piece
pages_put old mid new held piece front rest pages last cut again full are first second = record {
  done = (held ++ front) ++ pages;
  whole =
      ap (λ (l : List ℕ). held ++ l) cut ∙ sym (append_assoc held front rest)
      ∙ ap (λ (l : List ℕ). (held ++ front) ++ l) again
      ∙ sym (append_assoc (held ++ front) pages last);
  pages = pages_both (held ++ front) pages (ap (λ n. n % PAGE_BYTES) full) are;
  gained = gains_both old mid new (held ++ front) pages first second;
}

-- The sink failed within those pages.
pub pages_part : (old mid new : Option (List ℕ)) (held piece front rest pages last : List ℕ)
    → piece ≡ front ++ rest → rest ≡ pages ++ last
    → Gains old mid (held ++ front) → GainsPart mid new pages → GainsPart old new (held ++ piece)
pages_part old mid new held piece front rest pages last cut again first part =
    let whole : held ++ piece ≡ ((held ++ front) ++ pages) ++ last =
    ap (λ (l : List ℕ). held ++ l) cut ∙ sym (append_assoc held front rest)
    ∙ ap (λ (l : List ℕ). (held ++ front) ++ l) again
    ∙ sym (append_assoc (held ++ front) pages last) in
    subst (λ (l : List ℕ). GainsPart old new l) (sym whole)
    (part_more old new _ last (part_after old mid new (held ++ front) pages first part))

-- The lines of one item more.
lines_next : {X : Type 0} (line : X → List ℕ) (xs : List X) (i : ℕ) (x : X) → i < length xs
    → x ≡ get_or xs i x
    → flat_map line (take (i + 1) xs) ≡ flat_map line (take i xs) ++ line x
lines_next line xs i x lt is =
    ap (λ (l : List _). flat_map line l) (take_more xs i x lt
    ∙ ap (λ y. take i xs ++ y ∷ []) (sym is))
    ∙ flat_map-append line (take i xs) (x ∷ [])
    ∙ ap (λ (l : List ℕ). flat_map line (take i xs) ++ l) (append-nil (line x))

-- One line more.
pub line_through : {X : Type 0} (line : X → List ℕ) (xs : List X) (i : ℕ) (x : X)
    (old mid new : Option (List ℕ)) (p q r : List ℕ) → i < length xs → x ≡ get_or xs i x
    → GainsThrough old mid p q (flat_map line (take i xs)) → GainsThrough mid new q r (line x)
    → GainsThrough old new p r (flat_map line (take (i + 1) xs))
line_through line xs i x old mid new p q r lt is so_far next =
    subst (λ (l : List ℕ). GainsThrough old new p r l) (sym (lines_next line xs i x lt is))
    (through_both old mid new p q r _ _ so_far next)

-- The sink failed within this line.
pub line_through_part : {X : Type 0} (line : X → List ℕ) (xs : List X) (i : ℕ) (x : X)
    (old mid new : Option (List ℕ)) (p q : List ℕ) → i < length xs → x ≡ get_or xs i x
    → GainsThrough old mid p q (flat_map line (take i xs)) → GainsPart mid new (q ++ line x)
    → GainsPart old new (p ++ flat_map line xs)
line_through_part line xs i x old mid new p q lt is so_far part =
    let front = through_part old mid new p q _ _ so_far part in
    let whole : flat_map line xs ≡ (flat_map line (take i xs) ++ line x)
    ++ flat_map line (drop (i + 1) xs) =
    ap (λ (l : List _). flat_map line l) (sym (take-append-drop (i + 1) xs))
    ∙ flat_map-append line (take (i + 1) xs) (drop (i + 1) xs)
    ∙ ap (λ (l : List ℕ). l ++ flat_map line (drop (i + 1) xs)) (lines_next line xs i x lt is) in
    subst (λ (l : List ℕ). GainsPart old new (p ++ l)) (sym whole)
    (through_more old new p _ _ front)

-- All lines.
pub lines_through : {X : Type 0} (line : X → List ℕ) (xs : List X) (i : ℕ)
    (old new : Option (List ℕ)) (p q : List ℕ) → length xs ≤ i
    → GainsThrough old new p q (flat_map line (take i xs))
    → GainsThrough old new p q (flat_map line xs)
lines_through line xs i old new p q le all =
    subst (λ (l : List _). GainsThrough old new p q (flat_map line l)) (take_all i xs le) all
