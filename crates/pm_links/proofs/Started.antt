-- The arena before the first call.
use Rattle.std.proofs.Common.{◌≡◌, ℕ, ◌+◌, ◌<◌, ◌≤◌, List, [], length, get_or, replicate, arith}
use Rattle.std.proofs.lemmas.List.{get_or-replicate, length-replicate}
use Rattle.std.proofs.lemmas.Bool.{false≢true}
use Rattle.pm_links.specs.declared.links.TheConstants.{LIMIT}
use Rattle.pm_links.specs.Arena.{IsArena}

-- each node is a ring of its own, and no item has an owner
pub started : (n m none : ℕ) (next prev owner : List ℕ) → n ≤ LIMIT → m ≤ LIMIT → m ≤ none →
    length next ≡ n + m → ((k : ℕ) → k < n + m → get_or next k 0 ≡ k) → length prev ≡ n + m →
    ((k : ℕ) → k < n + m → get_or prev k 0 ≡ k) → owner ≡ replicate n none →
    IsArena n m next prev owner (replicate m [])
started n m none next prev owner nl ml mn nlen nown plen pown o =
    let nothing : (g : ℕ) → g < m → get_or {A = List ℕ} (replicate m []) g [] ≡ [] =
    λ g gm. get_or-replicate m g [] [] gm in
    record {
      few_items = nl;
      few_heads = ml;
      heads = length-replicate m [];
      next_len = nlen;
      prev_len = plen;
      owner_len = rw o (length-replicate n none);
      linked = λ g gm. rw (nothing g gm) (nown (n + g) (omega arith), pown (n + g) (omega arith));
      once = λ g gm. rw (nothing g gm) tt;
      in_range = λ g y gm. rw (nothing g gm) (λ k. absurd (false≢true k));
      owned = λ g y gm. rw (nothing g gm) (λ k. absurd (false≢true k));
      listed = λ y yn. rw o (rw (get_or-replicate n y none 0 yn) (λ lt. absurd (omega arith)));
    }
