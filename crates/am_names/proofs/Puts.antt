-- Bytes written one behind the other.
use Rattle.std.proofs.Common.{◌≡◌, ℕ, ◌+◌, List, ◌++◌, length, take, drop, sym, ap, ◌∙◌, append_assoc}
use Rattle.std.proofs.lemmas.List.{take_at, drop_at, drop-drop}

-- what stands in front, and bytes written behind it
pub put_behind : (at w : ℕ) (front out prev new bytes : List ℕ) → length front ≡ at → prev ≡ front ++ drop at out → new ≡ take at prev ++ (bytes ++ drop (at + w) prev) → new ≡ (front ++ bytes) ++ drop (at + w) out
put_behind at w front out prev new bytes long so_far e =
    let before : take at prev ≡ front = ap (take at) so_far ∙ take_at front (drop at out) at long in
    let rest : drop (at + w) prev ≡ drop (at + w) out = sym (drop-drop w at prev) ∙ ap (λ (xs : List ℕ). drop w (drop at xs)) so_far ∙ ap (drop w) (drop_at front (drop at out) at long) ∙ drop-drop w at out in
    e ∙ rw (before, rest) (sym (append_assoc front bytes (drop (at + w) out)))
