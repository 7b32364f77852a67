-- A write at a place of a buffer.
use Rattle.std.proofs.Common.{◌≡◌, ℕ, ◌+◌, ◌-◌, ◌≤◌, List, [], ◌++◌, length, take, drop, refl, arith}
use Rattle.std.proofs.lemmas.List.{take_rest, append-nil, length-drop, drop-drop}
use Rattle.std.proofs.Math.ListN.{drop_of_length-le}
use borrow.Rule.Slice.PartMut.{put_mid, mid_of, post_of}

-- a write at a place is what stood before it, the bytes, and what stands behind them
pub write_is : (at w n : ℕ) (out bytes buf : List ℕ) → length out ≡ n → at ≤ n → buf ≡ bytes ++ drop w (mid_of at (n - at) out) → put_mid at (n - at) out buf ≡ take at out ++ (bytes ++ drop (at + w) out)
write_is at w n out bytes buf long fits e =
    let mid : mid_of at (n - at) out ≡ drop at out = rw (← long) (take_rest out at) in
    let post : post_of at (n - at) out ≡ [] = drop_of_length-le (drop at out) (omega (arith, length-drop at out)) in
    let rest : drop w (drop at out) ≡ drop (at + w) out = drop-drop w at out in
    rw (e, mid, post, append-nil, rest) refl
