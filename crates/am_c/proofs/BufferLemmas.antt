-- What is put at the front of a buffer that has room for it.
use Rattle.std.proofs.Common.{◌≡◌, ◌≤◌, ℕ, List, ◌++◌, length, take, drop, ap, ◌∙◌}
use Rattle.std.proofs.lemmas.List.{take_all}
use Rattle.std.proofs.Math.Seq.{take-append_seam}
use Rattle.am_c.specs.Buffer.{with_front}

-- all of it stands there
pub front_whole : (bytes buffer : List ℕ) → length bytes ≤ length buffer → take (length bytes) (with_front bytes buffer) ≡ bytes
front_whole bytes buffer fits =
    ap (λ (front : List ℕ). take (length bytes) (front ++ drop (length bytes) buffer)) (take_all (length buffer) bytes fits)
    ∙ take-append_seam bytes (drop (length bytes) buffer)
