-- What reading broke off is played up to its last whole line.
use Rattle.std.proofs.Common.{◌≡◌, ◌-◌, ℕ, List, length, take, Some, ap, ◌∙◌}
use Rattle.am_script.specs.{ScriptFaultKind, lines_of, cut_line, cut_kind, played, script_from, script_of}

pub cut_script : (text slice cut whole : List ℕ) (kind told : ScriptFaultKind) → slice ≡ text → cut ≡ cut_line slice → told ≡ cut_kind cut kind → whole ≡ take (length slice - length cut) slice → script_from (Some told) (lines_of whole) ≡ script_of (Some kind) text
cut_script text slice cut whole kind told e f g h =
    ap (λ (k : ScriptFaultKind). script_from (Some k) (lines_of whole)) g ∙ ap (λ (w : List ℕ). script_from (Some (cut_kind cut kind)) (lines_of w)) h ∙ ap (λ (c : List ℕ). script_from (Some (cut_kind c kind)) (lines_of (take (length slice - length c) slice))) f ∙ ap (λ (s : List ℕ). script_of (Some kind) s) e

pub cut_text : (text slice cut whole : List ℕ) (kind : ScriptFaultKind) → slice ≡ text → cut ≡ cut_line slice → whole ≡ take (length slice - length cut) slice → whole ≡ played (Some kind) text
cut_text text slice cut whole kind e f h =
    h ∙ ap (λ (c : List ℕ). take (length slice - length c) slice) f ∙ ap (λ (s : List ℕ). take (length s - length (cut_line s)) s) e
