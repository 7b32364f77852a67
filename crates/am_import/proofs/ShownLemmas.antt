-- Where what lines show stands first.
use Rattle.std.proofs.Common.{◌≡◌, ◌<◌, ℕ, suc, ◌+◌, cond, List, Option, Some, bytes_eq, sym, ap, ◌∙◌, subst, drop, length}
use Rattle.std.proofs.Math.ListN.{get_or}
use Rattle.std.proofs.Math.Seq.{drop-cons}
use Rattle.std.specs.List.{position_from}
use Rattle.std.specs.Map.{update}
use Rattle.am_import.specs.declared.likeness.Row.{Row}

-- where a line shows this text first
abbrev pub from : List ℕ → ℕ → List Row → Option ℕ
from shown place lines = position_from (λ (line : Row). bytes_eq line.line.shown.items shown) place lines

-- the line at a place before those behind it
pub shown_before : (places : List ℕ → Option ℕ) (lines : List Row) (place next : ℕ) (d : Row) (text : List ℕ) → next ≡ suc place → next ≡ place + 1 → place < length lines → text ≡ (get_or lines place d).line.shown.items → ((shown : List ℕ) → places shown ≡ from shown next (drop next lines)) → (shown : List ℕ) → update bytes_eq places text (Some place) shown ≡ from shown place (drop place lines)
shown_before places lines place next d text after more within e kept shown =
    let line : Row = get_or lines place d in
    let here : update bytes_eq places text (Some place) shown ≡ cond (bytes_eq line.line.shown.items shown) (Some place) (places shown) = ap (λ (t : List ℕ). cond (bytes_eq t shown) (Some place) (places shown)) e in
    let behind : places shown ≡ from shown (place + 1) (drop (suc place) lines) = subst (λ (n : ℕ). places shown ≡ from shown n (drop (suc place) lines)) more (subst (λ (n : ℕ). places shown ≡ from shown next (drop n lines)) after (kept shown)) in
    here ∙ ap (λ (o : Option ℕ). cond (bytes_eq line.line.shown.items shown) (Some place) o) behind ∙ ap (λ (ls : List Row). from shown place ls) (sym (drop-cons lines place d within))
