-- Who has a bar in one lane more is told.
use Rattle.std.proofs.Common.{◌≡◌, ℕ, suc, ◌+◌, List, ◌++◌, get_or, Option, None, ap, ◌∙◌, arith}
use Rattle.am_draw.specs.{Failing, Holder, LaneKind, failing_name, failing_names, lane_name, lane_names, lane_x}
use Rattle.am_draw.specs.Titles.{name_y}
use Rattle.am_draw.specs.declared.marks.LaneKind.TheVariants.{Narrow}

pub names_next : (kind : LaneKind) (walkers : ℕ) (lanes : List (Option Holder)) (n x : ℕ) → x ≡ lane_x kind walkers n → lane_names kind walkers lanes n ++ lane_name (get_or lanes n None) x ≡ lane_names kind walkers lanes (n + 1)
names_next kind walkers lanes n x at =
    let is : suc n ≡ n + 1 = omega arith in
    ap (λ (m : ℕ). lane_names kind walkers lanes n ++ lane_name (get_or lanes n None) m) at
    ∙ ap (lane_names kind walkers lanes) is

-- and which failure
pub failing_next : (first : ℕ) (lanes : List (Option Failing)) (n x y : ℕ) → x ≡ lane_x Narrow first n → y ≡ name_y n → failing_names first lanes n ++ failing_name (get_or lanes n None) (x + 5) y ≡ failing_names first lanes (n + 1)
failing_next first lanes n x y at high =
    let is : suc n ≡ n + 1 = omega arith in
    ap (λ (m : ℕ). failing_names first lanes n ++ failing_name (get_or lanes n None) (m + 5) y) at
    ∙ ap (λ (m : ℕ). failing_names first lanes n ++ failing_name (get_or lanes n None) (lane_x Narrow first n + 5) m) high
    ∙ ap (failing_names first lanes) is
