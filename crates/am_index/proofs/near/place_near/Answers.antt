use Rattle.std.proofs.Common.{◌≡◌, ◌≢◌, ◌≤◌, ◌+◌, ◌-◌, ℕ, false, subst, arith}
use Rattle.std.specs.Prelude.{IsTrue}
use Rattle.am_index.specs.Near.{StandsAt}
use Rattle.am_index.proofs.near.place_near.Goals as goal

pub returns-clause-none : goal.returns-clause-none
returns-clause-none g c =
    λ place fits beside stands.
    let here = c.args.here in
    let before = c.saturating_sub-before.result in
    let behind = c.saturating_add-behind.result in
    let not_here : place ≢ here = λ same.
    let yes : IsTrue c.is_at.result = c.is_at.ensures.exact.1 (subst (λ (p : ℕ). StandsAt c.args.values.now c.args.number p) same stands) in
    let no : c.is_at.result ≡ false = c.if-is_at.false in
    cc in
    let not_before : place ≢ before = λ same.
    let yes : IsTrue c.is_at-2.result = c.is_at-2.ensures.exact.1 (subst (λ (p : ℕ). StandsAt c.args.values.now c.args.number p) same stands) in
    let no : c.is_at-2.result ≡ false = c.if-is_at-2.false in
    cc in
    let not_behind : place ≢ behind = λ same.
    let yes : IsTrue c.is_at-3.result = c.is_at-3.ensures.exact.1 (subst (λ (p : ℕ). StandsAt c.args.values.now c.args.number p) same stands) in
    let no : c.is_at-3.result ≡ false = c.if-is_at-3.false in
    cc in
    let low : place ≤ here + 1 = beside.before in
    let high : here ≤ place + 1 = beside.behind in
    let is_before : before ≡ here - 1 = c.saturating_sub-before.ensures in
    omega (arith, not_here, not_before, not_behind, low, high, is_before, c.saturating_add-behind.ensures)
