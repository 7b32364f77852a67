use Rattle.std.proofs.Common.{◌≡◌, [], List, ℕ, Some, None, option_copied, sym, ap, subst, ◌∙◌}
use Rattle.std.specs.Prelude.{All, IsSome, IfOk}
use Rattle.slab.specs.Slab.{get}
use Rattle.am_wait.specs.{HeldToken, WaitRows, waiters_of, waiters_in, walkers_at, held_of}
use Rattle.am_wait.proofs.ViewLemmas.{tokens_rise, its_waits, held_of_is}
use Rattle.am_wait.proofs.waits.Waits.waiters_of.Goals as goal

pub held_of-requires : goal.held_of-requires
held_of-requires c = record { rising = rw c.rows.ensures (tokens_rise c.self.inside c.self.invariant) }

pub walkers_at-requires : goal.walkers_at-requires
walkers_at-requires c =
    let i = c.self.inside in
    let its = c.in-Some.row.now in
    let there : held_of i.tokens.items c.args.token ≡ Some its = ap (λ (tokens : List HeldToken). held_of tokens c.args.token) (sym c.rows.ensures) ∙ sym c.held_of.ensures ∙ ap (λ o. option_copied o) c.in-Some.is in
    subst (λ (keys : List ℕ). All (λ key. IsSome (get i.slab key)) keys) (sym c.as_slice.ensures) (its_waits i c.self.invariant c.args.token its there)

pub returns-in-Some : goal.returns-in-Some
returns-in-Some c =
    let i = c.self.inside in
    let its = c.in-Some.row.now in
    let there : held_of i.tokens.items c.args.token ≡ Some its = ap (λ (tokens : List HeldToken). held_of tokens c.args.token) (sym c.rows.ensures) ∙ sym c.held_of.ensures ∙ ap (λ o. option_copied o) c.in-Some.is in
    let same : walkers_at i.slab c.as_slice.result.now ≡ waiters_of c.args.self.now.tokens c.args.token =
    ap (walkers_at i.slab) c.as_slice.ensures ∙ sym (ap waiters_in (held_of_is i c.args.token (Some its) there)) ∙ ap (λ (x : WaitRows). waiters_of x.tokens c.args.token) c.self.view_is in
    subst (λ (walkers : List ℕ). IfOk c.walkers_at.result (λ v. v.items ≡ walkers)) same c.walkers_at.ensures

pub returns-in-None : goal.returns-in-None
returns-in-None c =
    let i = c.self.inside in
    let none : held_of i.tokens.items c.args.token ≡ None = ap (λ (tokens : List HeldToken). held_of tokens c.args.token) (sym c.rows.ensures) ∙ sym c.held_of.ensures ∙ ap (λ o. option_copied o) c.in-None.is in
    let same : waiters_of c.args.self.now.tokens c.args.token ≡ [] = ap (λ (x : WaitRows). waiters_of x.tokens c.args.token) (sym c.self.view_is) ∙ ap waiters_in (held_of_is i c.args.token None none) in
    c.new.ensures.items ∙ sym same
