use Rattle.std.proofs.Common.{◌≡◌, List, ℕ, cond, Option, Some, None, option_copied, refl, sym, ap, subst, ◌∙◌}
use Rattle.std.specs.Prelude.{is_some}
use Rattle.std.specs.Option.{option_map}
use Rattle.am_names.specs.declared.errno.Errno.TheVariants.{EINVAL}
use Rattle.am_names.specs.{OpenToken}
use Rattle.am_wait.specs.{HeldToken, WaitRows, token_of, answered, held_of, token_in}
use Rattle.am_wait.specs.declared.waits.Waits.TheInside.{Inside}
use Rattle.am_wait.proofs.SeatLemmas.{SetsAll}
use Rattle.am_wait.proofs.KeptLemmas.{token_found, answered_is, answered_kept}
use Rattle.am_wait.proofs.ViewLemmas.{tokens_rise}
use Rattle.am_wait.proofs.waits.Waits.answer.Goals as goal

pub held_of-requires : goal.held_of-requires
held_of-requires c = record { rising = rw c.rows.ensures (tokens_rise c.self.inside c.self.invariant) }

pub take_token-requires : goal.take_token-requires
take_token-requires c = record { rising = tokens_rise c.self.inside c.self.invariant }

pub returns-in_default-clause-refusal : goal.returns-in_default-clause-refusal
returns-in_default-clause-refusal c =
    let i = c.self.inside in
    let none : held_of i.tokens.items c.args.token ≡ None = ap (λ (tokens : List HeldToken). held_of tokens c.args.token) (sym c.rows.ensures) ∙ sym c.held_of.ensures ∙ ap (λ o. option_copied o) c.in_default.is in
    let closed : token_of c.args.self.now.tokens c.args.token ≡ None = ap (λ (x : WaitRows). token_of x.tokens c.args.token) (sym c.self.view_is) ∙ token_found i.slab i.tokens.items c.args.token ∙ ap (option_map (token_in i.slab)) none in
    ap (λ (o : Option OpenToken). cond (is_some o) None (Some EINVAL)) closed

pub returns-clause-refusal : goal.returns-clause-refusal
returns-clause-refusal c =
    let i = c.self.inside in
    let its = c.in-Some.row.now in
    let there : held_of i.tokens.items c.args.token ≡ Some its = ap (λ (tokens : List HeldToken). held_of tokens c.args.token) (sym c.rows.ensures) ∙ sym c.held_of.ensures ∙ ap (λ o. option_copied o) c.in-Some.is in
    let is_open : token_of c.args.self.now.tokens c.args.token ≡ Some (token_in i.slab its) = ap (λ (x : WaitRows). token_of x.tokens c.args.token) (sym c.self.view_is) ∙ token_found i.slab i.tokens.items c.args.token ∙ ap (option_map (token_in i.slab)) there in
    ap (λ (o : Option OpenToken). cond (is_some o) None (Some EINVAL)) is_open

pub invariant_of-self : goal.invariant_of-self
invariant_of-self c =
    let i = c.self.inside in
    let its = c.in-Some.row.now in
    let there : held_of i.tokens.items c.args.token ≡ Some its = ap (λ (tokens : List HeldToken). held_of tokens c.args.token) (sym c.rows.ensures) ∙ sym c.held_of.ensures ∙ ap (λ o. option_copied o) c.in-Some.is in
    let sets : SetsAll i.slab c.set_statuses.new.slab c.args.status its.keys = subst (λ (keys : List ℕ). SetsAll i.slab c.set_statuses.new.slab c.args.status keys) c.as_slice.ensures c.set_statuses.ensures in
    answered_kept i _ c.args.token c.args.status its c.self.invariant (record { there = there; tokens = c.take_token.ensures; seats = refl; slab = sets; last = refl; waiters = refl; numbers = refl })

pub returns-clause-ok : goal.returns-clause-ok
returns-clause-ok c =
    let i = c.self.inside in
    let its = c.in-Some.row.now in
    let there : held_of i.tokens.items c.args.token ≡ Some its = ap (λ (tokens : List HeldToken). held_of tokens c.args.token) (sym c.rows.ensures) ∙ sym c.held_of.ensures ∙ ap (λ o. option_copied o) c.in-Some.is in
    let sets : SetsAll i.slab c.set_statuses.new.slab c.args.status its.keys = subst (λ (keys : List ℕ). SetsAll i.slab c.set_statuses.new.slab c.args.status keys) c.as_slice.ensures c.set_statuses.ensures in
    let j : Inside = record { tokens = c.take_token.new.self; seats = i.seats; slab = c.set_statuses.new.slab; last_token = i.last_token; most_waits = i.most_waits; most_tokens = i.most_tokens } in
    answered_is i j c.args.token c.args.status its c.self.invariant (record { there = there; tokens = c.take_token.ensures; seats = refl; slab = sets; last = refl; waiters = refl; numbers = refl }) ∙ ap (λ (x : WaitRows). answered c.args.token c.args.status x) c.self.view_is
