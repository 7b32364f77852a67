use Rattle.std.proofs.Common.{◌≡◌, List, true, false, Some, None, option_copied, refl, sym, ap, ◌∙◌}
use Rattle.am_names.specs.{WaitRow}
use Rattle.am_wait.specs.{HeldToken, WaitRows, wait_of, token_of, is_full, waiting_on, still_waits, collected, rejoined, next_key, held_of, token_in}
use Rattle.am_wait.specs.declared.waits.Waits.TheInside.{Inside}
use Rattle.am_wait.specs.View.{rows_of}
use Rattle.am_wait.proofs.SameLemmas.{same_slots, same_kept}
use Rattle.am_wait.proofs.RenewLemmas.{Renews, rejoins}
use Rattle.am_wait.proofs.ViewLemmas.{tokens_rise, held_of_is}
use Rattle.am_wait.proofs.waits.Waits.rejoin.Goals as goal

pub held_of-requires : goal.held_of-requires
held_of-requires c = record { rising = rw c.rows.ensures (tokens_rise c.self.inside c.self.invariant) }

pub add_key-requires : goal.add_key-requires
add_key-requires c = record { rising = tokens_rise c.self.inside c.self.invariant }

pub returns-in_default-clause-refusal : goal.returns-in_default-clause-refusal
returns-in_default-clause-refusal c =
    let i = c.self.inside in
    let none : held_of i.tokens.items c.args.token ≡ None = ap (λ (tokens : List HeldToken). held_of tokens c.args.token) (sym c.rows.ensures) ∙ sym c.held_of.ensures ∙ ap (λ o. option_copied o) c.in_default.is in
    let closed : token_of c.args.self.now.tokens c.args.token ≡ None = ap (λ (x : WaitRows). token_of x.tokens c.args.token) (sym c.self.view_is) ∙ held_of_is i c.args.token None none in
    let free : still_waits (wait_of c.args.self.now.waits c.args.walker) ≡ false = sym c.still_waits.ensures ∙ c.if-still_waits.false in
    rw (free, closed) refl

pub returns-then-is_full_for-clause-refusal : goal.returns-then-is_full_for-clause-refusal
returns-then-is_full_for-clause-refusal c =
    let i = c.self.inside in
    let its = c.in-Some.row.now in
    let there : held_of i.tokens.items c.args.token ≡ Some its = ap (λ (tokens : List HeldToken). held_of tokens c.args.token) (sym c.rows.ensures) ∙ sym c.held_of.ensures ∙ ap (λ o. option_copied o) c.in-Some.is in
    let is_open : token_of c.args.self.now.tokens c.args.token ≡ Some (token_in i.slab its) = ap (λ (x : WaitRows). token_of x.tokens c.args.token) (sym c.self.view_is) ∙ held_of_is i c.args.token (Some its) there in
    let free : still_waits (wait_of c.args.self.now.waits c.args.walker) ≡ false = sym c.still_waits.ensures ∙ c.if-still_waits.false in
    let full : is_full (collected c.args.walker c.args.self.now) ≡ true = sym c.is_full_for.ensures ∙ c.if-is_full_for.true in
    rw (free, is_open, full) refl

pub returns-clause-refusal : goal.returns-clause-refusal
returns-clause-refusal c =
    let i = c.self.inside in
    let its = c.in-Some.row.now in
    let there : held_of i.tokens.items c.args.token ≡ Some its = ap (λ (tokens : List HeldToken). held_of tokens c.args.token) (sym c.rows.ensures) ∙ sym c.held_of.ensures ∙ ap (λ o. option_copied o) c.in-Some.is in
    let is_open : token_of c.args.self.now.tokens c.args.token ≡ Some (token_in i.slab its) = ap (λ (x : WaitRows). token_of x.tokens c.args.token) (sym c.self.view_is) ∙ held_of_is i c.args.token (Some its) there in
    let free : still_waits (wait_of c.args.self.now.waits c.args.walker) ≡ false = sym c.still_waits.ensures ∙ c.if-still_waits.false in
    let room : is_full (collected c.args.walker c.args.self.now) ≡ false = sym c.is_full_for.ensures ∙ c.if-is_full_for.false in
    rw (free, is_open, room) refl

pub invariant_of-self : goal.invariant_of-self
invariant_of-self c =
    let i = c.self.inside in
    let j : Inside = record { tokens = i.tokens; seats = c.make_room.new.seats; slab = c.make_room.new.slab; last_token = i.last_token; most_waits = i.most_waits; most_tokens = i.most_tokens } in
    same_kept i j c.self.invariant (record { tokens = refl; seats = c.make_room.ensures.seats; slab = same_slots i.slab c.make_room.new.slab c.make_room.ensures.slots; last = refl; waiters = refl; numbers = refl })

pub invariant_of-self-in_err-add_key : goal.invariant_of-self-in_err-add_key
invariant_of-self-in_err-add_key c =
    let i = c.self.inside in
    let j : Inside = record { tokens = c.add_key.new.self; seats = c.make_room.new.seats; slab = c.make_room.new.slab; last_token = i.last_token; most_waits = i.most_waits; most_tokens = i.most_tokens } in
    same_kept i j c.self.invariant (record { tokens = c.in_err-add_key.ensures.err; seats = c.make_room.ensures.seats; slab = same_slots i.slab c.make_room.new.slab c.make_room.ensures.slots; last = refl; waiters = refl; numbers = refl })

pub invariant_of-self-2 : goal.invariant_of-self-2
invariant_of-self-2 c =
    let i = c.self.inside in
    let j : Inside = record { tokens = i.tokens; seats = c.take_wait.new.seats; slab = c.take_wait.new.slab; last_token = i.last_token; most_waits = i.most_waits; most_tokens = i.most_tokens } in
    let k : Inside = record { tokens = c.add_key.new.self; seats = c.put_wait.new.seats; slab = c.put_wait.new.slab; last_token = i.last_token; most_waits = i.most_waits; most_tokens = i.most_tokens } in
    let wait = c.waiting_on-wait.result in
    let key = c.next_key-key.result in
    let its = c.in-Some.row.now in
    let there : held_of i.tokens.items c.args.token ≡ Some its = ap (λ (tokens : List HeldToken). held_of tokens c.args.token) (sym c.rows.ensures) ∙ sym c.held_of.ensures ∙ ap (λ o. option_copied o) c.in-Some.is in
    let is : wait ≡ waiting_on c.args.token its.trigger its.kind c.args.walker = c.waiting_on-wait.ensures in
    let free : still_waits (wait_of (rows_of i).waits c.args.walker) ≡ false = ap (λ (x : WaitRows). still_waits (wait_of x.waits c.args.walker)) c.self.view_is ∙ sym c.still_waits.ensures ∙ c.if-still_waits.false in
    let first : key ≡ next_key i.seats.rows i.slab c.args.walker = c.next_key-key.ensures in
    let renews : Renews i j k c.make_room.new.seats.rows c.make_room.new.slab c.args.walker key wait = record {
      whose = ap (λ (w : WaitRow). w.walker) is;
      first = first;
      rows = c.make_room.ensures.seats;
      slots = c.make_room.ensures.slots;
      vacated = c.make_room.ensures.next;
      taken = c.take_wait.ensures.seats;
      freed = c.take_wait.ensures.freed;
      next = c.take_wait.ensures.next;
      seats = c.put_wait.ensures.seats;
      vacant = c.put_wait.ensures.vacant;
      put = c.put_wait.ensures.put;
      tokens = refl;
      last = refl;
      waiters_taken = refl;
      numbers_taken = refl;
      waiters_put = refl;
      numbers_put = refl;
    } in
    (rejoins i j k c.make_room.new.seats.rows c.make_room.new.slab c.args.walker key wait c.self.invariant free renews c.args.token its there is c.in_ok-add_key.ensures.ok refl).1

pub returns-clause-ok : goal.returns-clause-ok
returns-clause-ok c =
    let i = c.self.inside in
    let j : Inside = record { tokens = i.tokens; seats = c.take_wait.new.seats; slab = c.take_wait.new.slab; last_token = i.last_token; most_waits = i.most_waits; most_tokens = i.most_tokens } in
    let k : Inside = record { tokens = c.add_key.new.self; seats = c.put_wait.new.seats; slab = c.put_wait.new.slab; last_token = i.last_token; most_waits = i.most_waits; most_tokens = i.most_tokens } in
    let wait = c.waiting_on-wait.result in
    let key = c.next_key-key.result in
    let its = c.in-Some.row.now in
    let there : held_of i.tokens.items c.args.token ≡ Some its = ap (λ (tokens : List HeldToken). held_of tokens c.args.token) (sym c.rows.ensures) ∙ sym c.held_of.ensures ∙ ap (λ o. option_copied o) c.in-Some.is in
    let is : wait ≡ waiting_on c.args.token its.trigger its.kind c.args.walker = c.waiting_on-wait.ensures in
    let free : still_waits (wait_of (rows_of i).waits c.args.walker) ≡ false = ap (λ (x : WaitRows). still_waits (wait_of x.waits c.args.walker)) c.self.view_is ∙ sym c.still_waits.ensures ∙ c.if-still_waits.false in
    let first : key ≡ next_key i.seats.rows i.slab c.args.walker = c.next_key-key.ensures in
    let renews : Renews i j k c.make_room.new.seats.rows c.make_room.new.slab c.args.walker key wait = record {
      whose = ap (λ (w : WaitRow). w.walker) is;
      first = first;
      rows = c.make_room.ensures.seats;
      slots = c.make_room.ensures.slots;
      vacated = c.make_room.ensures.next;
      taken = c.take_wait.ensures.seats;
      freed = c.take_wait.ensures.freed;
      next = c.take_wait.ensures.next;
      seats = c.put_wait.ensures.seats;
      vacant = c.put_wait.ensures.vacant;
      put = c.put_wait.ensures.put;
      tokens = refl;
      last = refl;
      waiters_taken = refl;
      numbers_taken = refl;
      waiters_put = refl;
      numbers_put = refl;
    } in
    (rejoins i j k c.make_room.new.seats.rows c.make_room.new.slab c.args.walker key wait c.self.invariant free renews c.args.token its there is c.in_ok-add_key.ensures.ok refl).0 ∙ ap (rejoined c.args.token c.args.walker) c.self.view_is
