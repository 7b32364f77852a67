use Rattle.std.proofs.Common.{◌≡◌, ◌+◌, ◌∷◌, ◌++◌, [], false, refl, sym, ap, ◌∙◌}
use Rattle.am_names.specs.{WaitRow}
use Rattle.am_wait.specs.declared.waits.Waits.TheInside.{Inside}
use Rattle.am_wait.specs.{WaitRows, wait_of, waiting_on, still_waits, reopened, next_key, held_row}
use Rattle.am_wait.specs.View.{rows_of}
use Rattle.am_wait.proofs.CallLemmas.{free_walker}
use Rattle.am_wait.proofs.SameLemmas.{same_slots, same_kept}
use Rattle.am_wait.proofs.RenewLemmas.{Renews, reopens}
use Rattle.am_wait.proofs.waits.Waits.reopen.Goals as goal

pub invariant_of-self : goal.invariant_of-self
invariant_of-self c =
    let i = c.self.inside in
    let j : Inside = record { tokens = i.tokens; seats = c.make_room.new.seats; slab = c.make_room.new.slab; last_token = i.last_token; most_waits = i.most_waits; most_tokens = i.most_tokens } in
    same_kept i j c.self.invariant (record { tokens = refl; seats = c.make_room.ensures.seats; slab = same_slots i.slab c.make_room.new.slab c.make_room.ensures.slots; last = refl; waiters = refl; numbers = refl })

pub invariant_of-self-in_err-open_token : goal.invariant_of-self-in_err-open_token
invariant_of-self-in_err-open_token c =
    let i = c.self.inside in
    let j : Inside = record { tokens = c.open_token.new.self; seats = c.make_room.new.seats; slab = c.make_room.new.slab; last_token = i.last_token; most_waits = i.most_waits; most_tokens = i.most_tokens } in
    same_kept i j c.self.invariant (record { tokens = c.in_err-open_token.ensures.err; seats = c.make_room.ensures.seats; slab = same_slots i.slab c.make_room.new.slab c.make_room.ensures.slots; last = refl; waiters = refl; numbers = refl })

pub invariant_of-self-2 : goal.invariant_of-self-2
invariant_of-self-2 c =
    let i = c.self.inside in
    let j : Inside = record { tokens = i.tokens; seats = c.take_wait.new.seats; slab = c.take_wait.new.slab; last_token = i.last_token; most_waits = i.most_waits; most_tokens = i.most_tokens } in
    let k : Inside = record { tokens = c.open_token.new.self; seats = c.put_wait.new.seats; slab = c.put_wait.new.slab; last_token = i.last_token + 1; most_waits = i.most_waits; most_tokens = i.most_tokens } in
    let wait = c.waiting_on-wait.result in
    let key = c.next_key-key.result in
    let is : wait ≡ waiting_on (i.last_token + 1) c.args.trigger c.args.kind c.args.walker = c.waiting_on-wait.ensures in
    let free : still_waits (wait_of (rows_of i).waits c.args.walker) ≡ false = ap (λ (x : WaitRows). still_waits (wait_of x.waits c.args.walker)) c.self.view_is ∙ free_walker c.args.walker c.args.self.now (sym c.reopen_refusal.ensures ∙ c.in_default.is) in
    let first : key ≡ next_key i.seats.rows i.slab c.args.walker = c.next_key-key.ensures in
    let renews : Renews i j k c.make_room.new.seats.rows c.make_room.new.slab c.args.walker key wait = record {
      whose = ap (λ (w : WaitRow). w.walker) is;
      first = first;
      rows = c.make_room.ensures.seats;
      slots = c.make_room.ensures.slots;
      vacated = c.make_room.ensures.next;
      taken = c.take_wait.ensures.seats;
      freed = c.take_wait.ensures.freed;
      next = c.take_wait.ensures.next;
      seats = c.put_wait.ensures.seats;
      vacant = c.put_wait.ensures.vacant;
      put = c.put_wait.ensures.put;
      tokens = refl;
      last = refl;
      waiters_taken = refl;
      numbers_taken = refl;
      waiters_put = refl;
      numbers_put = refl;
    } in
    let tokens : c.open_token.new.self.items ≡ i.tokens.items ++ held_row (i.last_token + 1) c.args.trigger c.args.kind key ∷ [] = c.in_ok-open_token.ensures.ok ∙ ap (λ (w : WaitRow). i.tokens.items ++ held_row w.token w.trigger w.kind key ∷ []) is in
    (reopens i j k c.make_room.new.seats.rows c.make_room.new.slab c.args.walker key wait c.self.invariant free renews c.args.trigger c.args.kind (i.last_token + 1) refl is tokens refl).1

pub returns-clause-ok : goal.returns-clause-ok
returns-clause-ok c =
    let i = c.self.inside in
    let j : Inside = record { tokens = i.tokens; seats = c.take_wait.new.seats; slab = c.take_wait.new.slab; last_token = i.last_token; most_waits = i.most_waits; most_tokens = i.most_tokens } in
    let k : Inside = record { tokens = c.open_token.new.self; seats = c.put_wait.new.seats; slab = c.put_wait.new.slab; last_token = i.last_token + 1; most_waits = i.most_waits; most_tokens = i.most_tokens } in
    let wait = c.waiting_on-wait.result in
    let key = c.next_key-key.result in
    let is : wait ≡ waiting_on (i.last_token + 1) c.args.trigger c.args.kind c.args.walker = c.waiting_on-wait.ensures in
    let free : still_waits (wait_of (rows_of i).waits c.args.walker) ≡ false = ap (λ (x : WaitRows). still_waits (wait_of x.waits c.args.walker)) c.self.view_is ∙ free_walker c.args.walker c.args.self.now (sym c.reopen_refusal.ensures ∙ c.in_default.is) in
    let first : key ≡ next_key i.seats.rows i.slab c.args.walker = c.next_key-key.ensures in
    let renews : Renews i j k c.make_room.new.seats.rows c.make_room.new.slab c.args.walker key wait = record {
      whose = ap (λ (w : WaitRow). w.walker) is;
      first = first;
      rows = c.make_room.ensures.seats;
      slots = c.make_room.ensures.slots;
      vacated = c.make_room.ensures.next;
      taken = c.take_wait.ensures.seats;
      freed = c.take_wait.ensures.freed;
      next = c.take_wait.ensures.next;
      seats = c.put_wait.ensures.seats;
      vacant = c.put_wait.ensures.vacant;
      put = c.put_wait.ensures.put;
      tokens = refl;
      last = refl;
      waiters_taken = refl;
      numbers_taken = refl;
      waiters_put = refl;
      numbers_put = refl;
    } in
    let tokens : c.open_token.new.self.items ≡ i.tokens.items ++ held_row (i.last_token + 1) c.args.trigger c.args.kind key ∷ [] = c.in_ok-open_token.ensures.ok ∙ ap (λ (w : WaitRow). i.tokens.items ++ held_row w.token w.trigger w.kind key ∷ []) is in
    (reopens i j k c.make_room.new.seats.rows c.make_room.new.slab c.args.walker key wait c.self.invariant free renews c.args.trigger c.args.kind (i.last_token + 1) refl is tokens refl).0 ∙ ap (reopened c.args.trigger c.args.kind c.args.walker) c.self.view_is
