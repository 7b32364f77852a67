-- Rows that stand for the same, and a walker whose wait was released or that has none.
use Rattle.std.proofs.Common.{◌≡◌, ℕ, false, cond, ◌==◌, List, get_or, Option, Some, None, refl, sym, ap, subst, ◌∙◌}
use Rattle.std.specs.Prelude.{All, is_none}
use Rattle.std.specs.Option.{option_map}
use Rattle.std.proofs.lemmas.List.Elements.{All-weaker}
use Rattle.slab.specs.Slab.{Slab, get}
use Rattle.am_names.specs.{WaitRow, Status, RiseBy}
use Rattle.am_names.proofs.Basics.{none_where_mapped_none}
use Rattle.am_wait.specs.{Seat, HeldToken, WaitRows, wait_of, collected, still_waits, IsSound, seat_of, key_of, row_at, row_in, waits_in, without_seat, frees, IsSeat, token_in, tokens_in, HasKeys}
use Rattle.am_wait.specs.declared.waits.Waits.TheInside.{Inside}
use Rattle.am_wait.specs.View.{rows_of, IsSettled, IsKept}
use Rattle.am_wait.proofs.CallLemmas.{all_kept, idle_collected}
use Rattle.am_wait.proofs.KeptLemmas.{map_same, wait_found}
use Rattle.am_wait.proofs.FreedLemmas.{Frees, collected_is, collected_kept}

module _ (old new : Slab WaitRow) (same : (k : ℕ) → get new k ≡ get old k) where
  row_same : (k : ℕ) → row_at new k ≡ row_at old k
  row_same k = ap row_in (same k)

  token_same : (row : HeldToken) → token_in new row ≡ token_in old row
  token_same row =
      ap (λ (walkers : List ℕ). record { token = row.token; trigger = row.trigger; kind = row.kind; waiters = walkers })
      (map_same (λ k. (row_at new k).walker) (λ k. (row_at old k).walker) row.keys (λ n d less. ap (λ (r : WaitRow). r.walker) (row_same (get_or row.keys n d))))

  pub tokens_same : (tokens : List HeldToken) → tokens_in new tokens ≡ tokens_in old tokens
  tokens_same tokens = map_same (token_in new) (token_in old) tokens (λ n d less. token_same (get_or tokens n d))

  pub waits_same : (seats : List Seat) → waits_in new seats ≡ waits_in old seats
  waits_same seats = map_same (λ (s : Seat). row_at new s.key) (λ (s : Seat). row_at old s.key) seats (λ n d less. row_same (get_or seats n d).key)

  pub seat_same : (seat : Seat) → IsSeat old seat → IsSeat new seat
  seat_same seat h = (h.0, same seat.key ∙ h.1, h.2)

  pub keys_same : (seats : List Seat) (row : HeldToken) → HasKeys old seats row → HasKeys new seats row
  keys_same seats row h = All-weaker (λ key. key_of seats (row_at old key).walker ≡ Some key) (λ key. key_of seats (row_at new key).walker ≡ Some key) (λ key e. ap (λ (r : WaitRow). key_of seats r.walker) (row_same key) ∙ e) row.keys h

pub same_slots : (old new : Slab WaitRow) → new.slots ≡ old.slots → (k : ℕ) → get new k ≡ get old k
same_slots old new h k = rw h refl

pub record Same (i j : Inside) : Type 0 where
  pub tokens : j.tokens.items ≡ i.tokens.items
  pub seats : j.seats.rows ≡ i.seats.rows
  pub slab : (k : ℕ) → get j.slab k ≡ get i.slab k
  pub last : j.last_token ≡ i.last_token
  pub waiters : j.most_waits ≡ i.most_waits
  pub numbers : j.most_tokens ≡ i.most_tokens

pub same_rows : (i j : Inside) → Same i j → rows_of j ≡ rows_of i
same_rows i j h =
    let tokens : tokens_in j.slab j.tokens.items ≡ tokens_in i.slab i.tokens.items = ap (tokens_in j.slab) h.tokens ∙ tokens_same i.slab j.slab h.slab i.tokens.items in
    let waits : waits_in j.slab j.seats.rows ≡ waits_in i.slab i.seats.rows = ap (waits_in j.slab) h.seats ∙ waits_same i.slab j.slab h.slab i.seats.rows in
    rw (tokens, waits, h.last, h.waiters, h.numbers) refl

pub same_kept : (i j : Inside) → IsKept i → Same i j → IsKept j
same_kept i j kept h =
    let is : rows_of i ≡ rows_of j = sym (same_rows i j h) in
    record {
      sound = subst (λ (w : WaitRows). IsSound w) is kept.sound;
      settled = subst (λ (w : WaitRows). All (IsSettled w) w.waits) is kept.settled;
      linked = record {
        rising = subst (λ (seats : List Seat). RiseBy (λ s. s.walker) 0 seats) (sym h.seats) kept.linked.rising;
        seated = subst (λ (seats : List Seat). All (IsSeat j.slab) seats) (sym h.seats) (All-weaker (IsSeat i.slab) (IsSeat j.slab) (seat_same i.slab j.slab h.slab) i.seats.rows kept.linked.seated);
        held = subst (λ (seats : List Seat). All (HasKeys j.slab seats) j.tokens.items) (sym h.seats) (subst (λ (tokens : List HeldToken). All (HasKeys j.slab i.seats.rows) tokens) (sym h.tokens)
            (All-weaker (HasKeys i.slab i.seats.rows) (HasKeys j.slab i.seats.rows) (keys_same i.slab j.slab h.slab i.seats.rows) i.tokens.items kept.linked.held));
      };
    }

-- ---- the wait of a walker that waits no longer is taken away, if it has one

pub record Freed (i j : Inside) (walker : ℕ) : Type 0 where
  pub seats : j.seats.rows ≡ without_seat walker i.seats.rows
  pub freed : (k : ℕ) → get j.slab k ≡ cond (frees (key_of i.seats.rows walker) k) None (get i.slab k)
  pub tokens : j.tokens.items ≡ i.tokens.items
  pub last : j.last_token ≡ i.last_token
  pub waiters : j.most_waits ≡ i.most_waits
  pub numbers : j.most_tokens ≡ i.most_tokens

-- a walker that has no wait has no seat
pub no_seat : (i : Inside) (walker : ℕ) → IsKept i → wait_of (rows_of i).waits walker ≡ None → seat_of i.seats.rows walker ≡ None
no_seat i walker kept h = none_where_mapped_none (λ (s : Seat). row_at i.slab s.key) (seat_of i.seats.rows walker) (sym (wait_found i.slab i.seats.rows walker kept.linked.seated) ∙ h)

module _ (i j : Inside) (walker : ℕ) (kept : IsKept i) (h : Freed i j walker) where
  freed_row : (row : WaitRow) (o : Option Status) → wait_of (rows_of i).waits walker ≡ Some row → row.status ≡ o → is_none o ≡ false → (rows_of j ≡ collected walker (rows_of i)) × IsKept j
  freed_row row None there e free = absurd cc
  freed_row row (Some status) there e free =
      let is : Frees i j walker row status = record { there = there; released = e; seats = h.seats; freed = h.freed; tokens = h.tokens; last = h.last; waiters = h.waiters; numbers = h.numbers } in
      (collected_is i j walker row status kept is, collected_kept i j walker row status kept is)

  collected_or_same : (o : Option WaitRow) → wait_of (rows_of i).waits walker ≡ o → still_waits o ≡ false → (rows_of j ≡ collected walker (rows_of i)) × IsKept j
  collected_or_same None there free =
      let none = no_seat i walker kept there in
      let is : Same i j = record {
        tokens = h.tokens;
        seats = h.seats ∙ all_kept (λ (s : Seat). s.walker == walker) i.seats.rows none;
        slab = λ k. h.freed k ∙ ap (λ (o : Option Seat). cond (frees (option_map (λ (s : Seat). s.key) o) k) None (get i.slab k)) none;
        last = h.last;
        waiters = h.waiters;
        numbers = h.numbers;
      } in
      (same_rows i j is ∙ sym (idle_collected walker (rows_of i) there), same_kept i j kept is)
  collected_or_same (Some row) there free = freed_row row row.status there refl free

  pub freed_all : still_waits (wait_of (rows_of i).waits walker) ≡ false → (rows_of j ≡ collected walker (rows_of i)) × IsKept j
  freed_all free = collected_or_same (wait_of (rows_of i).waits walker) refl free
