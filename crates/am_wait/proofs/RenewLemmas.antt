-- A walker begins to wait: what stands afterwards.
use Rattle.std.proofs.Common.{◌≡◌, ℕ, ◌+◌, false, cond, not, ◌==◌, List, [], ◌∷◌, ◌++◌, Option, Some, None, refl, sym, ap, subst, ◌∙◌, arith}
use Rattle.std.specs.Prelude.{All}
use Rattle.std.specs.Option.{option_map}
use Rattle.std.proofs.lemmas.List.Elements.{All-nil, All-cons, All-append, All-weaker}
use Rattle.slab.specs.Slab.{Slab, get}
use Rattle.am_names.specs.declared.trigger.Trigger.{Trigger}
use Rattle.am_names.specs.{OpenToken, WaitRow, TokenKind, RiseBy}
use Rattle.am_wait.specs.{Seat, HeldToken, WaitRows, token_of, wait_of, with_wait, with_waiter, waiting_on, opened, joined, joined_on, collected, reopened, rejoined, still_waits, IsSound, key_of, row_at, waits_in, with_seat, without_seat, seat_at, frees, next_by, next_key, IsSeat, held_of, held_row, token_in, tokens_in, with_key, HasKeys}
use Rattle.am_wait.specs.declared.waits.Waits.TheInside.{Inside}
use Rattle.am_wait.specs.View.{rows_of, IsSettled, IsKept}
use Rattle.am_wait.proofs.RowLemmas.{rises_put}
use Rattle.am_wait.proofs.FindLemmas.{find_gone}
use Rattle.am_wait.proofs.AgreeLemmas.{opened_sound, joined_sound}
use Rattle.am_wait.proofs.SeatLemmas.{no_key}
use Rattle.am_wait.proofs.KeptLemmas.{wait_found, token_found}
use Rattle.am_wait.proofs.SameLemmas.{Freed, freed_all}
use Rattle.am_wait.proofs.PutLemmas.{map_around, row_there, put_waits, put_seated, kept_tokens, joined_tokens, new_key, kept_keys, joined_keys}
use Rattle.am_wait.proofs.SettledLemmas.{opened_settled, joined_settled, joined_rows}

-- a wait is put at the key
pub record Puts (j k : Inside) (wait : WaitRow) (key : ℕ) : Type 0 where
  pub idle : key_of j.seats.rows wait.walker ≡ None
  pub vacant : get j.slab key ≡ None
  pub put : (n : ℕ) → get k.slab n ≡ cond (key == n) (Some wait) (get j.slab n)
  pub seats : k.seats.rows ≡ with_seat (seat_at wait.walker key) j.seats.rows
  pub waiters : k.most_waits ≡ j.most_waits
  pub numbers : k.most_tokens ≡ j.most_tokens

idle_wait : (j : Inside) (walker : ℕ) → IsKept j → key_of j.seats.rows walker ≡ None → wait_of (rows_of j).waits walker ≡ None
idle_wait j walker kept idle = wait_found j.slab j.seats.rows walker kept.linked.seated ∙ ap (option_map (λ (s : Seat). row_at j.slab s.key)) (no_key j.seats.rows walker idle)

module _ (j k : Inside) (trigger : Trigger) (kind : TokenKind) (walker key : ℕ) (kept : IsKept j) (h : Puts j k (waiting_on (j.last_token + 1) trigger kind walker) key)
    (tokens : k.tokens.items ≡ j.tokens.items ++ held_row (j.last_token + 1) trigger kind key ∷ []) (last : k.last_token ≡ j.last_token + 1) where
  pub opened_is : rows_of k ≡ opened trigger kind walker (rows_of j)
  opened_is =
      let wait = waiting_on (j.last_token + 1) trigger kind walker in
      let row = held_row (j.last_token + 1) trigger kind key in
      let new : OpenToken = record { token = j.last_token + 1; trigger = trigger; kind = kind; waiters = walker ∷ [] } in
      let its : token_in k.slab row ≡ new = ap (λ (r : WaitRow). record { token = j.last_token + 1; trigger = trigger; kind = kind; waiters = r.walker ∷ [] }) (row_there j.slab k.slab key wait h.vacant h.put) in
      let all : tokens_in k.slab k.tokens.items ≡ tokens_in j.slab j.tokens.items ++ new ∷ [] =
      ap (tokens_in k.slab) tokens ∙ map_around (token_in k.slab) j.tokens.items row []
      ∙ ap (λ (rows : List OpenToken). rows ++ token_in k.slab row ∷ []) (kept_tokens j.slab k.slab key wait h.vacant h.put j.seats.rows kept.linked.seated j.tokens.items kept.linked.held)
      ∙ ap (λ (r : OpenToken). tokens_in j.slab j.tokens.items ++ r ∷ []) its in
      let waits : waits_in k.slab k.seats.rows ≡ with_wait wait (waits_in j.slab j.seats.rows) = ap (waits_in k.slab) h.seats ∙ put_waits j.slab k.slab key wait h.vacant h.put j.seats.rows kept.linked.seated in
      rw (all, waits, last, h.waiters, h.numbers) refl

  pub opened_kept : IsKept k
  opened_kept =
      let wait = waiting_on (j.last_token + 1) trigger kind walker in
      let row = held_row (j.last_token + 1) trigger kind key in
      let seats : List Seat = with_seat (seat_at walker key) j.seats.rows in
      let is : opened trigger kind walker (rows_of j) ≡ rows_of k = sym opened_is in
      let its : HasKeys k.slab seats row = All-cons (λ n. key_of seats (row_at k.slab n).walker ≡ Some n) key [] (new_key j.slab k.slab key wait h.vacant h.put j.seats.rows kept.linked.seated h.idle) (All-nil (λ n. key_of seats (row_at k.slab n).walker ≡ Some n)) in
      let held : All (HasKeys k.slab seats) (j.tokens.items ++ row ∷ []) =
      All-append (HasKeys k.slab seats) j.tokens.items (row ∷ [])
      (All-weaker (HasKeys j.slab j.seats.rows) (HasKeys k.slab seats) (kept_keys j.slab k.slab key wait h.vacant h.put j.seats.rows kept.linked.seated h.idle) j.tokens.items kept.linked.held)
      (All-cons (HasKeys k.slab seats) row [] its (All-nil (HasKeys k.slab seats))) in
      record {
        sound = subst (λ (w : WaitRows). IsSound w) is (opened_sound (rows_of j) trigger kind walker kept.sound (idle_wait j walker kept h.idle));
        settled = subst (λ (w : WaitRows). All (IsSettled w) w.waits) is (opened_settled (rows_of j) trigger kind walker kept.settled);
        linked = record {
          rising = subst (λ (rows : List Seat). RiseBy (λ s. s.walker) 0 rows) (sym h.seats) (rises_put (λ (s : Seat). s.walker) 0 (seat_at walker key) j.seats.rows kept.linked.rising (omega arith));
          seated = subst (λ (rows : List Seat). All (IsSeat k.slab) rows) (sym h.seats) (put_seated j.slab k.slab key wait h.vacant h.put j.seats.rows kept.linked.seated);
          held = subst (λ (rows : List Seat). All (HasKeys k.slab rows) k.tokens.items) (sym h.seats) (subst (λ (rows : List HeldToken). All (HasKeys k.slab seats) rows) (sym tokens) held);
        };
      }

module _ (j k : Inside) (t walker key : ℕ) (row : HeldToken) (kept : IsKept j) (there : held_of j.tokens.items t ≡ Some row) (h : Puts j k (waiting_on t row.trigger row.kind walker) key)
    (tokens : k.tokens.items ≡ with_key t key j.tokens.items) (last : k.last_token ≡ j.last_token) where
  its_open : token_of (rows_of j).tokens t ≡ Some (token_in j.slab row)
  its_open = token_found j.slab j.tokens.items t ∙ ap (option_map (token_in j.slab)) there

  joins : rows_of k ≡ joined_rows (rows_of j) t walker (token_in j.slab row)
  joins =
      let wait = waiting_on t row.trigger row.kind walker in
      let all : tokens_in k.slab k.tokens.items ≡ with_waiter t walker (tokens_in j.slab j.tokens.items) =
      ap (tokens_in k.slab) tokens ∙ joined_tokens j.slab k.slab key wait h.vacant h.put j.seats.rows kept.linked.seated t j.tokens.items kept.linked.held in
      let waits : waits_in k.slab k.seats.rows ≡ with_wait wait (waits_in j.slab j.seats.rows) = ap (waits_in k.slab) h.seats ∙ put_waits j.slab k.slab key wait h.vacant h.put j.seats.rows kept.linked.seated in
      rw (all, waits, last, h.waiters, h.numbers) refl

  pub joined_is : rows_of k ≡ joined t walker (rows_of j)
  joined_is = joins ∙ sym (ap (λ (o : Option OpenToken). joined_on o t walker (rows_of j)) its_open)

  pub joined_kept : IsKept k
  joined_kept =
      let wait = waiting_on t row.trigger row.kind walker in
      let seats : List Seat = with_seat (seat_at walker key) j.seats.rows in
      let its = token_in j.slab row in
      let is : joined_rows (rows_of j) t walker its ≡ rows_of k = sym joins in
      record {
        sound = subst (λ (w : WaitRows). IsSound w) is (joined_sound (rows_of j) t walker its kept.sound (idle_wait j walker kept h.idle) its_open);
        settled = subst (λ (w : WaitRows). All (IsSettled w) w.waits) is (joined_settled (rows_of j) t walker its kept.sound its_open kept.settled);
        linked = record {
          rising = subst (λ (rows : List Seat). RiseBy (λ s. s.walker) 0 rows) (sym h.seats) (rises_put (λ (s : Seat). s.walker) 0 (seat_at walker key) j.seats.rows kept.linked.rising (omega arith));
          seated = subst (λ (rows : List Seat). All (IsSeat k.slab) rows) (sym h.seats) (put_seated j.slab k.slab key wait h.vacant h.put j.seats.rows kept.linked.seated);
          held = subst (λ (rows : List Seat). All (HasKeys k.slab rows) k.tokens.items) (sym h.seats) (subst (λ (rows : List HeldToken). All (HasKeys k.slab seats) rows) (sym tokens)
              (joined_keys j.slab k.slab key wait h.vacant h.put j.seats.rows kept.linked.seated h.idle t j.tokens.items kept.linked.held));
        };
      }

-- ---- room first, then the old wait is taken away and the new one put

-- the seats and the slab with room, and after the old wait was taken away and the new one put
pub record Renews (i j k : Inside) (roomy : List Seat) (room : Slab WaitRow) (walker key : ℕ) (wait : WaitRow) : Type 0 where
  pub whose : wait.walker ≡ walker
  pub first : key ≡ next_key i.seats.rows i.slab walker
  pub rows : roomy ≡ i.seats.rows
  pub slots : room.slots ≡ i.slab.slots
  pub vacated : room.vacant_key ≡ i.slab.vacant_key
  pub taken : j.seats.rows ≡ without_seat walker roomy
  pub freed : (n : ℕ) → get j.slab n ≡ cond (frees (key_of roomy walker) n) None (get room n)
  pub next : j.slab.vacant_key ≡ next_key roomy room walker
  pub seats : k.seats.rows ≡ with_seat (seat_at wait.walker j.slab.vacant_key) j.seats.rows
  pub vacant : get j.slab j.slab.vacant_key ≡ None
  pub put : (n : ℕ) → get k.slab n ≡ cond (j.slab.vacant_key == n) (Some wait) (get j.slab n)
  pub tokens : j.tokens.items ≡ i.tokens.items
  pub last : j.last_token ≡ i.last_token
  pub waiters_taken : j.most_waits ≡ i.most_waits
  pub numbers_taken : j.most_tokens ≡ i.most_tokens
  pub waiters_put : k.most_waits ≡ j.most_waits
  pub numbers_put : k.most_tokens ≡ j.most_tokens

same_next : (o : Option ℕ) (a b : Slab WaitRow) → a.slots ≡ b.slots → a.vacant_key ≡ b.vacant_key → next_by o a ≡ next_by o b
same_next None a b s v = v
same_next (Some key) a b s v = rw (s, v) refl

pub no_seat_left : (walker : ℕ) (seats : List Seat) → key_of (without_seat walker seats) walker ≡ None
no_seat_left walker seats = ap (option_map (λ (s : Seat). s.key)) (find_gone (λ (s : Seat). s.walker == walker) (λ s. not (s.walker == walker)) (λ s e. ap not e) seats)

module _ (i j k : Inside) (roomy : List Seat) (room : Slab WaitRow) (walker key : ℕ) (wait : WaitRow) (kept : IsKept i) (free : still_waits (wait_of (rows_of i).waits walker) ≡ false) (h : Renews i j k roomy room walker key wait) where
  same_key : j.slab.vacant_key ≡ key
  same_key = h.next ∙ ap (λ (seats : List Seat). next_key seats room walker) h.rows ∙ same_next (key_of i.seats.rows walker) room i.slab h.slots h.vacated ∙ sym h.first

  frees_it : Freed i j walker
  frees_it = record {
    seats = h.taken ∙ ap (without_seat walker) h.rows;
    freed = λ n. h.freed n ∙ (rw (h.rows, h.slots) refl);
    tokens = h.tokens;
    last = h.last;
    waiters = h.waiters_taken;
    numbers = h.numbers_taken;
  }

  pub taken_away : (rows_of j ≡ collected walker (rows_of i)) × IsKept j
  taken_away = freed_all i j walker kept frees_it free

  puts_it : Puts j k wait key
  puts_it =
      let none : key_of j.seats.rows walker ≡ None = ap (λ (seats : List Seat). key_of seats walker) h.taken ∙ no_seat_left walker roomy in
      record {
        idle = ap (key_of j.seats.rows) h.whose ∙ none;
        vacant = ap (get j.slab) (sym same_key) ∙ h.vacant;
        put = λ n. h.put n ∙ ap (λ (m : ℕ). cond (m == n) (Some wait) (get j.slab n)) same_key;
        seats = h.seats ∙ ap (λ (m : ℕ). with_seat (seat_at wait.walker m) j.seats.rows) same_key;
        waiters = h.waiters_put;
        numbers = h.numbers_put;
      }

  pub reopens : (trigger : Trigger) (kind : TokenKind) (t : ℕ) → t ≡ i.last_token + 1 → wait ≡ waiting_on t trigger kind walker → k.tokens.items ≡ i.tokens.items ++ held_row t trigger kind key ∷ [] → k.last_token ≡ t →
      (rows_of k ≡ reopened trigger kind walker (rows_of i)) × IsKept k
  reopens trigger kind t number is tokens last =
      let its : t ≡ j.last_token + 1 = number ∙ ap (λ (n : ℕ). n + 1) (sym h.last) in
      let puts : Puts j k (waiting_on (j.last_token + 1) trigger kind walker) key = subst (λ (w : WaitRow). Puts j k w key) (is ∙ ap (λ (n : ℕ). waiting_on n trigger kind walker) its) puts_it in
      let all : k.tokens.items ≡ j.tokens.items ++ held_row (j.last_token + 1) trigger kind key ∷ [] = tokens ∙ ap (λ (rows : List HeldToken). rows ++ held_row t trigger kind key ∷ []) (sym h.tokens) ∙ ap (λ (n : ℕ). j.tokens.items ++ held_row n trigger kind key ∷ []) its in
      (opened_is j k trigger kind walker key taken_away.1 puts all (last ∙ its) ∙ ap (opened trigger kind walker) taken_away.0, opened_kept j k trigger kind walker key taken_away.1 puts all (last ∙ its))

  pub rejoins : (t : ℕ) (row : HeldToken) → held_of i.tokens.items t ≡ Some row → wait ≡ waiting_on t row.trigger row.kind walker → k.tokens.items ≡ with_key t key i.tokens.items → k.last_token ≡ i.last_token →
      (rows_of k ≡ rejoined t walker (rows_of i)) × IsKept k
  rejoins t row there is tokens last =
      let found : held_of j.tokens.items t ≡ Some row = ap (λ (rows : List HeldToken). held_of rows t) h.tokens ∙ there in
      let puts : Puts j k (waiting_on t row.trigger row.kind walker) key = subst (λ (w : WaitRow). Puts j k w key) is puts_it in
      let all : k.tokens.items ≡ with_key t key j.tokens.items = tokens ∙ ap (with_key t key) (sym h.tokens) in
      let at : k.last_token ≡ j.last_token = last ∙ sym h.last in
      (joined_is j k t walker key row taken_away.1 found puts all at ∙ ap (joined t walker) taken_away.0, joined_kept j k t walker key row taken_away.1 found puts all at)
