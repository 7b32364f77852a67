-- All that wait on the tokens of a file system fail.
use Rattle.std.proofs.Common.{◌≡◌, ℕ, zero, suc, ◌<◌, Bool, true, false, cond, not, ◌==◌, ◌||◌, List, [], ◌∷◌, length, get_or, Option, Some, None, refl, sym, ap, subst, ◌∙◌, arith}
use Rattle.std.specs.Prelude.{filter, map, All}
use Rattle.std.specs.Option.{option_map}
use Rattle.std.proofs.lemmas.Bool.Decides.{Decides-eqb}
use Rattle.std.proofs.lemmas.List.Elements.{All-filter, All-weaker}
use Rattle.slab.specs.Slab.{Slab, get}
use Rattle.indexmap.specs.IndexMap.{IndexMap, values}
use Rattle.am_names.specs.{WaitRow, OpenToken, RiseBy}
use Rattle.am_names.proofs.Basics.{or_true}
use Rattle.am_wait.specs.{Seat, HeldToken, WaitRows, failed_row, fs_released, IsSound, key_of, row_at, row_in, waits_in, sits_at, among_keys, IsSeat, token_in, tokens_in, HasKeys}
use Rattle.am_wait.specs.declared.waits.Waits.TheInside.{Inside}
use Rattle.am_wait.specs.View.{rows_of, IsSettled, IsKept}
use Rattle.am_wait.proofs.AgreeLemmas.{released_sound}
use Rattle.am_wait.proofs.CallLemmas.{failed_walker}
use Rattle.am_wait.proofs.KeptLemmas.{filter_mapped, map_same, map_twice}
use Rattle.am_wait.proofs.SettledLemmas.{failed_settled}

each_sits_at_its_key : (seats : List Seat) (n : ℕ) (d : Seat) → n < length seats → sits_at seats (get_or seats n d).key ≡ true
each_sits_at_its_key [] n d less = absurd (omega arith)
each_sits_at_its_key (s ∷ seats) zero d less = rw ((Decides-eqb s.key s.key).1 refl) refl
each_sits_at_its_key (s ∷ seats) (suc n) d less = ap (λ (b : Bool). (s.key == (get_or seats n d).key) || b) (each_sits_at_its_key seats n d (omega arith)) ∙ or_true (s.key == (get_or seats n d).key)

-- the waits at the keys of these seats have failed
abbrev pub FailsAll : Slab WaitRow → Slab WaitRow → ℕ → List Seat → Type 0
FailsAll old new fs seats = (key : ℕ) → get new key ≡ cond (sits_at seats key) (option_map (failed_row fs) (get old key)) (get old key)

-- once the waits at the keys that are left have failed, those at all of these keys have
abbrev pub StillFails : {S : Type 0} → Slab WaitRow → Slab WaitRow → ℕ → IndexMap ℕ ℕ S → List ℕ → Type 0
StillFails old mid fs keys left =
    (key : ℕ) → cond (among_keys left key) (option_map (failed_row fs) (get mid key)) (get mid key)
    ≡ cond (among_keys (values keys) key) (option_map (failed_row fs) (get old key)) (get old key)

walker_kept : (fs : ℕ) (b : Bool) (o : Option WaitRow) → (row_in (cond b (option_map (failed_row fs) o) o)).walker ≡ (row_in o).walker
walker_kept fs true None = refl
walker_kept fs true (Some row) = failed_walker fs row
walker_kept fs false o = refl

-- the same but for the tokens of the file system and the statuses
pub record Fails (i j : Inside) (fs : ℕ) : Type 0 where
  pub tokens : j.tokens.items ≡ filter (λ row. not (row.trigger.fs == fs)) i.tokens.items
  pub seats : j.seats.rows ≡ i.seats.rows
  pub slab : FailsAll i.slab j.slab fs i.seats.rows
  pub last : j.last_token ≡ i.last_token
  pub waiters : j.most_waits ≡ i.most_waits
  pub numbers : j.most_tokens ≡ i.most_tokens

module _ (i j : Inside) (fs : ℕ) (kept : IsKept i) (h : Fails i j fs) where
  same_walker : (key : ℕ) → (row_at j.slab key).walker ≡ (row_at i.slab key).walker
  same_walker key = ap (λ (o : Option WaitRow). (row_in o).walker) (h.slab key) ∙ walker_kept fs (sits_at i.seats.rows key) (get i.slab key)

  same_token : (row : HeldToken) → token_in j.slab row ≡ token_in i.slab row
  same_token row =
      ap (λ (walkers : List ℕ). record { token = row.token; trigger = row.trigger; kind = row.kind; waiters = walkers }) (map_same (λ key. (row_at j.slab key).walker) (λ key. (row_at i.slab key).walker) row.keys (λ n d less. same_walker (get_or row.keys n d)))

  same_keys : (row : HeldToken) → HasKeys i.slab i.seats.rows row → HasKeys j.slab i.seats.rows row
  same_keys row has = All-weaker (λ key. key_of i.seats.rows (row_at i.slab key).walker ≡ Some key) (λ key. key_of i.seats.rows (row_at j.slab key).walker ≡ Some key) (λ key e. ap (key_of i.seats.rows) (same_walker key) ∙ e) row.keys has

  seat_after_failing : (seat : Seat) (b : Bool) → sits_at i.seats.rows seat.key ≡ b → IsSeat i.slab seat → IsSeat j.slab seat
  seat_after_failing seat true e is = (failed_row fs is.0, h.slab seat.key ∙ (rw (e, is.1) refl), failed_walker fs is.0 ∙ is.2)
  seat_after_failing seat false e is = (is.0, h.slab seat.key ∙ (rw (e, is.1) refl), is.2)

  row_failed : (seat : Seat) → sits_at i.seats.rows seat.key ≡ true → IsSeat i.slab seat → row_at j.slab seat.key ≡ failed_row fs (row_at i.slab seat.key)
  row_failed seat e is = ap row_in (h.slab seat.key) ∙ (rw (e, is.1) refl)

  failed_waits : waits_in j.slab i.seats.rows ≡ map (failed_row fs) (waits_in i.slab i.seats.rows)
  failed_waits =
      map_same (λ (s : Seat). row_at j.slab s.key) (λ (s : Seat). failed_row fs (row_at i.slab s.key)) i.seats.rows
      (λ n d less. row_failed (get_or i.seats.rows n d) (each_sits_at_its_key i.seats.rows n d less) (kept.linked.seated n d less))
      ∙ sym (map_twice (λ (s : Seat). row_at i.slab s.key) (failed_row fs) i.seats.rows)

  pub failed_is : rows_of j ≡ fs_released fs (rows_of i)
  failed_is =
      let tokens : tokens_in j.slab j.tokens.items ≡ filter (λ row. not (row.trigger.fs == fs)) (tokens_in i.slab i.tokens.items) =
      ap (tokens_in j.slab) h.tokens ∙ map_same (token_in j.slab) (token_in i.slab) (filter (λ row. not (row.trigger.fs == fs)) i.tokens.items) (λ n d less. same_token (get_or (filter (λ row. not (row.trigger.fs == fs)) i.tokens.items) n d))
      ∙ filter_mapped (token_in i.slab) (λ (r : HeldToken). not (r.trigger.fs == fs)) (λ (r : OpenToken). not (r.trigger.fs == fs)) i.tokens.items (λ n d less. refl) in
      let waits : waits_in j.slab j.seats.rows ≡ map (failed_row fs) (waits_in i.slab i.seats.rows) = ap (waits_in j.slab) h.seats ∙ failed_waits in
      rw (tokens, waits, h.last, h.waiters, h.numbers) refl

  pub failed_kept : IsKept j
  failed_kept =
      let is : fs_released fs (rows_of i) ≡ rows_of j = sym failed_is in
      record {
        sound = subst (λ (w : WaitRows). IsSound w) is (released_sound (rows_of i) fs kept.sound);
        settled = subst (λ (w : WaitRows). All (IsSettled w) w.waits) is (failed_settled (rows_of i) fs kept.sound kept.settled);
        linked = record {
          rising = subst (λ (seats : List Seat). RiseBy (λ s. s.walker) 0 seats) (sym h.seats) kept.linked.rising;
          seated = subst (λ (seats : List Seat). All (IsSeat j.slab) seats) (sym h.seats) (All-weaker (IsSeat i.slab) (IsSeat j.slab) (λ seat is. seat_after_failing seat (sits_at i.seats.rows seat.key) refl is) i.seats.rows kept.linked.seated);
          held = subst (λ (seats : List Seat). All (HasKeys j.slab seats) j.tokens.items) (sym h.seats) (subst (λ (tokens : List HeldToken). All (HasKeys j.slab i.seats.rows) tokens) (sym h.tokens)
              (All-filter (λ (r : HeldToken). not (r.trigger.fs == fs)) (HasKeys j.slab i.seats.rows) i.tokens.items (All-weaker (HasKeys i.slab i.seats.rows) (HasKeys j.slab i.seats.rows) same_keys i.tokens.items kept.linked.held)));
        };
      }
