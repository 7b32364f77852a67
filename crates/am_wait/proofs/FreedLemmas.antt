-- No token has the key of a wait that was released.
use Rattle.std.proofs.Common.{◌≡◌, ℕ, ◌+◌, Bool, true, false, cond, not, ◌==◌, ◌&&◌, ◌||◌, List, [], ◌∷◌, get_or, Option, Some, None, refl, sym, ap, subst, ◌∙◌, arith}
use Rattle.std.specs.Prelude.{All, is_none}
use Rattle.std.specs.Option.{option_map}
use Rattle.std.proofs.lemmas.Bool.Decides.{nat_tests, Decides-eqb}
use Rattle.std.proofs.lemmas.List.Elements.{All-nil, All-cons, All-filter, All-weaker}
use Rattle.slab.specs.Slab.{Slab, get}
use Rattle.am_names.specs.{WaitRow, OpenToken, Status, RiseBy}
use Rattle.am_names.proofs.Basics.{some_injective, none_is_not_some, found_passes}
use Rattle.am_wait.specs.{Seat, HeldToken, WaitRows, wait_of, without_wait, collected, is_waiting_on, IsSound, seat_of, key_of, among_keys, row_at, row_in, waits_in, without_seat, frees, IsSeat, held_of, token_in, tokens_in, HasKeys}
use Rattle.am_wait.specs.declared.waits.Waits.TheInside.{Inside}
use Rattle.am_wait.specs.View.{rows_of, IsSettled, IsLinked, IsKept}
use Rattle.am_wait.proofs.FindLemmas.{find_kept}
use Rattle.am_wait.proofs.RowLemmas.{rises_filter}
use Rattle.am_wait.proofs.AgreeLemmas.{collected_sound}
use Rattle.am_wait.proofs.KeptLemmas.{all_found, map_same, wait_found, here_too, agrees, all_find}
use Rattle.am_wait.proofs.CollectLemmas.{collected_waits, others_seated}

pub rise_held : (slab : Slab WaitRow) (low : ℕ) (tokens : List HeldToken) → RiseBy (λ (r : OpenToken). r.token) low (tokens_in slab tokens) → RiseBy (λ (r : HeldToken). r.token) low tokens
rise_held slab low [] h = tt
rise_held slab low (row ∷ tokens) h = (h.0, rise_held slab (row.token + 1) tokens h.1)

none_among : (keys : List ℕ) (key : ℕ) → among_keys keys key ≡ false → All (λ k. (k == key) ≡ false) keys
none_among [] key h = All-nil (λ k. (k == key) ≡ false)
none_among (k ∷ keys) key h = by_test (k == key) refl h (none_among keys key)
  where
    by_test : (b : Bool) → (k == key) ≡ b → (b || among_keys keys key) ≡ false → (among_keys keys key ≡ false → All (λ j. (j == key) ≡ false) keys) → All (λ j. (j == key) ≡ false) (k ∷ keys)
    by_test true e f later = absurd cc
    by_test false e f later = All-cons (λ j. (j == key) ≡ false) k keys e (later f)

module _ (i : Inside) (kept : IsKept i) (seat : Seat) (status : Status) (its : seat_of i.seats.rows seat.walker ≡ Some seat) (released : (row_at i.slab seat.key).status ≡ Some status) where
  lacks_key_at : (row : HeldToken) (there : held_of i.tokens.items row.token ≡ Some row) (b : Bool) → among_keys row.keys seat.key ≡ b → b ≡ false
  lacks_key_at row there false e = refl
  lacks_key_at row there true e =
      let waits = sym (here_too i kept row.token row there seat its e) ∙ agrees i kept row.token row there seat its in
      let done : is_waiting_on row.token (Some (row_at i.slab seat.key)) ≡ false = ap (λ (o : Option Status). ((row_at i.slab seat.key).token == row.token) && is_none o) released ∙ (elim ((row_at i.slab seat.key).token == row.token) as (λ b. (b && false) ≡ false) [ true ↦ refl | false ↦ refl ]) in
      waits ∙ done

  pub tokens_lack_key : All (λ (row : HeldToken). among_keys row.keys seat.key ≡ false) i.tokens.items
  tokens_lack_key = all_found (λ (row : HeldToken). among_keys row.keys seat.key ≡ false) (λ (row : HeldToken). row.token) 0 i.tokens.items (rise_held i.slab 0 i.tokens.items kept.sound.tokens) (λ row there. lacks_key_at row there (among_keys row.keys seat.key) refl)

module _ (old new : Slab WaitRow) (key : ℕ) (freed : (k : ℕ) → get new k ≡ cond (key == k) None (get old k)) where
  flipped : (k : ℕ) → (k == key) ≡ false → (key == k) ≡ false
  flipped k e = grind (arith, nat_tests, e)

  same_row : (k : ℕ) → (k == key) ≡ false → row_at new k ≡ row_at old k
  same_row k e = ap row_in (freed k ∙ ap (λ b. cond b None (get old k)) (flipped k e))

  same_token : (row : HeldToken) → among_keys row.keys key ≡ false → token_in new row ≡ token_in old row
  same_token row h =
      ap (λ (walkers : List ℕ). record { token = row.token; trigger = row.trigger; kind = row.kind; waiters = walkers })
      (map_same (λ k. (row_at new k).walker) (λ k. (row_at old k).walker) row.keys (All-weaker (λ k. (k == key) ≡ false) (λ k. (row_at new k).walker ≡ (row_at old k).walker) (λ k e. ap (λ (r : WaitRow). r.walker) (same_row k e)) row.keys (none_among row.keys key h)))

  pub collected_tokens : (tokens : List HeldToken) → All (λ (row : HeldToken). among_keys row.keys key ≡ false) tokens → tokens_in new tokens ≡ tokens_in old tokens
  collected_tokens tokens h = map_same (token_in new) (token_in old) tokens (All-weaker (λ (row : HeldToken). among_keys row.keys key ≡ false) (λ (row : HeldToken). token_in new row ≡ token_in old row) (λ row e. same_token row e) tokens h)

pub record Frees (i j : Inside) (walker : ℕ) (row : WaitRow) (status : Status) : Type 0 where
  pub there : wait_of (rows_of i).waits walker ≡ Some row
  pub released : row.status ≡ Some status
  pub seats : j.seats.rows ≡ without_seat walker i.seats.rows
  pub freed : (k : ℕ) → get j.slab k ≡ cond (frees (key_of i.seats.rows walker) k) None (get i.slab k)
  pub tokens : j.tokens.items ≡ i.tokens.items
  pub last : j.last_token ≡ i.last_token
  pub waiters : j.most_waits ≡ i.most_waits
  pub numbers : j.most_tokens ≡ i.most_tokens

module _ (i j : Inside) (walker : ℕ) (row : WaitRow) (status : Status) (kept : IsKept i) (h : Frees i j walker row status) where
  collected_view_at : (o : Option Seat) → seat_of i.seats.rows walker ≡ o → option_map (λ (s : Seat). row_at i.slab s.key) o ≡ Some row → rows_of j ≡ collected walker (rows_of i)
  collected_view_at None e f = absurd (none_is_not_some row f)
  collected_view_at (Some seat) e f =
      let its : seat.walker ≡ walker = (Decides-eqb seat.walker walker).0 (found_passes (λ (s : Seat). s.walker == walker) i.seats.rows seat e) in
      let found : seat_of i.seats.rows seat.walker ≡ Some seat = ap (seat_of i.seats.rows) its ∙ e in
      let is = all_find (IsSeat i.slab) (λ (s : Seat). s.walker == walker) i.seats.rows seat kept.linked.seated e in
      let at : row_at i.slab seat.key ≡ row = some_injective f in
      let done : (row_at i.slab seat.key).status ≡ Some status = ap (λ (r : WaitRow). r.status) at ∙ h.released in
      let freed : (k : ℕ) → get j.slab k ≡ cond (seat.key == k) None (get i.slab k) = λ k. h.freed k ∙ ap (λ (o : Option Seat). cond (frees (option_map (λ (s : Seat). s.key) o) k) None (get i.slab k)) e in
      let tokens : tokens_in j.slab j.tokens.items ≡ tokens_in i.slab i.tokens.items = ap (tokens_in j.slab) h.tokens ∙ collected_tokens i.slab j.slab seat.key freed i.tokens.items (tokens_lack_key i kept seat status found done) in
      let waits : waits_in j.slab j.seats.rows ≡ without_wait walker (waits_in i.slab i.seats.rows) = ap (waits_in j.slab) h.seats ∙ collected_waits i.slab j.slab seat.key freed is.0 walker i.seats.rows is.1 (is.2 ∙ its) kept.linked.seated in
      rw (tokens, waits, h.last, h.waiters, h.numbers) refl

  pub collected_is : rows_of j ≡ collected walker (rows_of i)
  collected_is = collected_view_at (seat_of i.seats.rows walker) refl (sym (wait_found i.slab i.seats.rows walker kept.linked.seated) ∙ h.there)

  kept_seat : (w : ℕ) → (w == walker) ≡ false → key_of (without_seat walker i.seats.rows) w ≡ key_of i.seats.rows w
  kept_seat w apart = ap (option_map (λ (s : Seat). s.key)) (find_kept (λ (s : Seat). s.walker == w) (λ (s : Seat). not (s.walker == walker)) (λ s t. grind (arith, nat_tests, t, apart)) i.seats.rows)

  other_walkers_apart : (key k w : ℕ) (b : Bool) → key_of i.seats.rows walker ≡ Some key → key_of i.seats.rows w ≡ Some k → (k == key) ≡ false → (w == walker) ≡ b → b ≡ false
  other_walkers_apart key k w false its e n f = refl
  other_walkers_apart key k w true its e n f =
      let same : k ≡ key = some_injective (sym e ∙ ap (key_of i.seats.rows) ((Decides-eqb w walker).0 f) ∙ its) in
      absurd (cc (sym n ∙ (Decides-eqb k key).1 same))

  kept_keys : (key : ℕ) → key_of i.seats.rows walker ≡ Some key → ((k : ℕ) → get j.slab k ≡ cond (key == k) None (get i.slab k)) → (r : HeldToken) → HasKeys i.slab i.seats.rows r → among_keys r.keys key ≡ false → HasKeys j.slab (without_seat walker i.seats.rows) r
  kept_keys key its freed r has lacks n d less =
      let k : ℕ = get_or r.keys n d in
      let was : key_of i.seats.rows (row_at i.slab k).walker ≡ Some k = has n d less in
      let other : (k == key) ≡ false = none_among r.keys key lacks n d less in
      ap (λ (w : WaitRow). key_of (without_seat walker i.seats.rows) w.walker) (same_row i.slab j.slab key freed k other)
      ∙ kept_seat (row_at i.slab k).walker (other_walkers_apart key k (row_at i.slab k).walker ((row_at i.slab k).walker == walker) its was other refl)
      ∙ was

  linked_without_seat : (o : Option Seat) → seat_of i.seats.rows walker ≡ o → option_map (λ (s : Seat). row_at i.slab s.key) o ≡ Some row → IsLinked j.slab (without_seat walker i.seats.rows) i.tokens.items
  linked_without_seat None e f = absurd (none_is_not_some row f)
  linked_without_seat (Some seat) e f =
      let its : seat.walker ≡ walker = (Decides-eqb seat.walker walker).0 (found_passes (λ (s : Seat). s.walker == walker) i.seats.rows seat e) in
      let found : seat_of i.seats.rows seat.walker ≡ Some seat = ap (seat_of i.seats.rows) its ∙ e in
      let is = all_find (IsSeat i.slab) (λ (s : Seat). s.walker == walker) i.seats.rows seat kept.linked.seated e in
      let at : row_at i.slab seat.key ≡ row = some_injective f in
      let done : (row_at i.slab seat.key).status ≡ Some status = ap (λ (r : WaitRow). r.status) at ∙ h.released in
      let freed : (k : ℕ) → get j.slab k ≡ cond (seat.key == k) None (get i.slab k) = λ k. h.freed k ∙ ap (λ (o : Option Seat). cond (frees (option_map (λ (s : Seat). s.key) o) k) None (get i.slab k)) e in
      record {
        rising = rises_filter (λ (s : Seat). s.walker) (λ s. not (s.walker == walker)) 0 i.seats.rows kept.linked.rising;
        seated = others_seated i.slab j.slab seat.key freed is.0 walker i.seats.rows is.1 (is.2 ∙ its) kept.linked.seated;
        held = λ n d less. kept_keys seat.key (ap (option_map (λ (s : Seat). s.key)) e) freed (get_or i.tokens.items n d) (kept.linked.held n d less) (tokens_lack_key i kept seat status found done n d less);
      }

  pub collected_kept : IsKept j
  collected_kept =
      let w = rows_of i in
      let is : collected walker w ≡ rows_of j = sym collected_is in
      record {
        sound = subst (λ (x : WaitRows). IsSound x) is (collected_sound w walker row status kept.sound h.there h.released);
        settled = subst (λ (x : WaitRows). All (IsSettled x) x.waits) is (All-filter (λ (r : WaitRow). not (r.walker == walker)) (IsSettled (collected walker w)) w.waits (All-weaker (IsSettled w) (IsSettled (collected walker w)) (λ r s. record { given = s.given; closed = s.closed }) w.waits kept.settled));
        linked = subst (λ (seats : List Seat). IsLinked j.slab seats j.tokens.items) (sym h.seats) (subst (λ (tokens : List HeldToken). IsLinked j.slab (without_seat walker i.seats.rows) tokens) (sym h.tokens)
            (linked_without_seat (seat_of i.seats.rows walker) refl (sym (wait_found i.slab i.seats.rows walker kept.linked.seated) ∙ h.there)));
      }
