-- What is asked of the fields is what is asked of the rows that they stand for.
use Rattle.std.proofs.Common.{◌≡◌, ℕ, suc, not, ◌==◌, List, [], ◌∷◌, length, Option, Some, None, refl, sym, ap, ◌∙◌}
use Rattle.std.specs.Prelude.{find, filter, map, All, IsSome, is_some}
use Rattle.std.specs.Option.{option_map}
use Rattle.std.proofs.lemmas.List.Elements.{All-weaker}
use Rattle.slab.specs.Slab.{Slab, get}
use Rattle.am_names.specs.declared.trigger.Trigger.{Trigger}
use Rattle.am_names.specs.{OpenToken, WaitRow, TokenKind, RiseBy}
use Rattle.am_wait.specs.{Seat, HeldToken, is_open_on, open_on, token_of, tokens_of, without_wait, key_of, row_at, row_in, waits_in, without_seat, IsSeat, held_of, is_held_on, held_open_on, held_tokens_of, token_in, tokens_in}
use Rattle.am_wait.specs.declared.waits.Waits.TheInside.{Inside}
use Rattle.am_wait.specs.View.{rows_of, IsKept}
use Rattle.am_wait.proofs.KeptLemmas.{find_mapped, filter_mapped, map_twice, token_found, its_keys}
use Rattle.am_wait.proofs.FreedLemmas.{rise_held}
use Rattle.am_wait.proofs.PutLemmas.{has_wait}

mapped_length : {X Y : Type 0} (f : X → Y) (xs : List X) → length (map f xs) ≡ length xs
mapped_length f [] = refl
mapped_length f (x ∷ xs) = ap (λ (n : ℕ). suc n) (mapped_length f xs)

-- the open tokens rise
pub tokens_rise : (i : Inside) → IsKept i → RiseBy (λ (r : HeldToken). r.token) 0 i.tokens.items
tokens_rise i kept = rise_held i.slab 0 i.tokens.items kept.sound.tokens

-- as many waits of others as seats of others
pub others_counted : (slab : Slab WaitRow) (seats : List Seat) (walker : ℕ) → All (IsSeat slab) seats → length (without_seat walker seats) ≡ length (without_wait walker (waits_in slab seats))
others_counted slab seats walker h =
    sym (mapped_length (λ (s : Seat). row_at slab s.key) (without_seat walker seats))
    ∙ ap length (filter_mapped (λ (s : Seat). row_at slab s.key) (λ (s : Seat). not (s.walker == walker)) (λ (r : WaitRow). not (r.walker == walker)) seats
    (All-weaker (IsSeat slab) (λ (s : Seat). not ((row_at slab s.key).walker == walker) ≡ not (s.walker == walker)) (λ s e. ap (λ (n : ℕ). not (n == walker)) (ap (λ (o : Option WaitRow). (row_in o).walker) e.1 ∙ e.2)) seats h))

token_mapped_twice : (slab : Slab WaitRow) (o : Option HeldToken) → option_map (λ (r : OpenToken). r.token) (option_map (token_in slab) o) ≡ option_map (λ (r : HeldToken). r.token) o
token_mapped_twice slab None = refl
token_mapped_twice slab (Some row) = refl

pub held_open_on_is : (slab : Slab WaitRow) (tokens : List HeldToken) (kind : TokenKind) (trigger : Trigger) → held_open_on tokens kind trigger ≡ open_on (tokens_in slab tokens) kind trigger
held_open_on_is slab tokens kind trigger =
    sym (ap (option_map (λ (r : OpenToken). r.token)) (find_mapped (token_in slab) (λ (r : HeldToken). is_held_on kind trigger r) (λ (r : OpenToken). is_open_on kind trigger r) tokens (λ k d less. refl))
    ∙ token_mapped_twice slab (find (λ (r : HeldToken). is_held_on kind trigger r) tokens))

pub tokens_named : (slab : Slab WaitRow) (tokens : List HeldToken) (fs : ℕ) → held_tokens_of tokens fs ≡ tokens_of (tokens_in slab tokens) fs
tokens_named slab tokens fs =
    sym (map_twice (token_in slab) (λ (r : OpenToken). r.token) (filter (λ (r : HeldToken). r.trigger.fs == fs) tokens))
    ∙ ap (map (λ (r : OpenToken). r.token)) (filter_mapped (token_in slab) (λ (r : HeldToken). r.trigger.fs == fs) (λ (r : OpenToken). r.trigger.fs == fs) tokens (λ k d less. refl))

-- at each key of an open token is a wait
pub its_waits : (i : Inside) (kept : IsKept i) (t : ℕ) (its : HeldToken) → held_of i.tokens.items t ≡ Some its → All (λ key. IsSome (get i.slab key)) its.keys
its_waits i kept t its there =
    All-weaker (λ key. key_of i.seats.rows (row_at i.slab key).walker ≡ Some key) (λ key. IsSome (get i.slab key))
    (λ key e. let wait = has_wait i.slab i.seats.rows (row_at i.slab key).walker key kept.linked.seated e in ap (λ (o : Option WaitRow). is_some o) wait.1)
    its.keys (its_keys i kept t its there)

-- what is found of a token
pub held_of_is : (i : Inside) (t : ℕ) (o : Option HeldToken) → held_of i.tokens.items t ≡ o → token_of (rows_of i).tokens t ≡ option_map (token_in i.slab) o
held_of_is i t o e = token_found i.slab i.tokens.items t ∙ ap (option_map (token_in i.slab)) e
