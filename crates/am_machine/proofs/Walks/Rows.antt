-- What the kernel writes down of walkers is named, where what it writes is, and walks stay.
use Rattle.std.proofs.Common.{◌≡◌, ℕ, ◌+◌, Bool, true, false, List, [], ◌∷◌, map, Option, Some, None, refl, sym, subst, ◌∙◌}
use Rattle.std.specs.Prelude.{◌==◌, ◌&&◌, nat_lt, not, is_none, filter, if◌then◌else◌}
use Rattle.std.specs.List.{list_all, All}
use Rattle.std.proofs.lemmas.List.Elements.{All-cons, All-head, All-tail, All-nil, All-append, All-push, All-filter, All-map, All-weaker}
use Rattle.std.proofs.lemmas.Map.Views.{any-filter_same}
use Rattle.am_names.specs.{is_name, same_trigger, Status, OpenToken, TokenKind, WaitRow}
use Rattle.am_names.specs.declared.trigger.Trigger.{Trigger}
use Rattle.am_names.specs.declared.row.TokenKind.TheVariants.{Missing, Expire}
use Rattle.am_names.proofs.Basics.{equal_to_itself, false_where_not, differ_the_other_way}
use Rattle.am_trigger.specs.{used_in, all_used_in}
use Rattle.am_wait.specs.{WaitRows, token_of, with_wait, with_waiter, joined_row, waiting_on, opened, joined_on, released_row, failed_row}
use Rattle.am_kernel.specs.{Attempt, WalkRow, KernelState, walk_row, without_walk, with_walk, arrived, with_joined, with_notified, made_catatonic, acknowledged, with_expiring, wait_collected, wait_collected_from}
use Rattle.am_machine.specs.{is_named, has_walk, HasWalk, WalksFit}
use Rattle.am_machine.proofs.Lists.Different.{all_found, each_kept, differ_as_the_third}
use Rattle.am_machine.proofs.Attachments.Known.{any_more, any_last}
use Rattle.am_machine.proofs.Walks.Named.{IsNamed, AreNames}

abbrev IsNamedToken : OpenToken → Type 0
IsNamedToken row = is_named row.trigger ≡ true

abbrev IsNamedWait : WaitRow → Type 0
IsNamedWait row = is_named row.trigger ≡ true

abbrev pub IsNamedUse : Trigger × ℕ → Type 0
IsNamedUse row = is_named row.0 ≡ true

abbrev pub IsAlongNames : WalkRow → Type 0
IsAlongNames row = list_all is_name row.path ≡ true

-- ---- rows that stay

pub same_rows : (k made : KernelState) → made.waits ≡ k.waits → made.walks ≡ k.walks → made.triggers.uses ≡ k.triggers.uses → WalksFit k → WalksFit made
same_rows k made waits walks uses h = record {
  tokens = subst (λ (w : WaitRows). All IsNamedToken w.tokens) (sym waits) h.tokens;
  waits = subst (λ (w : WaitRows). All IsNamedWait w.waits) (sym waits) h.waits;
  used = subst (All IsNamedUse) (sym uses) h.used;
  walks = subst (All IsAlongNames) (sym walks) h.walks;
  began = subst (λ (l : List WalkRow). All (HasWalk l) made.waits.waits) (sym walks) (subst (λ (w : WaitRows). All (HasWalk k.walks) w.waits) (sym waits) h.began);
}

-- ---- last uses

used_by_cases : (b : Bool) (row : Trigger × ℕ) (moment : ℕ) (rows later : List (Trigger × ℕ)) → IsNamedUse row → All IsNamedUse rows → All IsNamedUse later → All IsNamedUse (if b then (row.0, moment) ∷ rows else row ∷ later)
used_by_cases true row moment rows later one h g = All-cons IsNamedUse (row.0, moment) rows one h
used_by_cases false row moment rows later one h g = All-cons IsNamedUse row later one g

used_named : (trigger : Trigger) (moment : ℕ) (uses : List (Trigger × ℕ)) → IsNamed trigger → All IsNamedUse uses → All IsNamedUse (used_in trigger moment uses)
used_named trigger moment [] named h = All-cons IsNamedUse (trigger, moment) [] named (All-nil IsNamedUse)
used_named trigger moment (row ∷ rows) named h =
    let rest = All-tail IsNamedUse row rows h in
    used_by_cases (same_trigger row.0 trigger) row moment rows (used_in trigger moment rows) (All-head IsNamedUse row rows h) rest (used_named trigger moment rows named rest)

all_used_named : (triggers : List Trigger) (moment : ℕ) (uses : List (Trigger × ℕ)) → All IsNamed triggers → All IsNamedUse uses → All IsNamedUse (all_used_in triggers moment uses)
all_used_named [] moment uses named h = h
all_used_named (trigger ∷ triggers) moment uses named h =
    all_used_named triggers moment (used_in trigger moment uses) (All-tail IsNamed trigger triggers named) (used_named trigger moment uses (All-head IsNamed trigger triggers named) h)

-- ---- waits and tokens

pub wait_more : (P : WaitRow → Type 0) (row : WaitRow) (waits : List WaitRow) → P row → All P waits → All P (with_wait row waits)
wait_more P row waits one h =
    All-append P (filter (λ (other : WaitRow). nat_lt other.walker row.walker) waits) (row ∷ filter (λ (other : WaitRow). nat_lt row.walker other.walker) waits)
    (All-filter (λ (other : WaitRow). nat_lt other.walker row.walker) P waits h)
    (All-cons P row (filter (λ (other : WaitRow). nat_lt row.walker other.walker) waits) one (All-filter (λ (other : WaitRow). nat_lt row.walker other.walker) P waits h))

waiter_by_cases : (b : Bool) (row : OpenToken) (walker : ℕ) (tokens later : List OpenToken) → IsNamedToken row → All IsNamedToken tokens → All IsNamedToken later → All IsNamedToken (if b then joined_row row walker ∷ tokens else row ∷ later)
waiter_by_cases true row walker tokens later one h g = All-cons IsNamedToken (joined_row row walker) tokens one h
waiter_by_cases false row walker tokens later one h g = All-cons IsNamedToken row later one g

waiter_more : (token walker : ℕ) (tokens : List OpenToken) → All IsNamedToken tokens → All IsNamedToken (with_waiter token walker tokens)
waiter_more token walker [] h = h
waiter_more token walker (row ∷ tokens) h =
    let rest = All-tail IsNamedToken row tokens h in
    waiter_by_cases (row.token == token) row walker tokens (with_waiter token walker tokens) (All-head IsNamedToken row tokens h) rest (waiter_more token walker tokens rest)

-- the open tokens and the waits are named
record WaitsNamed (w : WaitRows) : Type 0 where
  tokens : All IsNamedToken w.tokens
  waits : All IsNamedWait w.waits

waits_of : (k : KernelState) → WalksFit k → WaitsNamed k.waits
waits_of k h = record { tokens = h.tokens; waits = h.waits }

joined_by_cases : (o : Option OpenToken) (token walker : ℕ) (w : WaitRows) → token_of w.tokens token ≡ o → WaitsNamed w → WaitsNamed (joined_on o token walker w)
joined_by_cases None token walker w e h = h
joined_by_cases (Some row) token walker w e h =
    let named = all_found IsNamedToken (λ (r : OpenToken). r.token == token) w.tokens row h.tokens e in
    record {
      tokens = waiter_more token walker w.tokens h.tokens;
      waits = wait_more IsNamedWait (waiting_on token row.trigger row.kind walker) w.waits named h.waits;
    }

opened_named : (trigger : Trigger) (kind : TokenKind) (walker : ℕ) (w : WaitRows) → IsNamed trigger → WaitsNamed w → WaitsNamed (opened trigger kind walker w)
opened_named trigger kind walker w named h = record {
  tokens = All-push IsNamedToken w.tokens _ h.tokens named;
  waits = wait_more IsNamedWait _ w.waits named h.waits;
}

pub failed_trigger : (b : Bool) (row : WaitRow) (status : Option Status) → (if b then record row { status = status } else row).trigger ≡ row.trigger
failed_trigger true row status = refl
failed_trigger false row status = refl

mapped_named : (change : WaitRow → WaitRow) (waits : List WaitRow) → ((row : WaitRow) → (change row).trigger ≡ row.trigger) → All IsNamedWait waits → All IsNamedWait (map change waits)
mapped_named change waits same h =
    All-map IsNamedWait change waits (All-weaker IsNamedWait (λ (row : WaitRow). IsNamedWait (change row)) (λ row named. subst (λ (g : Trigger). is_named g ≡ true) (sym (same row)) named) waits h)

-- ---- walks of those that wait

-- the walk of another stays
other_walk : (gone walker : ℕ) (walks : List WalkRow) → (gone == walker) ≡ false → has_walk walks walker ≡ true → has_walk (without_walk gone walks) walker ≡ true
other_walk gone walker walks other h =
    any-filter_same (λ (row : WalkRow). row.walker == walker) (λ (row : WalkRow). not (row.walker == gone)) true (λ row is. differ_as_the_third row.walker gone walker is other) walks ∙ h

walk_by_cases : (attempt : Attempt) (walks : List WalkRow) (walker : ℕ) (b : Bool) → (attempt.walker == walker) ≡ b → has_walk walks walker ≡ true → has_walk (with_walk attempt walks) walker ≡ true
walk_by_cases attempt walks walker true same h = any_last (λ (row : WalkRow). row.walker == walker) (without_walk attempt.walker walks) (walk_row attempt) same
walk_by_cases attempt walks walker false other h = any_more (λ (row : WalkRow). row.walker == walker) (without_walk attempt.walker walks) (walk_row attempt ∷ []) (other_walk attempt.walker walker walks other h)

-- a walk more: all have theirs as before, and the walker has it
still_began : (attempt : Attempt) (walks : List WalkRow) (waits : List WaitRow) → All (HasWalk walks) waits → All (HasWalk (with_walk attempt walks)) waits
still_began attempt walks waits h =
    All-weaker (HasWalk walks) (HasWalk (with_walk attempt walks)) (λ row began missing. walk_by_cases attempt walks row.walker (attempt.walker == row.walker) refl (began missing)) waits h

own_walk : (attempt : Attempt) (walks : List WalkRow) → has_walk (with_walk attempt walks) attempt.walker ≡ true
own_walk attempt walks = any_last (λ (row : WalkRow). row.walker == attempt.walker) (without_walk attempt.walker walks) (walk_row attempt) (equal_to_itself attempt.walker)

joined_began : (o : Option OpenToken) (token : ℕ) (attempt : Attempt) (walks : List WalkRow) (w : WaitRows) → All (HasWalk walks) w.waits → All (HasWalk (with_walk attempt walks)) (joined_on o token attempt.walker w).waits
joined_began None token attempt walks w h = still_began attempt walks w.waits h
joined_began (Some row) token attempt walks w h =
    wait_more (HasWalk (with_walk attempt walks)) (waiting_on token row.trigger row.kind attempt.walker) w.waits (λ missing. own_walk attempt walks) (still_began attempt walks w.waits h)

failed_kind : (b : Bool) (row : WaitRow) (status : Option Status) → (if b then record row { status = status } else row).kind ≡ row.kind
failed_kind true row status = refl
failed_kind false row status = refl

pub failed_walker : (b : Bool) (row : WaitRow) (status : Option Status) → (if b then record row { status = status } else row).walker ≡ row.walker
failed_walker true row status = refl
failed_walker false row status = refl

mapped_began : (walks : List WalkRow) (change : WaitRow → WaitRow) (waits : List WaitRow) → ((row : WaitRow) → (change row).kind ≡ row.kind) → ((row : WaitRow) → (change row).walker ≡ row.walker) → All (HasWalk walks) waits → All (HasWalk walks) (map change waits)
mapped_began walks change waits kind walker h =
    All-map (HasWalk walks) change waits
    (All-weaker (HasWalk walks) (λ (row : WaitRow). HasWalk walks (change row)) (λ row began missing. subst (λ (n : ℕ). has_walk walks n ≡ true) (sym (walker row)) (began (sym (kind row) ∙ missing))) waits h)

-- one who waits no longer has no walk
freed_began : (walker : ℕ) (walks : List WalkRow) (waits : List WaitRow) → All (HasWalk walks) waits → All (HasWalk (without_walk walker walks)) (filter (λ (row : WaitRow). not (row.walker == walker)) waits)
freed_began walker walks waits h =
    each_kept (HasWalk walks) (HasWalk (without_walk walker walks)) (λ (row : WaitRow). not (row.walker == walker)) waits
    (λ row keep began missing. other_walk walker row.walker walks (differ_the_other_way row.walker walker (false_where_not (row.walker == walker) keep)) (began missing)) h

-- ---- what the kernel makes of it

walk_more : (attempt : Attempt) (walks : List WalkRow) → AreNames attempt.path → All IsAlongNames walks → All IsAlongNames (with_walk attempt walks)
walk_more attempt walks names h =
    All-push IsAlongNames (filter (λ (row : WalkRow). not (row.walker == attempt.walker)) walks) (walk_row attempt) (All-filter (λ (row : WalkRow). not (row.walker == attempt.walker)) IsAlongNames walks h) names

pub arrived_named : (k : KernelState) (attempt : Attempt) (mount : ℕ) (passed : List Trigger) → All IsNamed passed → WalksFit k → WalksFit (arrived attempt mount passed k)
arrived_named k attempt mount passed named h = record { tokens = h.tokens; waits = h.waits; used = all_used_named passed attempt.moment k.triggers.uses named h.used; walks = h.walks; began = h.began }

pub joined_named : (k : KernelState) (attempt : Attempt) (token : ℕ) (passed : List Trigger) → AreNames attempt.path → All IsNamed passed → WalksFit k → WalksFit (with_joined attempt token passed k)
joined_named k attempt token passed names named h =
    let w = joined_by_cases (token_of k.waits.tokens token) token attempt.walker k.waits refl (waits_of k h) in
    record {
      tokens = w.tokens;
      waits = w.waits;
      used = all_used_named passed attempt.moment k.triggers.uses named h.used;
      walks = walk_more attempt k.walks names h.walks;
      began = joined_began (token_of k.waits.tokens token) token attempt k.walks k.waits h.began;
    }

pub notified_named : (k : KernelState) (attempt : Attempt) (trigger : Trigger) (attach : ℕ) (passed : List Trigger) → AreNames attempt.path → IsNamed trigger → All IsNamed passed → WalksFit k → WalksFit (with_notified attempt trigger attach passed k)
notified_named k attempt trigger attach passed names own named h =
    let w = opened_named trigger Missing attempt.walker k.waits own (waits_of k h) in
    record {
      tokens = w.tokens;
      waits = w.waits;
      used = used_named trigger attempt.moment (all_used_in passed attempt.moment k.triggers.uses) own (all_used_named passed attempt.moment k.triggers.uses named h.used);
      walks = walk_more attempt k.walks names h.walks;
      began = wait_more (HasWalk (with_walk attempt k.walks)) (waiting_on (k.waits.last_token + 1) trigger Missing attempt.walker) k.waits.waits (λ missing. own_walk attempt k.walks) (still_began attempt k.walks k.waits.waits h.began);
    }

pub expiring_named : (k : KernelState) (walker : ℕ) (trigger : Trigger) (attach : ℕ) → IsNamed trigger → WalksFit k → WalksFit (with_expiring walker trigger attach k)
expiring_named k walker trigger attach own h =
    let w = opened_named trigger Expire walker k.waits own (waits_of k h) in
    record {
      tokens = w.tokens;
      waits = w.waits;
      used = h.used;
      walks = h.walks;
      began = wait_more (HasWalk k.walks) (waiting_on (k.waits.last_token + 1) trigger Expire walker) k.waits.waits (λ missing. absurd cc) h.began;
    }

pub closed_named : (fs : ℕ) (k : KernelState) → WalksFit k → WalksFit (made_catatonic fs k)
closed_named fs k h = record {
  tokens = All-filter (λ (row : OpenToken). not (row.trigger.fs == fs)) IsNamedToken k.waits.tokens h.tokens;
  waits = mapped_named (failed_row fs) k.waits.waits (λ row. failed_trigger (row.trigger.fs == fs && is_none row.status) row _) h.waits;
  used = h.used;
  walks = h.walks;
  began = mapped_began k.walks (failed_row fs) k.waits.waits (λ row. failed_kind (row.trigger.fs == fs && is_none row.status) row _) (λ row. failed_walker (row.trigger.fs == fs && is_none row.status) row _) h.began;
}

pub acknowledged_named : (token : ℕ) (status : Status) (k : KernelState) → WalksFit k → WalksFit (acknowledged token status k)
acknowledged_named token status k h = record {
  tokens = All-filter (λ (row : OpenToken). not (row.token == token)) IsNamedToken k.waits.tokens h.tokens;
  waits = mapped_named (released_row token status) k.waits.waits (λ row. failed_trigger (row.token == token) row _) h.waits;
  used = h.used;
  walks = h.walks;
  began = mapped_began k.walks (released_row token status) k.waits.waits (λ row. failed_kind (row.token == token) row _) (λ row. failed_walker (row.token == token) row _) h.began;
}

freed_named : (walker : ℕ) (k : KernelState) → WalksFit k → WalksFit (wait_collected walker k)
freed_named walker k h = record {
  tokens = h.tokens;
  waits = All-filter (λ (row : WaitRow). not (row.walker == walker)) IsNamedWait k.waits.waits h.waits;
  used = h.used;
  walks = All-filter (λ (row : WalkRow). not (row.walker == walker)) IsAlongNames k.walks h.walks;
  began = freed_began walker k.walks k.waits.waits h.began;
}

pub freed_from_named : (kind : TokenKind) (wait : WaitRow) (moment : ℕ) (k : KernelState) → IsNamed wait.trigger → WalksFit k → WalksFit (wait_collected_from kind wait moment k)
freed_from_named Missing wait moment k own h = freed_named wait.walker k h
freed_from_named Expire wait moment k own h =
    let f = freed_named wait.walker k h in
    record { tokens = f.tokens; waits = f.waits; used = used_named wait.trigger moment k.triggers.uses own f.used; walks = f.walks; began = f.began }
