-- What the kernel writes down of walkers is of triggers that are there, and who waits is inside no
-- mount.
use Rattle.std.proofs.Common.{◌≡◌, ℕ, ◌+◌, Bool, true, false, List, [], ◌∷◌, map, Option, Some, None, refl, sym, subst, ◌∙◌}
use Rattle.std.specs.Prelude.{◌==◌, ◌&&◌, not, is_none, find, if◌then◌else◌}
use Rattle.std.specs.List.{All}
use Rattle.std.proofs.lemmas.List.Elements.{All-cons, All-head, All-tail, All-nil, All-push, All-filter, All-map, All-weaker}
use Rattle.am_names.specs.{same_trigger, Status, OpenToken, TokenKind, WaitRow}
use Rattle.am_names.specs.declared.trigger.Trigger.{Trigger}
use Rattle.am_names.specs.declared.row.TokenKind.TheVariants.{Missing, Expire}
use Rattle.am_names.proofs.Basics.{differ_the_other_way}
use Rattle.am_trigger.specs.{used_in, all_used_in}
use Rattle.am_wait.specs.{WaitRows, token_of, wait_of, with_waiter, joined_row, waiting_on, opened, joined_on, released_row, failed_row}
use Rattle.am_expire.specs.{Use, mount_of_walker, entered, left}
use Rattle.am_expire.proofs.UseLemmas.{enters, leaves}
use Rattle.am_kernel.specs.{Attempt, KernelState, arrived, with_joined, with_notified, made_catatonic, acknowledged, without_use, with_expiring, wait_collected, wait_collected_from}
use Rattle.am_machine.proofs.Lists.Different.{all_found}
use Rattle.am_machine.proofs.Tour.Walks.{IsIdleWalker}
use Rattle.am_machine.proofs.Walks.Rows.{failed_trigger, failed_walker, wait_more}
use Rattle.am_progress.proofs.Attaches.{AreOfOne}
use Rattle.am_progress.proofs.Triggers.Walks.{IsSite}

abbrev IsOutside : List Use → WaitRow → Type 0
IsOutside uses row = mount_of_walker uses row.walker ≡ None

-- The triggers of open tokens, of waits and of last uses are such ones, who waits is inside no mount,
-- and each attachment is one file system's.
pub record AreOn (P : Trigger → Type 0) (k : KernelState) : Type 0 where
  pub tokens : All (λ (row : OpenToken). P row.trigger) k.waits.tokens
  pub waits : All (λ (row : WaitRow). P row.trigger) k.waits.waits
  pub used : All (λ (row : Trigger × ℕ). P row.0) k.triggers.uses
  pub outside : All (λ (row : WaitRow). mount_of_walker k.uses row.walker ≡ None) k.waits.waits
  pub attaches : AreOfOne k.attached

-- they are of autofs that are there
abbrev pub AreSites : KernelState → Type 0
AreSites k = AreOn (IsSite k.triggers) k

none_by_cases : {X : Type 0} (test : X → Bool) (x : X) (rows : List X) (b : Bool) → test x ≡ b → (find test rows ≡ None → All (λ (y : X). test y ≡ false) rows) → (if b then Some x else find test rows) ≡ None → All (λ (y : X). test y ≡ false) (x ∷ rows)
none_by_cases test x rows true is later e = absurd cc
none_by_cases test x rows false is later e = All-cons (λ y. test y ≡ false) x rows is (later e)

none_all : {X : Type 0} (test : X → Bool) (rows : List X) → find test rows ≡ None → All (λ (y : X). test y ≡ false) rows
none_all test [] e = All-nil (λ y. test y ≡ false)
none_all test (x ∷ rows) e = none_by_cases test x rows (test x) refl (none_all test rows) e

-- ---- who is outside stays outside

both_all : {X : Type 0} (P Q R : X → Type 0) → ((x : X) → P x → Q x → R x) → (rows : List X) → All P rows → All Q rows → All R rows
both_all P Q R more [] h g = All-nil R
both_all P Q R more (x ∷ rows) h g = All-cons R x rows (more x (All-head P x rows h) (All-head Q x rows g)) (both_all P Q R more rows (All-tail P x rows h) (All-tail Q x rows g))

others_by_cases : (mount : ℕ) (b : Bool) (was now : Option ℕ) → b ≡ false → now ≡ (if b then Some mount else was) → was ≡ None → now ≡ None
others_by_cases mount true was now other e none = absurd cc
others_by_cases mount false was now other e none = e ∙ none

entered_outside : (walker mount : ℕ) (uses : List Use) (waits : List WaitRow) → mount_of_walker uses walker ≡ None → wait_of waits walker ≡ None → All (IsOutside uses) waits → All (IsOutside (entered walker mount uses)) waits
entered_outside walker mount uses waits free idle h =
    both_all (IsOutside uses) (λ (row : WaitRow). (row.walker == walker) ≡ false) (IsOutside (entered walker mount uses))
    (λ row out other. others_by_cases mount (walker == row.walker) (mount_of_walker uses row.walker) (mount_of_walker (entered walker mount uses) row.walker) (differ_the_other_way row.walker walker other) (enters uses (record { walker = walker; mount = mount }) free row.walker) out)
    waits h (none_all (λ (row : WaitRow). row.walker == walker) waits idle)

left_by_cases : (b : Bool) (was now : Option ℕ) → now ≡ (if b then None else was) → was ≡ None → now ≡ None
left_by_cases true was now e none = e
left_by_cases false was now e none = e ∙ none

left_outside : (walker : ℕ) (uses : List Use) (waits : List WaitRow) → All (IsOutside uses) waits → All (IsOutside (left walker uses)) waits
left_outside walker uses waits h =
    All-weaker (IsOutside uses) (IsOutside (left walker uses)) (λ row out. left_by_cases (walker == row.walker) (mount_of_walker uses row.walker) (mount_of_walker (left walker uses) row.walker) (leaves uses walker row.walker) out) waits h

mapped_outside : (uses : List Use) (change : WaitRow → WaitRow) (waits : List WaitRow) → ((row : WaitRow) → (change row).walker ≡ row.walker) → All (IsOutside uses) waits → All (IsOutside uses) (map change waits)
mapped_outside uses change waits walker h =
    All-map (IsOutside uses) change waits
    (All-weaker (IsOutside uses) (λ (row : WaitRow). IsOutside uses (change row)) (λ row out. subst (λ (n : ℕ). mount_of_walker uses n ≡ None) (sym (walker row)) out) waits h)

-- ---- triggers of which P is said

module _ (P : Trigger → Type 0) where
  abbrev OnToken : OpenToken → Type 0
  OnToken row = P row.trigger

  abbrev OnWait : WaitRow → Type 0
  OnWait row = P row.trigger

  abbrev OnUse : Trigger × ℕ → Type 0
  OnUse row = P row.0

  used_by_cases : (b : Bool) (row : Trigger × ℕ) (moment : ℕ) (rows later : List (Trigger × ℕ)) → OnUse row → All OnUse rows → All OnUse later → All OnUse (if b then (row.0, moment) ∷ rows else row ∷ later)
  used_by_cases true row moment rows later one h g = All-cons OnUse (row.0, moment) rows one h
  used_by_cases false row moment rows later one h g = All-cons OnUse row later one g

  used_on : (trigger : Trigger) (moment : ℕ) (uses : List (Trigger × ℕ)) → P trigger → All OnUse uses → All OnUse (used_in trigger moment uses)
  used_on trigger moment [] own h = All-cons OnUse (trigger, moment) [] own (All-nil OnUse)
  used_on trigger moment (row ∷ rows) own h =
      let rest = All-tail OnUse row rows h in
      used_by_cases (same_trigger row.0 trigger) row moment rows (used_in trigger moment rows) (All-head OnUse row rows h) rest (used_on trigger moment rows own rest)

  all_used_on : (triggers : List Trigger) (moment : ℕ) (uses : List (Trigger × ℕ)) → All P triggers → All OnUse uses → All OnUse (all_used_in triggers moment uses)
  all_used_on [] moment uses own h = h
  all_used_on (trigger ∷ triggers) moment uses own h =
      all_used_on triggers moment (used_in trigger moment uses) (All-tail P trigger triggers own) (used_on trigger moment uses (All-head P trigger triggers own) h)

  waiter_by_cases : (b : Bool) (row : OpenToken) (walker : ℕ) (tokens later : List OpenToken) → OnToken row → All OnToken tokens → All OnToken later → All OnToken (if b then joined_row row walker ∷ tokens else row ∷ later)
  waiter_by_cases true row walker tokens later one h g = All-cons OnToken (joined_row row walker) tokens one h
  waiter_by_cases false row walker tokens later one h g = All-cons OnToken row later one g

  waiter_more : (token walker : ℕ) (tokens : List OpenToken) → All OnToken tokens → All OnToken (with_waiter token walker tokens)
  waiter_more token walker [] h = h
  waiter_more token walker (row ∷ tokens) h =
      let rest = All-tail OnToken row tokens h in
      waiter_by_cases (row.token == token) row walker tokens (with_waiter token walker tokens) (All-head OnToken row tokens h) rest (waiter_more token walker tokens rest)

  mapped_on : (change : WaitRow → WaitRow) (waits : List WaitRow) → ((row : WaitRow) → (change row).trigger ≡ row.trigger) → All OnWait waits → All OnWait (map change waits)
  mapped_on change waits same h =
      All-map OnWait change waits (All-weaker OnWait (λ (row : WaitRow). OnWait (change row)) (λ row own. subst P (sym (same row)) own) waits h)

  -- rows that stay
  pub same_rows : (k made : KernelState) → made.waits ≡ k.waits → made.triggers.uses ≡ k.triggers.uses → made.uses ≡ k.uses → made.attached ≡ k.attached → AreOn P k → AreOn P made
  same_rows k made waits used uses attached h = record {
    tokens = subst (λ (w : WaitRows). All OnToken w.tokens) (sym waits) h.tokens;
    waits = subst (λ (w : WaitRows). All OnWait w.waits) (sym waits) h.waits;
    used = subst (All OnUse) (sym used) h.used;
    outside = subst (λ (u : List Use). All (IsOutside u) made.waits.waits) (sym uses) (subst (λ (w : WaitRows). All (IsOutside k.uses) w.waits) (sym waits) h.outside);
    attaches = subst AreOfOne (sym attached) h.attaches;
  }

  pub arrived_on : (k : KernelState) (attempt : Attempt) (mount : ℕ) (passed : List Trigger) → IsIdleWalker k attempt.walker → All P passed → AreOn P k → AreOn P (arrived attempt mount passed k)
  arrived_on k attempt mount passed free own h = record {
    tokens = h.tokens;
    waits = h.waits;
    used = all_used_on passed attempt.moment k.triggers.uses own h.used;
    outside = entered_outside attempt.walker mount k.uses k.waits.waits free.uses free.waits h.outside;
    attaches = h.attaches;
  }

  -- a wait more
  record WaitsOn (uses : List Use) (w : WaitRows) : Type 0 where
    tokens : All OnToken w.tokens
    waits : All OnWait w.waits
    outside : All (IsOutside uses) w.waits

  joined_by_cases : (o : Option OpenToken) (token walker : ℕ) (uses : List Use) (w : WaitRows) → token_of w.tokens token ≡ o → mount_of_walker uses walker ≡ None → WaitsOn uses w → WaitsOn uses (joined_on o token walker w)
  joined_by_cases None token walker uses w e out h = h
  joined_by_cases (Some row) token walker uses w e out h =
      let own = all_found OnToken (λ (r : OpenToken). r.token == token) w.tokens row h.tokens e in
      record {
        tokens = waiter_more token walker w.tokens h.tokens;
        waits = wait_more OnWait (waiting_on token row.trigger row.kind walker) w.waits own h.waits;
        outside = wait_more (IsOutside uses) (waiting_on token row.trigger row.kind walker) w.waits out h.outside;
      }

  opened_on : (trigger : Trigger) (kind : TokenKind) (walker : ℕ) (uses : List Use) (w : WaitRows) → P trigger → mount_of_walker uses walker ≡ None → WaitsOn uses w → WaitsOn uses (opened trigger kind walker w)
  opened_on trigger kind walker uses w own out h = record {
    tokens = All-push OnToken w.tokens _ h.tokens own;
    waits = wait_more OnWait (waiting_on (w.last_token + 1) trigger kind walker) w.waits own h.waits;
    outside = wait_more (IsOutside uses) (waiting_on (w.last_token + 1) trigger kind walker) w.waits out h.outside;
  }

  waits_of : (k : KernelState) → AreOn P k → WaitsOn k.uses k.waits
  waits_of k h = record { tokens = h.tokens; waits = h.waits; outside = h.outside }

  pub joined_sites : (k : KernelState) (attempt : Attempt) (token : ℕ) (passed : List Trigger) → IsIdleWalker k attempt.walker → All P passed → AreOn P k → AreOn P (with_joined attempt token passed k)
  joined_sites k attempt token passed free own h =
      let w = joined_by_cases (token_of k.waits.tokens token) token attempt.walker k.uses k.waits refl free.uses (waits_of k h) in
      record { tokens = w.tokens; waits = w.waits; used = all_used_on passed attempt.moment k.triggers.uses own h.used; outside = w.outside; attaches = h.attaches }

  pub notified_sites : (k : KernelState) (attempt : Attempt) (trigger : Trigger) (attach : ℕ) (passed : List Trigger) → IsIdleWalker k attempt.walker → P trigger → All P passed → AreOn P k → AreOn P (with_notified attempt trigger attach passed k)
  notified_sites k attempt trigger attach passed free own all h =
      let w = opened_on trigger Missing attempt.walker k.uses k.waits own free.uses (waits_of k h) in
      record {
        tokens = w.tokens;
        waits = w.waits;
        used = used_on trigger attempt.moment (all_used_in passed attempt.moment k.triggers.uses) own (all_used_on passed attempt.moment k.triggers.uses all h.used);
        outside = w.outside;
        attaches = h.attaches;
      }

  pub expiring_sites : (k : KernelState) (walker : ℕ) (trigger : Trigger) (attach : ℕ) → mount_of_walker k.uses walker ≡ None → P trigger → AreOn P k → AreOn P (with_expiring walker trigger attach k)
  expiring_sites k walker trigger attach out own h =
      let w = opened_on trigger Expire walker k.uses k.waits own out (waits_of k h) in
      record { tokens = w.tokens; waits = w.waits; used = h.used; outside = w.outside; attaches = h.attaches }

  pub closed_sites : (fs : ℕ) (k : KernelState) → AreOn P k → AreOn P (made_catatonic fs k)
  closed_sites fs k h = record {
    tokens = All-filter (λ (row : OpenToken). not (row.trigger.fs == fs)) OnToken k.waits.tokens h.tokens;
    waits = mapped_on (failed_row fs) k.waits.waits (λ row. failed_trigger (row.trigger.fs == fs && is_none row.status) row _) h.waits;
    used = h.used;
    outside = mapped_outside k.uses (failed_row fs) k.waits.waits (λ row. failed_walker (row.trigger.fs == fs && is_none row.status) row _) h.outside;
    attaches = h.attaches;
  }

  pub acknowledged_sites : (token : ℕ) (status : Status) (k : KernelState) → AreOn P k → AreOn P (acknowledged token status k)
  acknowledged_sites token status k h = record {
    tokens = All-filter (λ (row : OpenToken). not (row.token == token)) OnToken k.waits.tokens h.tokens;
    waits = mapped_on (released_row token status) k.waits.waits (λ row. failed_trigger (row.token == token) row _) h.waits;
    used = h.used;
    outside = mapped_outside k.uses (released_row token status) k.waits.waits (λ row. failed_walker (row.token == token) row _) h.outside;
    attaches = h.attaches;
  }

  pub left_sites : (walker : ℕ) (k : KernelState) → AreOn P k → AreOn P (without_use walker k)
  left_sites walker k h = record { tokens = h.tokens; waits = h.waits; used = h.used; outside = left_outside walker k.uses k.waits.waits h.outside; attaches = h.attaches }

  freed_sites : (walker : ℕ) (k : KernelState) → AreOn P k → AreOn P (wait_collected walker k)
  freed_sites walker k h = record {
    tokens = h.tokens;
    waits = All-filter (λ (row : WaitRow). not (row.walker == walker)) OnWait k.waits.waits h.waits;
    used = h.used;
    outside = All-filter (λ (row : WaitRow). not (row.walker == walker)) (IsOutside k.uses) k.waits.waits h.outside;
    attaches = h.attaches;
  }

  pub freed_from_sites : (kind : TokenKind) (wait : WaitRow) (moment : ℕ) (k : KernelState) → P wait.trigger → AreOn P k → AreOn P (wait_collected_from kind wait moment k)
  freed_from_sites Missing wait moment k own h = freed_sites wait.walker k h
  freed_from_sites Expire wait moment k own h =
      let f = freed_sites wait.walker k h in
      record { tokens = f.tokens; waits = f.waits; used = used_on wait.trigger moment k.triggers.uses own f.used; outside = f.outside; attaches = f.attaches }

-- what is said of triggers changes
pub sites_weaker : (P Q : Trigger → Type 0) (k : KernelState) → ((g : Trigger) → P g → Q g) → AreOn P k → AreOn Q k
sites_weaker P Q k more h = record {
  tokens = All-weaker (λ (row : OpenToken). P row.trigger) (λ (row : OpenToken). Q row.trigger) (λ row own. more row.trigger own) k.waits.tokens h.tokens;
  waits = All-weaker (λ (row : WaitRow). P row.trigger) (λ (row : WaitRow). Q row.trigger) (λ row own. more row.trigger own) k.waits.waits h.waits;
  used = All-weaker (λ (row : Trigger × ℕ). P row.0) (λ (row : Trigger × ℕ). Q row.0) (λ row own. more row.0 own) k.triggers.uses h.used;
  outside = h.outside;
  attaches = h.attaches;
}
