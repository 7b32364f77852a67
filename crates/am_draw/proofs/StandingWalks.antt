-- What walkers do is seen of how they stand.
use Rattle.std.proofs.Common.{◌≡◌, ◌∙◌, ℕ, ◌+◌, Bool, true, false, List, [], ◌∷◌, ◌++◌, map, Option, Some, None}
use Rattle.std.proofs.Common.{refl, sym, ap, subst}
use Rattle.std.specs.Prelude.{◌==◌, ◌&&◌, ◌||◌, is_none, is_some, if◌then◌else◌}
use Rattle.std.specs.Option.{option_map}
use Rattle.std.specs.List.{list_any}
use Rattle.am_names.specs.{OpenToken, Status, TokenKind, WaitRow}
use Rattle.am_names.specs.declared.fail_no.FailNo.TheVariants.{ENOENT}
use Rattle.am_names.specs.declared.row.TokenKind.TheVariants.{Missing, Expire}
use Rattle.am_names.specs.declared.trigger.Trigger.{Trigger}
use Rattle.am_names.specs.declared.trigger.Status.TheVariants.{Fail}
use Rattle.am_names.proofs.Basics.{differ_the_other_way, equal_by_test, equal_to_itself}
use Rattle.am_state.specs.{Obs}
use Rattle.am_state.specs.declared.obs.Obs.TheVariants as seen
use Rattle.am_wait.specs.{IsSound, answered, failed_row, fs_released, is_waiting_on, joined_on}
use Rattle.am_wait.specs.{released_row, token_of, tokens_of, wait_of, waiters_of, waiting_on, with_wait}
use Rattle.am_wait.specs.{without_wait}
use Rattle.am_wait.proofs.FindLemmas.{find_map, wait_put, wait_taken}
use Rattle.am_expire.specs.{Use, entered, left, mount_of_walker}
use Rattle.am_expire.proofs.UseLemmas.{enters, leaves}
use Rattle.am_kernel.specs.{KernelState, answering, catatonic_observations, passes}
use Rattle.am_kernel.specs.{wait_collected_from}
use Rattle.am_daemon.specs.{JobPlan}
use Rattle.am_machine.specs.{FitsTrace, has, rows_of}
use Rattle.am_machine.proofs.Traces.Closing.{failures_row, is_its, its_tokens, waiters_over}
use Rattle.am_machine.proofs.Traces.Releases.{Waiter, on_token, releases_row, row_of}
use Rattle.am_machine.proofs.Traces.Walks.{frees}
use Rattle.am_machine.proofs.Tour.Walks as tour
use Rattle.am_machine.proofs.Tour.Walks.{AnyPath, IsGiven}
use Rattle.am_draw.specs.Standings.{AreApart, Standing, stands, stands_behind, stands_by, then_stands}
use Rattle.am_draw.specs.Standings.Standing.{IsInside, Rests, Waits}
use Rattle.am_draw.proofs.StandingLemmas.{failed_by_cases, is_over, released_by_cases}

-- ---- what is seen

-- triggers that are passed
pub behind_passes : (walker who : ℕ) (old : Standing) (passed : List Trigger) (later : List Obs)
    → stands_behind walker old (passes who passed ++ later) ≡ stands_behind walker old later
behind_passes walker who old [] later = refl
behind_passes walker who old (g ∷ passed) later = behind_passes walker who old passed later

-- one of these waiters is the walker
abbrev pub waits_among : ℕ → List Waiter → Bool
waits_among walker ws = list_any (λ w. w.walker == walker) ws

rests_so : (b : Bool) → (if b then Rests else Rests) ≡ Rests
rests_so true = refl
rests_so false = refl

row_by_cases : (walker : ℕ) (status : Status) (old : Standing) (ws : List Waiter) (b : Bool)
    → stands_behind walker Rests (row_of status ws) ≡ (if waits_among walker ws then Rests else Rests)
    → stands_behind walker old (row_of status ws) ≡ (if waits_among walker ws then Rests else old)
    → stands_behind walker (if b then Rests else old) (row_of status ws) ≡ (if b || waits_among walker ws then Rests else old)
row_by_cases walker status old ws true gone stays = gone ∙ rests_so (waits_among walker ws)
row_by_cases walker status old ws false gone stays = stays

-- a row of releases
behind_row : (walker : ℕ) (status : Status) (old : Standing) (ws : List Waiter)
    → stands_behind walker old (row_of status ws) ≡ (if waits_among walker ws then Rests else old)
behind_row walker status old [] = refl
behind_row walker status old (w ∷ ws) =
    row_by_cases walker status old ws (w.walker == walker) (behind_row walker status Rests ws) (behind_row walker status old ws)

among_on_token : (token walker : ℕ) (walkers : List ℕ) → waits_among walker (on_token token walkers) ≡ has walker walkers
among_on_token token walker [] = refl
among_on_token token walker (w ∷ walkers) = ap (λ (b : Bool). (w == walker) || b) (among_on_token token walker walkers)

among_both : (walker : ℕ) (xs ys : List Waiter)
    → waits_among walker (xs ++ ys) ≡ (waits_among walker xs || waits_among walker ys)
among_both walker [] ys = refl
among_both walker (x ∷ xs) ys = by (x.walker == walker) (among_both walker xs ys)
  where
    by : (b : Bool) → waits_among walker (xs ++ ys) ≡ (waits_among walker xs || waits_among walker ys)
        → (b || waits_among walker (xs ++ ys)) ≡ ((b || waits_among walker xs) || waits_among walker ys)
    by true h = refl
    by false h = h

-- ---- who is released with a file system

-- among the waiters of these tokens, where each has those that wait on it
over_by_cases : (tokens : List OpenToken) (walker : ℕ) (wait : Option WaitRow) (others : List ℕ)
    → ((token : ℕ) → has walker (waiters_of tokens token) ≡ is_waiting_on token wait)
    → waits_among walker (waiters_over tokens others) ≡ list_any (λ token. is_waiting_on token wait) others
over_by_cases tokens walker wait [] agree = refl
over_by_cases tokens walker wait (token ∷ others) agree =
    among_both walker (on_token token (waiters_of tokens token)) (waiters_over tokens others)
    ∙ ap (λ (b : Bool). b || waits_among walker (waiters_over tokens others))
    (among_on_token token walker (waiters_of tokens token) ∙ agree token)
    ∙ ap (λ (b : Bool). is_waiting_on token wait || b) (over_by_cases tokens walker wait others agree)

nowhere : (others : List ℕ) → list_any (λ token. is_waiting_on token None) others ≡ false
nowhere [] = refl
nowhere (token ∷ others) = nowhere others

either_way : (a b : ℕ) → (a == b) ≡ (b == a)
either_way a b = by (a == b) refl
  where
    by : (t : Bool) → (a == b) ≡ t → t ≡ (b == a)
    by true e = sym (subst (λ (n : ℕ). (n == a) ≡ true) (equal_by_test a b e) (equal_to_itself a))
    by false e = sym (differ_the_other_way a b e)

no_more : (b : Bool) → false ≡ (b && false)
no_more true = refl
no_more false = refl

those_on : (row : WaitRow) (others : List ℕ)
    → list_any (λ token. is_waiting_on token (Some row)) others ≡ (has row.token others && is_none row.status)
those_on row [] = refl
those_on row (token ∷ others) = by (row.token == token) (is_none row.status) (either_way row.token token) (those_on row others)
  where
    by : (b none : Bool) → b ≡ (token == row.token)
        → list_any (λ token. is_waiting_on token (Some row)) others ≡ (has row.token others && none)
        → ((b && none) || list_any (λ token. is_waiting_on token (Some row)) others) ≡ (((token == row.token) || has row.token others) && none)
    by true true e h = rw (sym e) refl
    by true false e h = rw (sym e) (h ∙ sym (no_more (has row.token others)))
    by false none e h = rw (sym e) h

over_some : (fs : ℕ) (k : KernelState) (walker : ℕ) (row : WaitRow) (status : Option Status) → IsSound k.waits
    → wait_of k.waits.waits walker ≡ Some row → row.status ≡ status
    → (has row.token (tokens_of k.waits.tokens fs) && is_none row.status) ≡ (row.trigger.fs == fs && is_none row.status)
over_some fs k walker row (Some status) sound is e = rw e (neither (has row.token (tokens_of k.waits.tokens fs)) (row.trigger.fs == fs))
  where
    neither : (a b : Bool) → (a && false) ≡ (b && false)
    neither true true = refl
    neither true false = refl
    neither false true = refl
    neither false false = refl
over_some fs k walker row None sound is e =
    let its = sound.same walker row is e in
    ap (λ (b : Bool). b && is_none row.status)
    (its_tokens fs row.token 0 k.waits.tokens sound.tokens ∙ ap (is_its fs) its.1 ∙ ap (λ (t : Trigger). t.fs == fs) its.2)

over_has : (fs : ℕ) (k : KernelState) (walker : ℕ) → IsSound k.waits
    → waits_among walker (waiters_over k.waits.tokens (tokens_of k.waits.tokens fs)) ≡ is_over fs (wait_of k.waits.waits walker)
over_has fs k walker sound =
    over_by_cases k.waits.tokens walker (wait_of k.waits.waits walker) (tokens_of k.waits.tokens fs) (λ token. sound.agree token walker)
    ∙ by (wait_of k.waits.waits walker) refl
  where
    by : (wait : Option WaitRow) → wait_of k.waits.waits walker ≡ wait
        → list_any (λ token. is_waiting_on token wait) (tokens_of k.waits.tokens fs) ≡ is_over fs wait
    by None is = nowhere (tokens_of k.waits.tokens fs)
    by (Some row) is = those_on row (tokens_of k.waits.tokens fs) ∙ over_some fs k walker row row.status sound is refl

-- ---- what comes of it

-- it is seen of each walker how it stands, and those that wait are outside of mounts
pub record IsSeen (waits : List WaitRow) (uses : List Use) (shown : List Obs) (new : List WaitRow) (now : List Use) : Type 0 where
  pub apart : AreApart new now
  pub tells : (walker : ℕ) → stands_behind walker (stands walker waits uses) shown ≡ stands walker new now

abbrev pub SeenBy : KernelState → List Obs → KernelState → Type 0
SeenBy k shown made =
    (jobs : List JobPlan) (trace : List Obs) → FitsTrace (rows_of k jobs) trace → AreApart k.waits.waits k.uses
    → IsSeen k.waits.waits k.uses shown made.waits.waits made.uses

-- a walker that is free enters a mount
enters_one : (waits : List WaitRow) (uses : List Use) (who mount : ℕ) (passed : List Trigger)
    → wait_of waits who ≡ None → mount_of_walker uses who ≡ None → AreApart waits uses
    → IsSeen waits uses (passes who passed ++ seen.Entered who mount ∷ []) waits (entered who mount uses)
enters_one waits uses who mount passed idle outside apart =
    let inside = enters uses (record { walker = who; mount = mount }) outside in
    record {
      apart = λ walker is. ap (λ (o : Option ℕ). is_some o) (inside walker) ∙ away walker (who == walker) refl is;
      tells = λ walker.
          behind_passes walker who (stands walker waits uses) passed (seen.Entered who mount ∷ [])
          ∙ comes walker (who == walker)
          ∙ ap (λ (o : Option ℕ). stands_by (is_some o) (wait_of waits walker)) (sym (inside walker));
    }
  where
    away : (walker : ℕ) (b : Bool) → (who == walker) ≡ b → is_some (wait_of waits walker) ≡ true
        → is_some (if b then Some mount else mount_of_walker uses walker) ≡ false
    away walker true e is =
        let none : is_some (wait_of waits walker) ≡ false = ap (λ (o : Option WaitRow). is_some o) (subst (λ (n : ℕ). wait_of waits n ≡ None) (equal_by_test who walker e) idle) in
        absurd cc
    away walker false e is = apart walker is

    comes : (walker : ℕ) (b : Bool) → (if b then IsInside else stands walker waits uses)
        ≡ stands_by (is_some (if b then Some mount else mount_of_walker uses walker)) (wait_of waits walker)
    comes walker true = refl
    comes walker false = refl

-- a walker that is inside no mount begins to wait
waits_one : (waits : List WaitRow) (uses : List Use) (who token : ℕ) (row : WaitRow) (shown : List Obs)
    → row.walker ≡ who → row.status ≡ None → mount_of_walker uses who ≡ None
    → ((walker : ℕ) (old : Standing) → stands_behind walker old shown ≡ (if who == walker then Waits else old))
    → AreApart waits uses → IsSeen waits uses shown (with_wait row waits) uses
waits_one waits uses who token row shown same none outside is_shown apart =
    record {
      apart = λ walker is. away walker (row.walker == walker) refl is;
      tells = λ walker. is_shown walker (stands walker waits uses)
          ∙ subst (λ (n : ℕ). (if n == walker then Waits else stands walker waits uses) ≡ stands walker (with_wait row waits) uses) same
          (comes walker (row.walker == walker) refl);
    }
  where
    there : (walker : ℕ) → (row.walker == walker) ≡ true → mount_of_walker uses walker ≡ None
    there walker e = subst (λ (n : ℕ). mount_of_walker uses n ≡ None) (sym same ∙ equal_by_test row.walker walker e) outside

    away : (walker : ℕ) (b : Bool) → (row.walker == walker) ≡ b → is_some (wait_of (with_wait row waits) walker) ≡ true
        → is_some (mount_of_walker uses walker) ≡ false
    away walker true e is = ap (λ (o : Option ℕ). is_some o) (there walker e)
    away walker false e is = apart walker (ap (λ (o : Option WaitRow). is_some o) (sym (wait_put row waits walker false e)) ∙ is)

    comes : (walker : ℕ) (b : Bool) → (row.walker == walker) ≡ b
        → (if b then Waits else stands walker waits uses) ≡ stands walker (with_wait row waits) uses
    comes walker true e =
        sym (ap (λ (o : Option ℕ). stands_by (is_some o) (wait_of (with_wait row waits) walker)) (there walker e)
        ∙ ap (λ (o : Option WaitRow). stands_by false o) (wait_put row waits walker true e)
        ∙ ap (λ (o : Option Status). if is_none o then Waits else Rests) none)
    comes walker false e = sym (ap (λ (o : Option WaitRow). stands_by (is_some (mount_of_walker uses walker)) o) (wait_put row waits walker false e))

joins : (k : KernelState) (found : Option OpenToken) (token who : ℕ) (passed : List Trigger) → token_of k.waits.tokens token ≡ found
    → is_some found ≡ true → mount_of_walker k.uses who ≡ None → AreApart k.waits.waits k.uses
    → IsSeen k.waits.waits k.uses (passes who passed ++ seen.Waits who token ∷ []) (joined_on found token who k.waits).waits k.uses
joins k None token who passed is found outside apart = absurd cc
joins k (Some row) token who passed is found outside apart =
    waits_one k.waits.waits k.uses who token (waiting_on token row.trigger row.kind who) _ refl refl outside
    (λ walker old. behind_passes walker who old passed (seen.Waits who token ∷ [])) apart

-- a wait that has its status is collected
collects : (waits : List WaitRow) (uses : List Use) (wait : WaitRow) (status : Status) → wait_of waits wait.walker ≡ Some wait
    → wait.status ≡ Some status → mount_of_walker uses wait.walker ≡ None → AreApart waits uses
    → IsSeen waits uses [] (without_wait wait.walker waits) uses
collects waits uses wait status is given outside apart =
    record {
      apart = λ walker there. away walker (wait.walker == walker) refl there;
      tells = λ walker. comes walker (wait.walker == walker) refl;
    }
  where
    away : (walker : ℕ) (b : Bool) → (wait.walker == walker) ≡ b → is_some (wait_of (without_wait wait.walker waits) walker) ≡ true
        → is_some (mount_of_walker uses walker) ≡ false
    away walker true e there =
        let none : is_some (wait_of (without_wait wait.walker waits) walker) ≡ false = ap (λ (o : Option WaitRow). is_some o) (wait_taken wait.walker waits walker true e) in
        absurd cc
    away walker false e there = apart walker (ap (λ (o : Option WaitRow). is_some o) (sym (wait_taken wait.walker waits walker false e)) ∙ there)

    comes : (walker : ℕ) (b : Bool) → (wait.walker == walker) ≡ b → stands walker waits uses ≡ stands walker (without_wait wait.walker waits) uses
    comes walker true e =
        let same = equal_by_test wait.walker walker e in
        let free : mount_of_walker uses walker ≡ None = subst (λ (n : ℕ). mount_of_walker uses n ≡ None) same outside in
        let its : wait_of waits walker ≡ Some wait = subst (λ (n : ℕ). wait_of waits n ≡ Some wait) same is in
        ap (λ (o : Option ℕ). stands_by (is_some o) (wait_of waits walker)) free
        ∙ ap (λ (o : Option WaitRow). stands_by false o) its
        ∙ ap (λ (o : Option Status). if is_none o then Waits else Rests) given
        ∙ sym (ap (λ (o : Option ℕ). stands_by (is_some o) (wait_of (without_wait wait.walker waits) walker)) free
        ∙ ap (λ (o : Option WaitRow). stands_by false o) (wait_taken wait.walker waits walker true e))
    comes walker false e = ap (λ (o : Option WaitRow). stands_by (is_some (mount_of_walker uses walker)) o) (sym (wait_taken wait.walker waits walker false e))

-- ---- tokens are closed

released_walker : (token : ℕ) (status : Status) (row : WaitRow) → (released_row token status row).walker ≡ row.walker
released_walker token status row = by (row.token == token)
  where
    by : (b : Bool) → (if b then record row { status = Some status } else row).walker ≡ row.walker
    by true = refl
    by false = refl

failed_walker : (fs : ℕ) (row : WaitRow) → (failed_row fs row).walker ≡ row.walker
failed_walker fs row = by (row.trigger.fs == fs && is_none row.status)
  where
    by : (b : Bool) → (if b then record row { status = Some (Fail ENOENT) } else row).walker ≡ row.walker
    by true = refl
    by false = refl

still_there : (f : WaitRow → WaitRow) (o : Option WaitRow) → is_some (option_map f o) ≡ is_some o
still_there f None = refl
still_there f (Some row) = refl

-- waits keep their walkers, and those among these are released
closes_by : (k : KernelState) (f : WaitRow → WaitRow) (cause : Obs) (status : Status) (ws : List Waiter)
    → ((row : WaitRow) → (f row).walker ≡ row.walker)
    → ((walker : ℕ) (old : Standing) → then_stands walker old cause ≡ old)
    → ((walker : ℕ) (inside : Bool) → (is_some (wait_of k.waits.waits walker) ≡ true → inside ≡ false)
    → (if waits_among walker ws then Rests else stands_by inside (wait_of k.waits.waits walker)) ≡ stands_by inside (option_map f (wait_of k.waits.waits walker)))
    → AreApart k.waits.waits k.uses
    → IsSeen k.waits.waits k.uses (cause ∷ row_of status ws) (map f k.waits.waits) k.uses
closes_by k f cause status ws same quiet each apart =
    record {
      apart = λ walker is. apart walker (sym (still_there f (wait_of k.waits.waits walker)) ∙ ap (λ (o : Option WaitRow). is_some o) (sym (found walker)) ∙ is);
      tells = λ walker.
          ap (λ (s : Standing). stands_behind walker s (row_of status ws)) (quiet walker (stands walker k.waits.waits k.uses))
          ∙ behind_row walker status (stands walker k.waits.waits k.uses) ws
          ∙ each walker (is_some (mount_of_walker k.uses walker)) (apart walker)
          ∙ ap (λ (o : Option WaitRow). stands_by (is_some (mount_of_walker k.uses walker)) o) (sym (found walker));
    }
  where
    found : (walker : ℕ) → wait_of (map f k.waits.waits) walker ≡ option_map f (wait_of k.waits.waits walker)
    found walker = find_map (λ (r : WaitRow). r.walker == walker) f (λ r. ap (λ (n : ℕ). n == walker) (same r)) k.waits.waits

pub answers : (k : KernelState) (token : ℕ) (status : Status) → IsSound k.waits → AreApart k.waits.waits k.uses
    → IsSeen k.waits.waits k.uses (answering token status k) (answered token status k.waits).waits k.uses
answers k token status sound apart =
    let walkers = waiters_of k.waits.tokens token in
    let shown : answering token status k ≡ seen.Answered token status ∷ row_of status (on_token token walkers) = ap (λ (more : List Obs). seen.Answered token status ∷ more) (releases_row token status walkers) in
    subst (λ (more : List Obs). IsSeen k.waits.waits k.uses more (answered token status k.waits).waits k.uses) (sym shown)
    (closes_by k (released_row token status) (seen.Answered token status) status (on_token token walkers) (released_walker token status) (λ walker old. refl)
    (λ walker inside out. released_by_cases token status (wait_of k.waits.waits walker) inside _ (among_on_token token walker walkers ∙ sound.agree token walker) out)
    apart)

pub fails : (k : KernelState) (fs : ℕ) → IsSound k.waits → AreApart k.waits.waits k.uses
    → IsSeen k.waits.waits k.uses (catatonic_observations fs k) (fs_released fs k.waits).waits k.uses
fails k fs sound apart =
    let ws = waiters_over k.waits.tokens (tokens_of k.waits.tokens fs) in
    let shown : catatonic_observations fs k ≡ seen.Catatonic fs ∷ row_of (Fail ENOENT) ws = ap (λ (more : List Obs). seen.Catatonic fs ∷ more) (failures_row k (tokens_of k.waits.tokens fs)) in
    subst (λ (more : List Obs). IsSeen k.waits.waits k.uses more (fs_released fs k.waits).waits k.uses) (sym shown)
    (closes_by k (failed_row fs) (seen.Catatonic fs) (Fail ENOENT) ws (failed_walker fs) (λ walker old. refl)
    (λ walker inside out. failed_by_cases fs (wait_of k.waits.waits walker) inside _ (over_has fs k walker sound) out)
    apart)

-- a walker leaves its mount
pub leaves_one : (waits : List WaitRow) (uses : List Use) (who mount : ℕ) → mount_of_walker uses who ≡ Some mount → AreApart waits uses
    → IsSeen waits uses (seen.Left who mount ∷ []) waits (left who uses)
leaves_one waits uses who mount is apart =
    record {
      apart = λ walker there. ap (λ (o : Option ℕ). is_some o) (leaves uses who walker) ∙ away walker (who == walker) there;
      tells = λ walker. comes walker (who == walker) refl
          ∙ ap (λ (o : Option ℕ). stands_by (is_some o) (wait_of waits walker)) (sym (leaves uses who walker));
    }
  where
    away : (walker : ℕ) (b : Bool) → is_some (wait_of waits walker) ≡ true → is_some (if b then None else mount_of_walker uses walker) ≡ false
    away walker true there = refl
    away walker false there = apart walker there

    rests : (walker : ℕ) (wait : Option WaitRow) → wait_of waits walker ≡ wait → is_some (mount_of_walker uses walker) ≡ true → Rests ≡ stands_by false wait
    rests walker None e inside = refl
    rests walker (Some row) e inside =
        let outside : is_some (mount_of_walker uses walker) ≡ false = apart walker (ap (λ (o : Option WaitRow). is_some o) e) in
        absurd cc

    comes : (walker : ℕ) (b : Bool) → (who == walker) ≡ b → (if b then Rests else stands walker waits uses)
        ≡ stands_by (is_some (if b then None else mount_of_walker uses walker)) (wait_of waits walker)
    comes walker true e =
        rests walker (wait_of waits walker) refl
        (ap (λ (o : Option ℕ). is_some o) (subst (λ (n : ℕ). mount_of_walker uses n ≡ Some mount) (equal_by_test who walker e) is))
    comes walker false e = refl

-- ---- what walkers do

-- one thing was seen, and then another
both_seen : (walker : ℕ) (old : Standing) (xs ys : List Obs) → stands_behind walker old (xs ++ ys) ≡ stands_behind walker (stands_behind walker old xs) ys
both_seen walker old [] ys = refl
both_seen walker old (x ∷ xs) ys = both_seen walker (then_stands walker old x) xs ys

frees_one : (kind : TokenKind) (k : KernelState) (wait : WaitRow) (status : Status) (moment : ℕ) → IsGiven k wait status → AreApart k.waits.waits k.uses
    → IsSeen k.waits.waits k.uses [] (wait_collected_from kind wait moment k).waits.waits (wait_collected_from kind wait moment k).uses
frees_one Missing k wait status moment g apart = collects k.waits.waits k.uses wait status g.waits g.given g.outside apart
frees_one Expire k wait status moment g apart = collects k.waits.waits k.uses wait status g.waits g.given g.outside apart

pub walkers : tour.Keeps AnyPath SeenBy
walkers = record {
  nothing = λ k jobs trace fits apart. record { apart = apart; tells = λ walker. refl };
  arrived = λ k attempt at passed w jobs trace fits apart. enters_one k.waits.waits k.uses attempt.walker at.mount passed w.free.waits w.free.uses apart;
  joined = λ k attempt token passed w jobs trace fits apart. joins k (token_of k.waits.tokens token) token attempt.walker passed refl w.stops w.free.uses apart;
  notified = λ k attempt trigger attach passed w is jobs trace fits apart.
      waits_one k.waits.waits k.uses attempt.walker (k.waits.last_token + 1) (waiting_on (k.waits.last_token + 1) trigger Missing attempt.walker) _ refl refl w.free.uses
      (λ walker old. behind_passes walker attempt.walker old passed _) apart;
  expiring = λ k walker fs moment immediate trigger attach x jobs trace fits apart.
      waits_one k.waits.waits k.uses walker (k.waits.last_token + 1) (waiting_on (k.waits.last_token + 1) trigger Expire walker) _ refl refl x.free.uses
      (λ other old. refl) apart;
  made_catatonic = λ k fs jobs trace fits apart. fails k fs fits.sound apart;
  collected = λ k kind wait status moment shown made g later jobs trace fits apart.
      let first = frees_one kind k wait status moment g apart in
      let next = later jobs trace ((frees kind k wait status moment g).fits jobs trace fits) first.apart in
      record { apart = next.apart; tells = λ walker. ap (λ (s : Standing). stands_behind walker s shown) (first.tells walker) ∙ next.tells walker };
}
