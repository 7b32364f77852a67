-- Every walk is orderly: by what it meets at each place.
use Rattle.std.proofs.Common.{◌≡◌, ◌∷◌, ◌++◌, ◌+◌, ◌==◌, ◌||◌, ℕ, zero, suc, Bool, true, false, cond, List, [], length, reverse, Option, Some, None, refl, sym, subst}
use Rattle.std.specs.Prelude.{find, is_some, Result, Ok, Err, IfOk}
use Rattle.std.specs.List.{All}
use Rattle.std.specs.Option.{option_map}
use Rattle.std.proofs.lemmas.Bool.Decides.{Decides-eqb}
use Rattle.std.proofs.lemmas.List.Elements.{All-append, All-cons, All-nil}
use Rattle.am_names.specs.declared.errno.Errno.TheVariants.{ENOENT, ELOOP}
use Rattle.am_names.specs.declared.fail_no.FailNo.{FailNo}
use Rattle.am_names.specs.declared.trigger.Trigger.{Trigger}
use Rattle.am_names.specs.{OpenToken, TokenKind}
use Rattle.am_names.specs.declared.row.TokenKind.TheVariants.{Missing, Expire}
use Rattle.am_mount.specs.{top_of, root_of}
use Rattle.am_trigger.specs.{Autofs, is_made, trigger_in, place_of}
use Rattle.am_wait.specs.{open_on, token_of, is_open_on}
use Rattle.am_walk.specs.{Next, autofs_at, has_names, if_open, if_mounted, if_entered, at_directory, at_trap, if_failing, at_trigger, at_plain, at_autofs, at_site, next_at, Visit, Stands, Stops, followed, settled_within, settled, onward, after, visit_from, visit_of, ended, walk_of, IsIdle, StopsWell, IsOrderly}
use Rattle.am_walk.specs.declared.stop.Next.TheVariants as nexts
use Rattle.am_walk.specs.declared.stop.Stop.TheVariants as stops
use Rattle.am_walk.specs.Scene.{Scene}

-- a token that is open on a trigger is open
open_where_found : (tokens : List OpenToken) (kind : TokenKind) (trigger : Trigger) (token : ℕ) → open_on tokens kind trigger ≡ Some token → is_some (token_of tokens token) ≡ true
open_where_found [] kind trigger token h = absurd cc
open_where_found (row ∷ tokens) kind trigger token h = by_test (is_open_on kind trigger row) h (open_where_found tokens kind trigger token)
  where
    number : (b : Bool) → (row.token == token) ≡ b → is_some (token_of tokens token) ≡ true → is_some (cond b (Some row) (token_of tokens token)) ≡ true
    number true e later = refl
    number false e later = later

    by_test : (b : Bool) → option_map {T = OpenToken} (λ r. r.token) (cond b (Some row) (find (λ r. is_open_on kind trigger r) tokens)) ≡ Some token → (open_on tokens kind trigger ≡ Some token → is_some (token_of tokens token) ≡ true) → is_some (token_of (row ∷ tokens) token) ≡ true
    by_test true e later =
        let same : row.token ≡ token = cc in
        rw ((Decides-eqb row.token token).1 same) refl
    by_test false e later = number (row.token == token) refl (later e)

-- what is met is such that a walk stays orderly
abbrev pub MeetsWell : List OpenToken → Next → Type 0
MeetsWell tokens nexts.Rests = Unit {0}
MeetsWell tokens (nexts.Halts stop) = StopsWell tokens stop
MeetsWell tokens (nexts.Enters below) = Unit {0}
MeetsWell tokens (nexts.Passes below trigger) = IsIdle tokens trigger

open_well : (tokens : List OpenToken) (kind : TokenKind) (trigger : Trigger) (o : Option ℕ) (others : Next) → open_on tokens kind trigger ≡ o → (o ≡ None → MeetsWell tokens others) → MeetsWell tokens (if_open o others)
open_well tokens kind trigger (Some token) others e h = open_where_found tokens kind trigger token e
open_well tokens kind trigger None others e h = h refl

mounted_well : (tokens : List OpenToken) (trigger : Trigger) (o : Option ℕ) (others : Next) → IsIdle tokens trigger → MeetsWell tokens others → MeetsWell tokens (if_mounted o trigger others)
mounted_well tokens trigger (Some mount) others idle h = idle
mounted_well tokens trigger None others idle h = h

entered_well : (tokens : List OpenToken) (o : Option ℕ) (others : Next) → MeetsWell tokens others → MeetsWell tokens (if_entered o others)
entered_well tokens (Some mount) others h = tt
entered_well tokens None others h = h

either_well : (tokens : List OpenToken) (b : Bool) (one other : Next) → MeetsWell tokens one → MeetsWell tokens other → MeetsWell tokens (cond b one other)
either_well tokens true one other h g = h
either_well tokens false one other h g = g

directory_well : (tokens : List OpenToken) (scene : Scene) (row : Autofs) (trigger : Trigger) → MeetsWell tokens (at_directory scene row trigger)
directory_well tokens scene row trigger = either_well tokens (row.direct || is_made scene.triggers trigger) nexts.Rests (nexts.Halts (stops.Refuse ENOENT)) tt tt

failing_well : (tokens : List OpenToken) (error : Option FailNo) (others : Next) → MeetsWell tokens others → MeetsWell tokens (if_failing error others)
failing_well tokens (Some error) others h = tt
failing_well tokens None others h = h

trap_well : (tokens : List OpenToken) (scene : Scene) (row : Autofs) (trigger : Trigger) (mount : ℕ) (place : List (List ℕ)) → MeetsWell tokens (at_trap tokens scene row trigger mount place)
trap_well tokens scene row trigger mount place =
    open_well tokens Expire trigger (open_on tokens Expire trigger) _ refl (λ unexpired.
    open_well tokens Missing trigger (open_on tokens Missing trigger) _ refl (λ settled_now.
    mounted_well tokens trigger (top_of scene.mounts mount place) _ (unexpired, settled_now)
    (either_well tokens row.catatonic (at_directory scene row trigger) _ (directory_well tokens scene row trigger)
    (either_well tokens (is_some (top_of scene.mounts row.location (place_of trigger))) (nexts.Halts (stops.Refuse ELOOP)) _ tt
    (failing_well tokens (scene.failing trigger) (nexts.Halts (stops.Missing trigger)) (unexpired, settled_now))))))

module _ (tokens : List OpenToken) (scene : Scene) (on : scene.tokens ≡ Some tokens) where
  trigger_well : (row : Autofs) (trigger : Trigger) (mount : ℕ) (place : List (List ℕ)) → MeetsWell tokens (at_trigger scene.tokens scene row trigger mount place)
  trigger_well row trigger mount place = subst (λ (o : Option (List OpenToken)). MeetsWell tokens (at_trigger o scene row trigger mount place)) (sym on) (trap_well tokens scene row trigger mount place)

  plain_well : (mount : ℕ) (place : List (List ℕ)) → MeetsWell tokens (at_plain scene mount place)
  plain_well mount place = entered_well tokens (top_of scene.mounts mount place) nexts.Rests tt

  autofs_well : (row : Autofs) (trigger : Option Trigger) (mount : ℕ) (place : List (List ℕ)) → MeetsWell tokens (at_autofs scene row trigger mount place)
  autofs_well row None mount place = plain_well mount place
  autofs_well row (Some trigger) mount place = trigger_well row trigger mount place

  site_well : (row : Option Autofs) (mount : ℕ) (place : List (List ℕ)) → MeetsWell tokens (at_site scene row mount place)
  site_well None mount place = plain_well mount place
  site_well (Some row) mount place = autofs_well row (trigger_in row place) mount place

  -- ---- after steps and names

  abbrev GoesWell : Visit → Type 0
  GoesWell (Stands mount place passed) = All (IsIdle tokens) passed
  GoesWell (Stops stop passed) = All (IsIdle tokens) passed × StopsWell tokens stop

  one_more : (passed : List Trigger) (trigger : Trigger) → All (IsIdle tokens) passed → IsIdle tokens trigger → All (IsIdle tokens) (passed ++ trigger ∷ [])
  one_more passed trigger h idle = All-append (IsIdle tokens) passed (trigger ∷ []) h (All-cons (IsIdle tokens) trigger [] idle (All-nil (IsIdle tokens)))

  followed_well : (next : Next) (mount : ℕ) (place : List (List ℕ)) (passed : List Trigger) (enter : ℕ → List Trigger → Visit) → MeetsWell tokens next → All (IsIdle tokens) passed →
      ((m : ℕ) (gs : List Trigger) → All (IsIdle tokens) gs → GoesWell (enter m gs)) → GoesWell (followed next mount place passed enter)
  followed_well nexts.Rests mount place passed enter h idle later = idle
  followed_well (nexts.Halts stop) mount place passed enter h idle later = (idle, h)
  followed_well (nexts.Enters below) mount place passed enter h idle later = later below passed idle
  followed_well (nexts.Passes below trigger) mount place passed enter h idle later = later below (passed ++ trigger ∷ []) (one_more passed trigger idle h)

  settled_well : (steps mount : ℕ) (place : List (List ℕ)) (passed : List Trigger) → All (IsIdle tokens) passed → GoesWell (settled_within steps scene mount place passed)
  settled_well zero mount place passed idle = idle
  settled_well (suc steps) mount place passed idle =
      followed_well (next_at scene mount place) mount place passed (λ m gs. settled_within steps scene m [] gs) (site_well (autofs_at scene mount) mount place) idle (λ m gs h. settled_well steps m [] gs h)

  below_well : (b : Bool) (mount : ℕ) (place : List (List ℕ)) (passed : List Trigger) → All (IsIdle tokens) passed → GoesWell (cond b (settled scene mount place passed) (Stops (stops.Refuse ENOENT) passed))
  below_well true mount place passed idle = settled_well (length scene.mounts + 1) mount place passed idle
  below_well false mount place passed idle = (idle, tt)

  onward_well : (name : List ℕ) (visit : Visit) → GoesWell visit → GoesWell (onward scene name visit)
  onward_well name (Stops stop passed) h = h
  onward_well name (Stands mount place passed) h = below_well (has_names (autofs_at scene mount) place) mount (place ++ name ∷ []) passed h

  after_well : (root : ℕ) (names : List (List ℕ)) → GoesWell (after scene root names)
  after_well root [] = settled_well (length scene.mounts + 1) root [] [] (All-nil (IsIdle tokens))
  after_well root (name ∷ earlier) = onward_well name (after scene root earlier) (after_well root earlier)

  from_well : (names : List (List ℕ)) (root : Option ℕ) → GoesWell (visit_from scene names root)
  from_well names None = (All-nil (IsIdle tokens), tt)
  from_well names (Some root) = after_well root (reverse names)

  ended_well : (visit : Visit) → GoesWell visit → IsOrderly tokens (ended visit)
  ended_well (Stands mount place passed) h = record { passes = h; stops = tt }
  ended_well (Stops stop passed) h = record { passes = h.0; stops = h.1 }

  -- every walk with the traps on is orderly
  pub orderly : (ns : ℕ) (names : List (List ℕ)) → IsOrderly tokens (walk_of scene ns names)
  orderly ns names = ended_well (visit_of scene ns names) (from_well names (root_of scene.mounts ns))

-- what a call promises of its result, and what follows of it
pub if_ok : {T E : Type 0} (P Q : T → Type 0) → ((x : T) → P x → Q x) → (r : Result T E) → IfOk r P → IfOk r Q
if_ok P Q more (Ok x) h = more x h
if_ok P Q more (Err e) h = tt
