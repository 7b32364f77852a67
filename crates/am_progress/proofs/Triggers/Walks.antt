-- A walk meets triggers of autofs that are there.
use Rattle.std.proofs.Common.{◌≡◌, ◌∷◌, ◌++◌, ◌+◌, ◌||◌, ℕ, zero, suc, Bool, true, false, cond, List, [], length, reverse, Option, Some, None, refl, sym, ap, subst, ◌∙◌}
use Rattle.std.specs.Prelude.{◌==◌, is_some, if◌then◌else◌}
use Rattle.std.specs.Option.{option_map, option_and_then}
use Rattle.std.specs.List.{All}
use Rattle.std.proofs.lemmas.List.Elements.{All-nil, All-push, All-weaker}
use Rattle.am_names.specs.declared.fail_no.FailNo.{FailNo}
use Rattle.am_names.specs.declared.errno.Errno.TheVariants.{ENOENT, ELOOP}
use Rattle.am_names.specs.declared.trigger.Trigger.{Trigger}
use Rattle.am_names.specs.{OpenToken, MountRow}
use Rattle.am_names.specs.declared.row.TokenKind.TheVariants.{Missing, Expire}
use Rattle.am_names.proofs.Basics.{equal_by_test, found_passes}
use Rattle.am_mount.specs.{top_of, root_of, mount_row}
use Rattle.am_trigger.specs.{Autofs, TriggerRows, is_made, autofs_of, trigger_in, place_of}
use Rattle.am_wait.specs.{open_on}
use Rattle.am_walk.specs.{Next, Stop, autofs_at, has_names, if_open, if_mounted, if_failing, if_entered, at_directory, at_trap, at_trigger, at_plain, at_autofs, at_site, next_at, Visit, Stands, Stops, followed, settled_within, settled, onward, after, visit_from, visit_of, Walked, ended, walk_of}
use Rattle.am_walk.specs.declared.stop.Next.TheVariants as nexts
use Rattle.am_walk.specs.declared.stop.Stop.TheVariants as stops
use Rattle.am_walk.specs.Scene.{Scene}
use Rattle.am_kernel.specs.{is_trigger_of}

-- the trigger is one of an autofs that is there
abbrev pub IsSite : TriggerRows → Trigger → Type 0
IsSite t g = is_trigger_of (autofs_of t g.fs) g ≡ true

abbrev pub IsSiteStop : TriggerRows → Stop → Type 0
IsSiteStop t (stops.Arrive at) = Unit {0}
IsSiteStop t (stops.Block token) = Unit {0}
IsSiteStop t (stops.Missing trigger) = IsSite t trigger
IsSiteStop t (stops.Refuse errno) = Unit {0}

-- the triggers that the walk passes, and the one at which it stops, are there
pub record MeetsSites (t : TriggerRows) (walk : Walked) : Type 0 where
  pub passes : All (IsSite t) walk.passed
  pub stops : IsSiteStop t walk.stop

-- ---- at a place

abbrev IsSiteNext : TriggerRows → Next → Type 0
IsSiteNext t nexts.Rests = Unit {0}
IsSiteNext t (nexts.Halts stop) = IsSiteStop t stop
IsSiteNext t (nexts.Enters below) = Unit {0}
IsSiteNext t (nexts.Passes below trigger) = IsSite t trigger

abbrev IsSiteIfAny : TriggerRows → Option Trigger → Type 0
IsSiteIfAny t None = Unit {0}
IsSiteIfAny t (Some trigger) = IsSite t trigger

direct_site : (t : TriggerRows) (row : Autofs) (b : Bool) → row.direct ≡ b → autofs_of t row.fs ≡ Some row → IsSiteIfAny t (if b then Some (record { fs = row.fs; name = None }) else None)
direct_site t row true d is = ap (λ (o : Option Autofs). is_trigger_of o (record { fs = row.fs; name = None })) is ∙ ap (λ (b : Bool). if b then true else false) d
direct_site t row false d is = tt

indirect_site : (t : TriggerRows) (row : Autofs) (name : List ℕ) (b : Bool) → row.direct ≡ b → autofs_of t row.fs ≡ Some row → IsSiteIfAny t (if b then None else Some (record { fs = row.fs; name = Some name }))
indirect_site t row name true d is = tt
indirect_site t row name false d is = ap (λ (o : Option Autofs). is_trigger_of o (record { fs = row.fs; name = Some name })) is ∙ ap (λ (b : Bool). if b then false else true) d

in_site : (t : TriggerRows) (row : Autofs) (place : List (List ℕ)) → autofs_of t row.fs ≡ Some row → IsSiteIfAny t (trigger_in row place)
in_site t row [] is = direct_site t row row.direct refl is
in_site t row (name ∷ []) is = indirect_site t row name row.direct refl is
in_site t row (name ∷ below ∷ names) is = tt

-- an autofs that is found by a number has it
pub found_itself : (t : TriggerRows) (fs : ℕ) (row : Autofs) → autofs_of t fs ≡ Some row → autofs_of t row.fs ≡ Some row
found_itself t fs row is = subst (λ (n : ℕ). autofs_of t n ≡ Some row) (sym (equal_by_test row.fs fs (found_passes (λ (r : Autofs). r.fs == fs) t.autofs row is))) is

found_by_its_own_number : (t : TriggerRows) (o : Option ℕ) (row : Autofs) → option_and_then (λ fs. autofs_of t fs) o ≡ Some row → autofs_of t row.fs ≡ Some row
found_by_its_own_number t None row is = absurd cc
found_by_its_own_number t (Some fs) row is = found_itself t fs row is

open_site : (t : TriggerRows) (o : Option ℕ) (others : Next) → IsSiteNext t others → IsSiteNext t (if_open o others)
open_site t (Some token) others h = tt
open_site t None others h = h

mounted_site : (t : TriggerRows) (trigger : Trigger) (o : Option ℕ) (others : Next) → IsSite t trigger → IsSiteNext t others → IsSiteNext t (if_mounted o trigger others)
mounted_site t trigger (Some mount) others own h = own
mounted_site t trigger None others own h = h

failing_site : (t : TriggerRows) (error : Option FailNo) (others : Next) → IsSiteNext t others → IsSiteNext t (if_failing error others)
failing_site t (Some error) others h = tt
failing_site t None others h = h

entered_site : (t : TriggerRows) (o : Option ℕ) (others : Next) → IsSiteNext t others → IsSiteNext t (if_entered o others)
entered_site t (Some mount) others h = tt
entered_site t None others h = h

either_site : (t : TriggerRows) (b : Bool) (one other : Next) → IsSiteNext t one → IsSiteNext t other → IsSiteNext t (cond b one other)
either_site t true one other h g = h
either_site t false one other h g = g

module _ (scene : Scene) where
  directory_site : (row : Autofs) (trigger : Trigger) → IsSiteNext scene.triggers (at_directory scene row trigger)
  directory_site row trigger = either_site scene.triggers (row.direct || is_made scene.triggers trigger) nexts.Rests (nexts.Halts (stops.Refuse ENOENT)) tt tt

  trap_site : (tokens : List OpenToken) (row : Autofs) (trigger : Trigger) (mount : ℕ) (place : List (List ℕ)) → IsSite scene.triggers trigger → IsSiteNext scene.triggers (at_trap tokens scene row trigger mount place)
  trap_site tokens row trigger mount place own =
      open_site scene.triggers (open_on tokens Expire trigger) _
      (open_site scene.triggers (open_on tokens Missing trigger) _
      (mounted_site scene.triggers trigger (top_of scene.mounts mount place) _ own
      (either_site scene.triggers row.catatonic (at_directory scene row trigger) _ (directory_site row trigger)
      (either_site scene.triggers (is_some (top_of scene.mounts row.location (place_of trigger))) (nexts.Halts (stops.Refuse ELOOP)) _ tt
      (failing_site scene.triggers (scene.failing trigger) (nexts.Halts (stops.Missing trigger)) own)))))

  trigger_site : (tokens : Option (List OpenToken)) (row : Autofs) (trigger : Trigger) (mount : ℕ) (place : List (List ℕ)) → IsSite scene.triggers trigger → IsSiteNext scene.triggers (at_trigger tokens scene row trigger mount place)
  trigger_site (Some tokens) row trigger mount place own = trap_site tokens row trigger mount place own
  trigger_site None row trigger mount place own = entered_site scene.triggers (top_of scene.mounts mount place) (at_directory scene row trigger) (directory_site row trigger)

  plain_site : (mount : ℕ) (place : List (List ℕ)) → IsSiteNext scene.triggers (at_plain scene mount place)
  plain_site mount place = entered_site scene.triggers (top_of scene.mounts mount place) nexts.Rests tt

  autofs_site : (row : Autofs) (trigger : Option Trigger) (mount : ℕ) (place : List (List ℕ)) → IsSiteIfAny scene.triggers trigger → IsSiteNext scene.triggers (at_autofs scene row trigger mount place)
  autofs_site row None mount place own = plain_site mount place
  autofs_site row (Some trigger) mount place own = trigger_site scene.tokens row trigger mount place own

  site_site : (row : Option Autofs) (mount : ℕ) (place : List (List ℕ)) → ((a : Autofs) → row ≡ Some a → autofs_of scene.triggers a.fs ≡ Some a) → IsSiteNext scene.triggers (at_site scene row mount place)
  site_site None mount place is = plain_site mount place
  site_site (Some row) mount place is = autofs_site row (trigger_in row place) mount place (in_site scene.triggers row place (is row refl))

  here_site : (mount : ℕ) (place : List (List ℕ)) → IsSiteNext scene.triggers (next_at scene mount place)
  here_site mount place =
      site_site (autofs_at scene mount) mount place (λ a is. found_by_its_own_number scene.triggers (option_map (λ (row : MountRow). row.fs) (mount_row scene.mounts mount)) a is)

  -- ---- after steps and names

  abbrev GoesBySites : Visit → Type 0
  GoesBySites (Stands mount place passed) = All (IsSite scene.triggers) passed
  GoesBySites (Stops stop passed) = All (IsSite scene.triggers) passed × IsSiteStop scene.triggers stop

  followed_site : (next : Next) (mount : ℕ) (place : List (List ℕ)) (passed : List Trigger) (enter : ℕ → List Trigger → Visit) → IsSiteNext scene.triggers next → All (IsSite scene.triggers) passed →
      ((m : ℕ) (gs : List Trigger) → All (IsSite scene.triggers) gs → GoesBySites (enter m gs)) → GoesBySites (followed next mount place passed enter)
  followed_site nexts.Rests mount place passed enter h all later = all
  followed_site (nexts.Halts stop) mount place passed enter h all later = (all, h)
  followed_site (nexts.Enters below) mount place passed enter h all later = later below passed all
  followed_site (nexts.Passes below trigger) mount place passed enter h all later = later below (passed ++ trigger ∷ []) (All-push (IsSite scene.triggers) passed trigger all h)

  settled_site : (steps mount : ℕ) (place : List (List ℕ)) (passed : List Trigger) → All (IsSite scene.triggers) passed → GoesBySites (settled_within steps scene mount place passed)
  settled_site zero mount place passed all = all
  settled_site (suc steps) mount place passed all =
      followed_site (next_at scene mount place) mount place passed (λ m gs. settled_within steps scene m [] gs) (here_site mount place) all
      (λ m gs h. settled_site steps m [] gs h)

  below_site : (b : Bool) (mount : ℕ) (place : List (List ℕ)) (passed : List Trigger) → All (IsSite scene.triggers) passed → GoesBySites (cond b (settled scene mount place passed) (Stops (stops.Refuse ENOENT) passed))
  below_site true mount place passed all = settled_site (length scene.mounts + 1) mount place passed all
  below_site false mount place passed all = (all, tt)

  onward_site : (name : List ℕ) (visit : Visit) → GoesBySites visit → GoesBySites (onward scene name visit)
  onward_site name (Stops stop passed) h = h
  onward_site name (Stands mount place passed) h = below_site (has_names (autofs_at scene mount) place) mount (place ++ name ∷ []) passed h

  after_site : (root : ℕ) (names : List (List ℕ)) → GoesBySites (after scene root names)
  after_site root [] = settled_site (length scene.mounts + 1) root [] [] (All-nil (IsSite scene.triggers))
  after_site root (name ∷ earlier) = onward_site name (after scene root earlier) (after_site root earlier)

  from_site : (names : List (List ℕ)) (root : Option ℕ) → GoesBySites (visit_from scene names root)
  from_site names None = (All-nil (IsSite scene.triggers), tt)
  from_site names (Some root) = after_site root (reverse names)

  ended_site : (visit : Visit) → GoesBySites visit → MeetsSites scene.triggers (ended visit)
  ended_site (Stands mount place passed) h = record { passes = h; stops = tt }
  ended_site (Stops stop passed) h = record { passes = h.0; stops = h.1 }

  pub walk_sites : (ns : ℕ) (names : List (List ℕ)) → MeetsSites scene.triggers (walk_of scene ns names)
  walk_sites ns names = ended_site (visit_of scene ns names) (from_site names (root_of scene.mounts ns))

-- ---- triggers that stay there

stop_weaker : (t made : TriggerRows) → ((g : Trigger) → IsSite t g → IsSite made g) → (stop : Stop) → IsSiteStop t stop → IsSiteStop made stop
stop_weaker t made more (stops.Arrive at) h = tt
stop_weaker t made more (stops.Block token) h = tt
stop_weaker t made more (stops.Missing trigger) h = more trigger h
stop_weaker t made more (stops.Refuse errno) h = tt

pub meets_weaker : (t made : TriggerRows) (walk : Walked) → ((g : Trigger) → IsSite t g → IsSite made g) → MeetsSites t walk → MeetsSites made walk
meets_weaker t made walk more h = record {
  passes = All-weaker (IsSite t) (IsSite made) more walk.passed h.passes;
  stops = stop_weaker t made more walk.stop h.stops;
}
