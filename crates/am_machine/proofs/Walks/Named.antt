-- A walk along names meets triggers that are named.
use Rattle.std.proofs.Common.{◌≡◌, ◌∷◌, ◌++◌, ◌+◌, ◌||◌, ◌&&◌, ℕ, zero, suc, Bool, true, false, cond, List, [], length, reverse, Option, Some, None, refl, ◌∙◌}
use Rattle.std.specs.Prelude.{is_some, if◌then◌else◌}
use mathlib.Core.List.{reverse_aux}
use Rattle.std.specs.List.{list_all, All}
use Rattle.std.proofs.lemmas.List.Elements.{All-nil, All-push}
use Rattle.std.proofs.lemmas.List.Folds.{list_all-append}
use Rattle.am_names.specs.{is_name, OpenToken}
use Rattle.am_names.specs.declared.errno.Errno.TheVariants.{ENOENT, ELOOP}
use Rattle.am_names.specs.declared.fail_no.FailNo.{FailNo}
use Rattle.am_names.specs.declared.trigger.Trigger.{Trigger}
use Rattle.am_names.specs.declared.row.TokenKind.TheVariants.{Missing, Expire}
use Rattle.am_names.proofs.Basics.{both_of_and, and_of_both}
use Rattle.am_mount.specs.{top_of, root_of}
use Rattle.am_trigger.specs.{Autofs, is_made, trigger_in, place_of}
use Rattle.am_wait.specs.{open_on}
use Rattle.am_walk.specs.{Next, Stop, autofs_at, has_names, if_open, if_mounted, if_failing, if_entered, at_directory, at_trap, at_trigger, at_plain, at_autofs, at_site, next_at, Visit, Stands, Stops, followed, settled_within, settled, onward, after, visit_from, visit_of, Walked, ended, walk_of}
use Rattle.am_walk.specs.declared.stop.Next.TheVariants as nexts
use Rattle.am_walk.specs.declared.stop.Stop.TheVariants as stops
use Rattle.am_walk.specs.Scene.{Scene}
use Rattle.am_machine.specs.{is_named}

abbrev pub IsNamed : Trigger → Type 0
IsNamed trigger = is_named trigger ≡ true

abbrev pub AreNames : List (List ℕ) → Type 0
AreNames names = list_all is_name names ≡ true

abbrev pub IsNamedStop : Stop → Type 0
IsNamedStop (stops.Arrive at) = Unit {0}
IsNamedStop (stops.Block token) = Unit {0}
IsNamedStop (stops.Missing trigger) = IsNamed trigger
IsNamedStop (stops.Refuse errno) = Unit {0}

-- the triggers that the walk passes, and the one at which it stops, are named
pub record MeetsNamed (walk : Walked) : Type 0 where
  pub passes : All IsNamed walk.passed
  pub stops : IsNamedStop walk.stop

-- ---- at a place

abbrev IsNamedNext : Next → Type 0
IsNamedNext nexts.Rests = Unit {0}
IsNamedNext (nexts.Halts stop) = IsNamedStop stop
IsNamedNext (nexts.Enters below) = Unit {0}
IsNamedNext (nexts.Passes below trigger) = IsNamed trigger

abbrev IsNamedIfAny : Option Trigger → Type 0
IsNamedIfAny None = Unit {0}
IsNamedIfAny (Some trigger) = IsNamed trigger

direct_named : (fs : ℕ) (b : Bool) → IsNamedIfAny (if b then Some (record { fs = fs; name = None }) else None)
direct_named fs true = refl
direct_named fs false = tt

indirect_named : (fs : ℕ) (name : List ℕ) (b : Bool) → is_name name ≡ true → IsNamedIfAny (if b then None else Some (record { fs = fs; name = Some name }))
indirect_named fs name true h = tt
indirect_named fs name false h = h

in_named : (row : Autofs) (place : List (List ℕ)) → AreNames place → IsNamedIfAny (trigger_in row place)
in_named row [] h = direct_named row.fs row.direct
in_named row (name ∷ []) h = indirect_named row.fs name row.direct (both_of_and (is_name name) true h).0
in_named row (name ∷ below ∷ names) h = tt

open_named : (o : Option ℕ) (others : Next) → IsNamedNext others → IsNamedNext (if_open o others)
open_named (Some token) others h = tt
open_named None others h = h

mounted_named : (trigger : Trigger) (o : Option ℕ) (others : Next) → IsNamed trigger → IsNamedNext others → IsNamedNext (if_mounted o trigger others)
mounted_named trigger (Some mount) others named h = named
mounted_named trigger None others named h = h

failing_named : (error : Option FailNo) (others : Next) → IsNamedNext others → IsNamedNext (if_failing error others)
failing_named (Some error) others h = tt
failing_named None others h = h

entered_named : (o : Option ℕ) (others : Next) → IsNamedNext others → IsNamedNext (if_entered o others)
entered_named (Some mount) others h = tt
entered_named None others h = h

either_named : (b : Bool) (one other : Next) → IsNamedNext one → IsNamedNext other → IsNamedNext (cond b one other)
either_named true one other h g = h
either_named false one other h g = g

module _ (scene : Scene) where
  directory_named : (row : Autofs) (trigger : Trigger) → IsNamedNext (at_directory scene row trigger)
  directory_named row trigger = either_named (row.direct || is_made scene.triggers trigger) nexts.Rests (nexts.Halts (stops.Refuse ENOENT)) tt tt

  trap_named : (tokens : List OpenToken) (row : Autofs) (trigger : Trigger) (mount : ℕ) (place : List (List ℕ)) → IsNamed trigger → IsNamedNext (at_trap tokens scene row trigger mount place)
  trap_named tokens row trigger mount place named =
      open_named (open_on tokens Expire trigger) _
      (open_named (open_on tokens Missing trigger) _
      (mounted_named trigger (top_of scene.mounts mount place) _ named
      (either_named row.catatonic (at_directory scene row trigger) _ (directory_named row trigger)
      (either_named (is_some (top_of scene.mounts row.location (place_of trigger))) (nexts.Halts (stops.Refuse ELOOP)) _ tt
      (failing_named (scene.failing trigger) (nexts.Halts (stops.Missing trigger)) named)))))

  trigger_named : (tokens : Option (List OpenToken)) (row : Autofs) (trigger : Trigger) (mount : ℕ) (place : List (List ℕ)) → IsNamed trigger → IsNamedNext (at_trigger tokens scene row trigger mount place)
  trigger_named (Some tokens) row trigger mount place named = trap_named tokens row trigger mount place named
  trigger_named None row trigger mount place named = entered_named (top_of scene.mounts mount place) (at_directory scene row trigger) (directory_named row trigger)

  plain_named : (mount : ℕ) (place : List (List ℕ)) → IsNamedNext (at_plain scene mount place)
  plain_named mount place = entered_named (top_of scene.mounts mount place) nexts.Rests tt

  autofs_named : (row : Autofs) (trigger : Option Trigger) (mount : ℕ) (place : List (List ℕ)) → IsNamedIfAny trigger → IsNamedNext (at_autofs scene row trigger mount place)
  autofs_named row None mount place named = plain_named mount place
  autofs_named row (Some trigger) mount place named = trigger_named scene.tokens row trigger mount place named

  site_named : (row : Option Autofs) (mount : ℕ) (place : List (List ℕ)) → AreNames place → IsNamedNext (at_site scene row mount place)
  site_named None mount place names = plain_named mount place
  site_named (Some row) mount place names = autofs_named row (trigger_in row place) mount place (in_named row place names)

  -- ---- after steps and names

  abbrev GoesNamed : Visit → Type 0
  GoesNamed (Stands mount place passed) = AreNames place × All IsNamed passed
  GoesNamed (Stops stop passed) = All IsNamed passed × IsNamedStop stop

  followed_named : (next : Next) (mount : ℕ) (place : List (List ℕ)) (passed : List Trigger) (enter : ℕ → List Trigger → Visit) → IsNamedNext next → AreNames place → All IsNamed passed →
      ((m : ℕ) (gs : List Trigger) → All IsNamed gs → GoesNamed (enter m gs)) → GoesNamed (followed next mount place passed enter)
  followed_named nexts.Rests mount place passed enter h names all later = (names, all)
  followed_named (nexts.Halts stop) mount place passed enter h names all later = (all, h)
  followed_named (nexts.Enters below) mount place passed enter h names all later = later below passed all
  followed_named (nexts.Passes below trigger) mount place passed enter h names all later = later below (passed ++ trigger ∷ []) (All-push IsNamed passed trigger all h)

  settled_named : (steps mount : ℕ) (place : List (List ℕ)) (passed : List Trigger) → AreNames place → All IsNamed passed → GoesNamed (settled_within steps scene mount place passed)
  settled_named zero mount place passed names all = (names, all)
  settled_named (suc steps) mount place passed names all =
      followed_named (next_at scene mount place) mount place passed (λ m gs. settled_within steps scene m [] gs) (site_named (autofs_at scene mount) mount place names) names all
      (λ m gs h. settled_named steps m [] gs refl h)

  below_named : (b : Bool) (mount : ℕ) (place : List (List ℕ)) (passed : List Trigger) → AreNames place → All IsNamed passed → GoesNamed (cond b (settled scene mount place passed) (Stops (stops.Refuse ENOENT) passed))
  below_named true mount place passed names all = settled_named (length scene.mounts + 1) mount place passed names all
  below_named false mount place passed names all = (all, tt)

  one_more : (place : List (List ℕ)) (name : List ℕ) → AreNames place → is_name name ≡ true → AreNames (place ++ name ∷ [])
  one_more place name names is = list_all-append is_name place (name ∷ []) ∙ and_of_both (list_all is_name place) (is_name name && true) names (and_of_both (is_name name) true is refl)

  onward_named : (name : List ℕ) (visit : Visit) → is_name name ≡ true → GoesNamed visit → GoesNamed (onward scene name visit)
  onward_named name (Stops stop passed) is h = h
  onward_named name (Stands mount place passed) is h = below_named (has_names (autofs_at scene mount) place) mount (place ++ name ∷ []) passed (one_more place name h.0 is) h.1

  after_named : (root : ℕ) (names : List (List ℕ)) → AreNames names → GoesNamed (after scene root names)
  after_named root [] h = settled_named (length scene.mounts + 1) root [] [] refl (All-nil IsNamed)
  after_named root (name ∷ earlier) h =
      let both = both_of_and (is_name name) (list_all is_name earlier) h in
      onward_named name (after scene root earlier) both.0 (after_named root earlier both.1)

  reversed : (names behind : List (List ℕ)) → AreNames names → AreNames behind → AreNames (reverse_aux names behind)
  reversed [] behind h g = g
  reversed (name ∷ names) behind h g =
      let both = both_of_and (is_name name) (list_all is_name names) h in
      reversed names (name ∷ behind) both.1 (and_of_both (is_name name) (list_all is_name behind) both.0 g)

  from_named : (names : List (List ℕ)) (root : Option ℕ) → AreNames names → GoesNamed (visit_from scene names root)
  from_named names None h = (All-nil IsNamed, tt)
  from_named names (Some root) h = after_named root (reverse names) (reversed names [] h refl)

  ended_named : (visit : Visit) → GoesNamed visit → MeetsNamed (ended visit)
  ended_named (Stands mount place passed) h = record { passes = h.1; stops = tt }
  ended_named (Stops stop passed) h = record { passes = h.0; stops = h.1 }

  pub walk_named : (ns : ℕ) (names : List (List ℕ)) → AreNames names → MeetsNamed (walk_of scene ns names)
  walk_named ns names h = ended_named (visit_of scene ns names) (from_named names (root_of scene.mounts ns) h)
