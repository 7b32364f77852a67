-- A walk goes on as long as something is in its way: as many steps as there are mounts are enough.
use Rattle.std.proofs.Common.{◌≡◌, ◌≤◌, ◌<◌, ◌+◌, ◌==◌, ◌||◌, ℕ, zero, suc, Bool, true, false, cond, List, [], ◌∷◌, ◌++◌, length, reverse, Option, Some, None, refl, subst, arith}
use Rattle.std.specs.Prelude.{filter, is_some, nat_lt, IfSome}
use Rattle.std.proofs.lemmas.Bool.Decides.{nat_tests}
use Rattle.am_names.specs.declared.errno.Errno.TheVariants.{ENOENT, ELOOP}
use Rattle.am_names.specs.declared.fail_no.FailNo.{FailNo}
use Rattle.am_names.specs.declared.trigger.Trigger.{Trigger}
use Rattle.am_names.specs.{MountRow, OpenToken}
use Rattle.am_names.specs.declared.row.TokenKind.TheVariants.{Missing, Expire}
use Rattle.am_mount.specs.{IsRising, IsTop, IsOn, mount_row, top_of, root_of}
use Rattle.am_mount.proofs.RowLemmas.{top_is, some_greatest}
use Rattle.am_trigger.specs.{Autofs, is_made, trigger_in, place_of}
use Rattle.am_wait.specs.{open_on}
use Rattle.am_walk.specs.{Next, Stop, autofs_at, has_names, if_open, if_mounted, if_entered, at_directory, at_trap, if_failing, at_trigger, at_plain, at_autofs, at_site, next_at, Visit, Stands, Stops, followed, settled_within, settled, onward, after, visit_from, visit_of, ended, walk_of, RestsAt}
use Rattle.am_walk.specs.declared.stop.Next.TheVariants as nexts
use Rattle.am_walk.specs.declared.stop.Stop.TheVariants as stops
use Rattle.am_walk.specs.Scene.{Scene}

-- ---- a mount that is entered is the top where the walk stands

-- it isn't an arrival
abbrev pub IsHalt : Stop → Type 0
IsHalt (stops.Arrive at) = ⊥
IsHalt (stops.Block token) = Unit {0}
IsHalt (stops.Missing trigger) = Unit {0}
IsHalt (stops.Refuse errno) = Unit {0}

abbrev pub IsTopIn : Option ℕ → Next → Type 0
IsTopIn top nexts.Rests = Unit {0}
IsTopIn top (nexts.Halts stop) = IsHalt stop
IsTopIn top (nexts.Enters below) = top ≡ Some below
IsTopIn top (nexts.Passes below trigger) = top ≡ Some below

top_open : (top o : Option ℕ) (others : Next) → IsTopIn top others → IsTopIn top (if_open o others)
top_open top (Some token) others h = tt
top_open top None others h = h

top_mounted : (top : Option ℕ) (trigger : Trigger) (others : Next) → IsTopIn top others → IsTopIn top (if_mounted top trigger others)
top_mounted (Some mount) trigger others h = refl
top_mounted None trigger others h = h

top_entered : (top : Option ℕ) (others : Next) → IsTopIn top others → IsTopIn top (if_entered top others)
top_entered (Some mount) others h = refl
top_entered None others h = h

top_either : (top : Option ℕ) (b : Bool) (one other : Next) → IsTopIn top one → IsTopIn top other → IsTopIn top (cond b one other)
top_either top true one other h g = h
top_either top false one other h g = g

top_directory : (top : Option ℕ) (scene : Scene) (row : Autofs) (trigger : Trigger) → IsTopIn top (at_directory scene row trigger)
top_directory top scene row trigger = top_either top (row.direct || is_made scene.triggers trigger) nexts.Rests (nexts.Halts (stops.Refuse ENOENT)) tt tt

top_failing : (top : Option ℕ) (error : Option FailNo) (others : Next) → IsTopIn top others → IsTopIn top (if_failing error others)
top_failing top (Some error) others h = tt
top_failing top None others h = h

module _ (scene : Scene) where
  top_trap : (tokens : List OpenToken) (row : Autofs) (trigger : Trigger) (mount : ℕ) (place : List (List ℕ)) → IsTopIn (top_of scene.mounts mount place) (at_trap tokens scene row trigger mount place)
  top_trap tokens row trigger mount place =
      let top : Option ℕ = top_of scene.mounts mount place in
      top_open top (open_on tokens Expire trigger) _
      (top_open top (open_on tokens Missing trigger) _
      (top_mounted top trigger _
      (top_either top row.catatonic (at_directory scene row trigger) _ (top_directory top scene row trigger)
      (top_either top (is_some (top_of scene.mounts row.location (place_of trigger))) (nexts.Halts (stops.Refuse ELOOP)) _ tt
      (top_failing top (scene.failing trigger) (nexts.Halts (stops.Missing trigger)) tt)))))

  top_trigger : (tokens : Option (List OpenToken)) (row : Autofs) (trigger : Trigger) (mount : ℕ) (place : List (List ℕ)) → IsTopIn (top_of scene.mounts mount place) (at_trigger tokens scene row trigger mount place)
  top_trigger (Some tokens) row trigger mount place = top_trap tokens row trigger mount place
  top_trigger None row trigger mount place = top_entered (top_of scene.mounts mount place) (at_directory scene row trigger) (top_directory (top_of scene.mounts mount place) scene row trigger)

  top_plain : (mount : ℕ) (place : List (List ℕ)) → IsTopIn (top_of scene.mounts mount place) (at_plain scene mount place)
  top_plain mount place = top_entered (top_of scene.mounts mount place) nexts.Rests tt

  top_autofs : (row : Autofs) (trigger : Option Trigger) (mount : ℕ) (place : List (List ℕ)) → IsTopIn (top_of scene.mounts mount place) (at_autofs scene row trigger mount place)
  top_autofs row None mount place = top_plain mount place
  top_autofs row (Some trigger) mount place = top_trigger scene.tokens row trigger mount place

  top_site : (row : Option Autofs) (mount : ℕ) (place : List (List ℕ)) → IsTopIn (top_of scene.mounts mount place) (at_site scene row mount place)
  top_site None mount place = top_plain mount place
  top_site (Some row) mount place = top_autofs row (trigger_in row place) mount place

-- ---- above it there are fewer mounts

abbrev pub above : ℕ → List MountRow → ℕ
above n rows = length (filter (λ row. nat_lt n row.mount) rows)

one_of : (b : Bool) (row : MountRow) (rows : List MountRow) → length (cond b (row ∷ rows) rows) ≡ cond b (1 + length rows) (length rows)
one_of true row rows = omega arith
one_of false row rows = refl

no_more : (n m : ℕ) (rows : List MountRow) → n ≤ m → above m rows ≤ above n rows
no_more n m [] e = omega arith
no_more n m (row ∷ rows) e = by_tests (nat_lt m row.mount) (nat_lt n row.mount) refl refl (no_more n m rows e)
  where
    by_tests : (b c : Bool) → nat_lt m row.mount ≡ b → nat_lt n row.mount ≡ c → above m rows ≤ above n rows → above m (row ∷ rows) ≤ above n (row ∷ rows)
    by_tests true true f g h = rw (f, g) (omega (arith, h))
    by_tests true false f g h = absurd (grind (arith, nat_tests, f, g, e))
    by_tests false true f g h = rw (f, g) (omega (arith, h))
    by_tests false false f g h = rw (f, g) h

fewer : (n m : ℕ) (rows : List MountRow) (there : MountRow) → n < m → mount_row rows m ≡ Some there → above m rows < above n rows
fewer n m [] there e h = absurd cc
fewer n m (row ∷ rows) there e h = by_tests (row.mount == m) (nat_lt m row.mount) (nat_lt n row.mount) refl refl refl h (no_more n m rows (omega (arith, e))) (fewer n m rows there e)
  where
    by_tests : (a b c : Bool) → (row.mount == m) ≡ a → nat_lt m row.mount ≡ b → nat_lt n row.mount ≡ c → cond a (Some row) (mount_row rows m) ≡ Some there → above m rows ≤ above n rows → (mount_row rows m ≡ Some there → above m rows < above n rows) → above m (row ∷ rows) < above n (row ∷ rows)
    by_tests true true c d f g h le later = absurd (grind (arith, nat_tests, d, f))
    by_tests true false true d f g h le later = rw (f, g) (omega (arith, le))
    by_tests true false false d f g h le later = absurd (grind (arith, nat_tests, d, g, e))
    by_tests false true true d f g h le later = rw (f, g) (omega (arith, later h))
    by_tests false true false d f g h le later = absurd (grind (arith, nat_tests, f, g, e))
    by_tests false false true d f g h le later = rw (f, g) (omega (arith, later h))
    by_tests false false false d f g h le later = rw (f, g) (later h)

at_most : (n : ℕ) (rows : List MountRow) → above n rows ≤ length rows
at_most n [] = omega arith
at_most n (row ∷ rows) = by_test (nat_lt n row.mount) refl (at_most n rows)
  where
    by_test : (b : Bool) → nat_lt n row.mount ≡ b → above n rows ≤ length rows → above n (row ∷ rows) ≤ length (row ∷ rows)
    by_test true f h = rw f (omega (arith, h))
    by_test false f h = rw f (omega (arith, h))

-- the mounts rise in number, and each is mounted on an older one
module _ (scene : Scene) (rising : IsRising scene.mounts) (older : (m p : ℕ) (row : MountRow) → mount_row scene.mounts m ≡ Some row → IsOn p row → p < m) where
  -- what is entered leaves fewer mounts above
  further : (mount below : ℕ) (place : List (List ℕ)) → top_of scene.mounts mount place ≡ Some below → above below scene.mounts < above mount scene.mounts
  further mount below place e =
      let top : IsTop scene.mounts mount place below = subst (λ (o : Option ℕ). IfSome o (IsTop scene.mounts mount place)) e (some_greatest scene.mounts mount place (top_of scene.mounts mount place) (top_is scene.mounts rising mount place)) in
      fewer mount below scene.mounts top.is_there.0 (older below mount top.is_there.0 top.is_there.1 (place, top.is_there.2)) top.is_there.1

  abbrev Rests : Visit → Type 0
  Rests (Stands mount place passed) = next_at scene mount place ≡ nexts.Rests
  Rests (Stops stop passed) = IsHalt stop

  followed_rests : (next : Next) (mount : ℕ) (place : List (List ℕ)) (passed : List Trigger) (enter : ℕ → List Trigger → Visit) → next_at scene mount place ≡ next → IsTopIn (top_of scene.mounts mount place) next →
      ((below : ℕ) (gs : List Trigger) → top_of scene.mounts mount place ≡ Some below → Rests (enter below gs)) → Rests (followed next mount place passed enter)
  followed_rests nexts.Rests mount place passed enter e h later = e
  followed_rests (nexts.Halts stop) mount place passed enter e h later = h
  followed_rests (nexts.Enters below) mount place passed enter e h later = later below passed h
  followed_rests (nexts.Passes below trigger) mount place passed enter e h later = later below (passed ++ trigger ∷ []) h

  within_rests : (steps mount : ℕ) (place : List (List ℕ)) (passed : List Trigger) → above mount scene.mounts < steps → Rests (settled_within steps scene mount place passed)
  within_rests zero mount place passed more = absurd (omega (arith, more))
  within_rests (suc steps) mount place passed more =
      followed_rests (next_at scene mount place) mount place passed (λ m gs. settled_within steps scene m [] gs) refl (top_site scene (autofs_at scene mount) mount place) (λ below gs e. within_rests steps below [] gs (omega (arith, more, further mount below place e)))

  settled_rests : (mount : ℕ) (place : List (List ℕ)) (passed : List Trigger) → Rests (settled scene mount place passed)
  settled_rests mount place passed = within_rests (length scene.mounts + 1) mount place passed (omega (arith, at_most mount scene.mounts))

  below_rests : (b : Bool) (mount : ℕ) (place : List (List ℕ)) (passed : List Trigger) → Rests (cond b (settled scene mount place passed) (Stops (stops.Refuse ENOENT) passed))
  below_rests true mount place passed = settled_rests mount place passed
  below_rests false mount place passed = tt

  onward_rests : (name : List ℕ) (visit : Visit) → Rests visit → Rests (onward scene name visit)
  onward_rests name (Stops stop passed) h = h
  onward_rests name (Stands mount place passed) h = below_rests (has_names (autofs_at scene mount) place) mount (place ++ name ∷ []) passed

  after_rests : (root : ℕ) (names : List (List ℕ)) → Rests (after scene root names)
  after_rests root [] = settled_rests root [] []
  after_rests root (name ∷ earlier) = onward_rests name (after scene root earlier) (after_rests root earlier)

  from_rests : (names : List (List ℕ)) (root : Option ℕ) → Rests (visit_from scene names root)
  from_rests names None = tt
  from_rests names (Some root) = after_rests root (reverse names)

  halt_rests : (stop : Stop) → IsHalt stop → RestsAt scene stop
  halt_rests (stops.Arrive at) h = absurd h
  halt_rests (stops.Block token) h = tt
  halt_rests (stops.Missing trigger) h = tt
  halt_rests (stops.Refuse errno) h = tt

  ended_rests : (visit : Visit) → Rests visit → RestsAt scene (ended visit).stop
  ended_rests (Stands mount place passed) h = h
  ended_rests (Stops stop passed) h = halt_rests stop h

  -- where a walk arrives nothing is in its way
  pub rests : (ns : ℕ) (names : List (List ℕ)) → RestsAt scene (walk_of scene ns names).stop
  rests ns names = ended_rests (visit_of scene ns names) (from_rests names (root_of scene.mounts ns))
