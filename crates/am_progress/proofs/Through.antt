-- Between the world in which a walk would wait on a missing token and that in which the mount has come, the
-- walk meets the same everywhere but at the trigger.
use Rattle.std.proofs.Common.{◌≡◌, ◌⊎◌, ◌≤◌, ℕ, ◌+◌, Bool, true, false, cond, List, [], ◌∷◌, length, Option, Some, None, refl, sym, ap, subst, inl, inr, ⊎_elim, ◌∙◌, arith}
use Rattle.std.specs.Prelude.{◌==◌, ◌&&◌, ◌||◌, not, is_some, find, filter, if◌then◌else◌}
use Rattle.std.specs.Option.{option_map, option_and_then}
use Rattle.std.specs.List.{All}
use Rattle.std.proofs.lemmas.List.{length-append}
use Rattle.std.proofs.lemmas.List.Elements.{All-head, All-tail, All-weaker}
use Rattle.am_names.specs.declared.errno.Errno.TheVariants.{ENOENT, ELOOP}
use Rattle.am_names.specs.declared.fail_no.FailNo.{FailNo}
use Rattle.am_names.specs.{same_trigger, MountRow, OpenToken, RiseBy, TokenKind}
use Rattle.am_names.specs.declared.membership.Membership.TheVariants.{Private}
use Rattle.am_names.specs.declared.row.TokenKind.TheVariants.{Missing, Expire}
use Rattle.am_names.specs.declared.trigger.Trigger.{Trigger}
use Rattle.am_names.proofs.SameTriggers.{equal_by_same_trigger, same_trigger_itself}
use Rattle.am_names.proofs.Basics.{both_of_and, equal_by_test, false_unless_true, found_passes, not_where_false, some_injective}
use Rattle.am_group.specs.{Receives, receivers_of}
use Rattle.am_mount.specs.{mount_row, root_of, top_of}
use Rattle.am_mount.specs.Rows.{is_root}
use Rattle.am_propagate.specs.MountTable.{MountTable}
use Rattle.am_propagate.specs.{IsWhole, is_mount, rows_at}
use Rattle.am_propagate.specs.Added as added
use Rattle.am_propagate.proofs.AdditionLemmas.{mounted_whole}
use Rattle.am_trigger.specs.{Autofs, Failure, autofs_of, error_while, failure_of, is_made, place_of, trigger_in}
use Rattle.am_wait.specs.{is_open_on, open_on, same_kind, token_of, without_token}
use Rattle.am_wait.proofs.FindLemmas.{find_append, or_first}
use Rattle.am_wait.proofs.KeptLemmas.{all_find, all_found}
use Rattle.am_walk.specs.{Next, at_autofs, at_plain, at_site, at_trap, autofs_at, if_entered, if_failing, if_mounted, if_open, next_at}
use Rattle.am_walk.specs.declared.stop.Next.TheVariants as nexts
use Rattle.am_walk.specs.declared.stop.Stop.TheVariants as stops
use Rattle.am_walk.specs.Scene.{Scene}
use Rattle.am_kernel.specs.{KernelState, location_in, location_of, scene_of}
use Rattle.am_machine.specs.{PlacesAgree}
use Rattle.am_machine.proofs.Lists.Different.{found_none}
use Rattle.am_machine.proofs.Places.Added.{came_row, mounted_grows}
use Rattle.am_machine.proofs.Places.Grown.{mounts_same, places_same, position}
use Rattle.am_machine.proofs.Places.Rows.{receiver_fs}
use Rattle.am_machine.proofs.TriggerMounts.Mounts.{trigger_same}
use Rattle.am_machine.proofs.TriggerMounts.Tops.{top_same}

-- ---- mounts that come at one place

-- this mount, or one that receives from it
abbrev pub IsThere : MountTable → ℕ → ℕ → Type 0
IsThere t location x = (x ≡ location) ⊎ Receives t.groups location x

-- all mounts stay, and what comes is at this place of these
pub record ComesThere (old new : MountTable) (location : ℕ) (place : List (List ℕ)) : Type 0 where
  pub stays : (m : ℕ) (row : MountRow) → mount_row old.rows m ≡ Some row → mount_row new.rows m ≡ Some row
  pub tops : (x : ℕ) (at : List (List ℕ)) → (IsThere old location x → at ≡ place → ⊥) → top_of new.rows x at ≡ top_of old.rows x at
  pub roots : (ns root : ℕ) → root_of old.rows ns ≡ Some root → root_of new.rows ns ≡ Some root
  pub more : length old.rows ≤ length new.rows

pub comes_nothing : (t : MountTable) (location : ℕ) (place : List (List ℕ)) → ComesThere t t location place
comes_nothing t location place = record { stays = λ m row is. is; tops = λ x at other. refl; roots = λ ns root is. is; more = omega arith }

first_root : (o p : Option MountRow) (root : ℕ) → option_map (λ (r : MountRow). r.mount) o ≡ Some root → option_map (λ (r : MountRow). r.mount) (or_first o p) ≡ Some root
first_root None p root e = absurd cc
first_root (Some row) p root e = e

pub comes_there : (t : MountTable) → IsWhole t → (location fs : ℕ) (place : List (List ℕ)) → is_mount t location ≡ true → ComesThere t (added.mounted (position location place) fs Private t) location place
comes_there t whole location fs place there =
    let at = position location place in
    let new = added.mounted at fs Private t in
    let grows = mounted_grows t whole at fs Private in
    let more : List MountRow = rows_at t place fs (t.last_mount + 1) (t.last_mount + 1) (location ∷ receivers_of t.groups location) in
    record {
      stays = grows.stays;
      tops = λ x p other. top_same t.rows new.rows x p whole.rising (mounted_whole t whole at fs Private there (inl refl)).rising
          (λ m r. (r.0, grows.stays m r.0 r.1, r.2))
          (λ m r. ⊎_elim
          (λ old. (r.0, old, r.2))
          (λ came. ⊎_elim
          (λ first.
          let both : Some (position location place) ≡ Some (position x p) = sym (ap (λ (r : MountRow). r.mountpoint) first.is_row) ∙ r.2 in
          absurd (other (inl (sym (mounts_same location x place p both))) (sym (places_same location x place p both))))
          (λ copy.
          let both : Some (position copy.parent place) ≡ Some (position x p) = sym (ap (λ (r : MountRow). r.mountpoint) copy.is_row) ∙ r.2 in
          absurd (other (inr (subst (λ (n : ℕ). Receives t.groups location n) (mounts_same copy.parent x place p both) copy.receives)) (sym (places_same copy.parent x place p both))))
          came)
          (came_row t whole at fs Private m r.0 r.1));
      roots = λ ns root is. ap (option_map (λ (r : MountRow). r.mount)) (find_append (λ (r : MountRow). is_root_of ns r) t.rows more) ∙ first_root (find (λ (r : MountRow). is_root_of ns r) t.rows) (find (λ (r : MountRow). is_root_of ns r) more) root is;
      more = (let long = length-append t.rows more in omega (arith, long));
    }
  where
    is_root_of : ℕ → MountRow → Bool
    is_root_of ns r = is_root ns r

-- ---- triggers at places

if_some : (b : Bool) (t g : Trigger) → (if b then Some t else None) ≡ Some g → t ≡ g
if_some true t g e = some_injective e
if_some false t g e = absurd cc

unless_some : (b : Bool) (t g : Trigger) → (if b then None else Some t) ≡ Some g → t ≡ g
unless_some false t g e = some_injective e
unless_some true t g e = absurd cc

at_place : (a : Autofs) (place : List (List ℕ)) (g : Trigger) → trigger_in a place ≡ Some g → (g.fs ≡ a.fs) × (place ≡ place_of g)
at_place a [] g e = let same = if_some a.direct _ g e in (ap (λ (t : Trigger). t.fs) (sym same), ap place_of same)
at_place a (name ∷ []) g e = let same = unless_some a.direct _ g e in (ap (λ (t : Trigger). t.fs) (sym same), ap place_of same)
at_place a (name ∷ below ∷ names) g e = absurd cc

-- ---- what is met at a trap, by what decides

abbrev pub trap_by : (expiring pending top : Option ℕ) (made : Bool) (behind : Option ℕ) (failing : Option FailNo) → Autofs → Trigger → Next
trap_by expiring pending top made behind failing row trigger =
    if_open expiring
    (if_open pending
    (if_mounted top trigger
    (if row.catatonic then (if row.direct || made then nexts.Rests else nexts.Halts (stops.Refuse ENOENT))
    else if is_some behind then nexts.Halts (stops.Refuse ELOOP)
    else if_failing failing (nexts.Halts (stops.Missing trigger)))))

no_block : (catatonic direct made behind : Bool) (failing : Option FailNo) (trigger : Trigger) (token : ℕ) →
    (if catatonic then (if direct || made then nexts.Rests else nexts.Halts (stops.Refuse ENOENT)) else if behind then nexts.Halts (stops.Refuse ELOOP) else if_failing failing (nexts.Halts (stops.Missing trigger)))
    ≡ nexts.Halts (stops.Block token) → ⊥
no_block true true made behind failing trigger token e = absurd cc
no_block true false true behind failing trigger token e = absurd cc
no_block true false false behind failing trigger token e = absurd cc
no_block false direct made true failing trigger token e = absurd cc
no_block false direct made false (Some error) trigger token e = absurd cc
no_block false direct made false None trigger token e = absurd cc

block_by : (expiring pending top : Option ℕ) (made : Bool) (behind : Option ℕ) (failing : Option FailNo) (row : Autofs) (trigger : Trigger) (token : ℕ) → trap_by expiring pending top made behind failing row trigger ≡ nexts.Halts (stops.Block token) → (expiring ≡ Some token) ⊎ (pending ≡ Some token)
block_by (Some n) pending top made behind failing row trigger token e = inl (let same : n ≡ token = cc in ap (λ (x : ℕ). Some x) same)
block_by None (Some n) top made behind failing row trigger token e = inr (let same : n ≡ token = cc in ap (λ (x : ℕ). Some x) same)
block_by None None (Some n) made behind failing row trigger token e = absurd cc
block_by None None None made behind failing row trigger token e = absurd (no_block row.catatonic row.direct made (is_some behind) failing trigger token e)

plain_no_block : (o : Option ℕ) (token : ℕ) → if_entered o nexts.Rests ≡ nexts.Halts (stops.Block token) → ⊥
plain_no_block None token e = absurd cc
plain_no_block (Some n) token e = absurd cc

-- ---- open tokens

pub find_kept : {X : Type 0} (test keep : X → Bool) (rows : List X) → All (λ x. test x ≡ true → keep x ≡ true) rows → find test (filter keep rows) ≡ find test rows
find_kept test keep [] h = refl
find_kept {X} test keep (x ∷ rows) h = by (keep x) (test x) refl refl (find_kept test keep rows (All-tail (λ x. test x ≡ true → keep x ≡ true) x rows h))
  where
    by : (b c : Bool) → keep x ≡ b → test x ≡ c → find test (filter keep rows) ≡ find test rows → find test (cond b (x ∷ filter keep rows) (filter keep rows)) ≡ cond (test x) (Some x) (find test rows)
    by true c k t later = ap (λ (o : Option X). cond (test x) (Some x) o) later
    by false false k t later = later ∙ sym (ap (λ (b : Bool). cond b (Some x) (find test rows)) t)
    by false true k t later = absurd (let kept = All-head (λ x. test x ≡ true → keep x ≡ true) x rows h t in let no : false ≡ true = sym k ∙ kept in cc)

-- a missing token of the trigger, the one that is open on it
pub record IsOpenOn (k : KernelState) (g : Trigger) (token : ℕ) : Type 0 where
  pub its : OpenToken
  pub is_open : token_of k.waits.tokens token ≡ Some its
  pub on : its.trigger ≡ g
  pub missing : its.kind ≡ Missing
  pub number : its.token ≡ token
  pub rise : RiseBy (λ (r : OpenToken). r.token) 0 k.waits.tokens
  pub once : (a b : ℕ) (x y : OpenToken) → token_of k.waits.tokens a ≡ Some x → token_of k.waits.tokens b ≡ Some y → same_trigger x.trigger y.trigger ≡ true → a ≡ b

module _ (k : KernelState) (g : Trigger) (token : ℕ) (t : IsOpenOn k g token) where
  own_rows : All (λ (r : OpenToken). token_of k.waits.tokens r.token ≡ Some r) k.waits.tokens
  own_rows = all_found (λ (r : OpenToken). token_of k.waits.tokens r.token ≡ Some r) (λ (r : OpenToken). r.token) 0 k.waits.tokens t.rise (λ r found. found)

  -- another on the trigger is this one
  the_same : (r : OpenToken) → token_of k.waits.tokens r.token ≡ Some r → same_trigger r.trigger g ≡ true → r ≡ t.its
  the_same r is both =
      let one : r.token ≡ token = t.once r.token token r t.its is t.is_open (subst (λ (x : Trigger). same_trigger r.trigger x ≡ true) (sym t.on) both) in
      some_injective (sym is ∙ ap (token_of k.waits.tokens) one ∙ t.is_open)

  found_on : (kind : TokenKind) (h : Trigger) (r : OpenToken) → find (λ (r : OpenToken). is_open_on kind h r) k.waits.tokens ≡ Some r → (token_of k.waits.tokens r.token ≡ Some r) × (same_trigger r.trigger h ≡ true) × (same_kind r.kind kind ≡ true)
  found_on kind h r e =
      let passes = both_of_and (same_trigger r.trigger h) (same_kind r.kind kind) (found_passes (λ (r : OpenToken). is_open_on kind h r) k.waits.tokens r e) in
      (all_find (λ (r : OpenToken). token_of k.waits.tokens r.token ≡ Some r) (λ (r : OpenToken). is_open_on kind h r) k.waits.tokens r own_rows e, passes.0, passes.1)

  not_expiring : open_on k.waits.tokens Expire g ≡ None
  not_expiring = by (find (λ (r : OpenToken). is_open_on Expire g r) k.waits.tokens) refl
    where
      by : (o : Option OpenToken) → find (λ (r : OpenToken). is_open_on Expire g r) k.waits.tokens ≡ o → option_map (λ (r : OpenToken). r.token) o ≡ None
      by None e = refl
      by (Some r) e =
          let f = found_on Expire g r e in
          let no : same_kind Missing Expire ≡ true = sym (ap (λ (kind : TokenKind). same_kind kind Expire) (ap (λ (x : OpenToken). x.kind) (the_same r f.0 f.1) ∙ t.missing)) ∙ f.2 in
          absurd cc

  pending_on : open_on k.waits.tokens Missing g ≡ Some token
  pending_on = by (find (λ (r : OpenToken). is_open_on Missing g r) k.waits.tokens) refl
    where
      passes : is_open_on Missing g t.its ≡ true
      passes = ap (λ (x : Trigger). same_trigger x g && same_kind t.its.kind Missing) t.on ∙ ap (λ (b : Bool). b && same_kind t.its.kind Missing) (same_trigger_itself g) ∙ ap (λ (kind : TokenKind). same_kind kind Missing) t.missing

      by : (o : Option OpenToken) → find (λ (r : OpenToken). is_open_on Missing g r) k.waits.tokens ≡ o → option_map (λ (r : OpenToken). r.token) o ≡ Some token
      by None e =
          let fails : is_open_on Missing g t.its ≡ false = found_none (λ (r : OpenToken). is_open_on Missing g r) (λ (r : OpenToken). r.token == token) k.waits.tokens t.its e t.is_open in
          let no : true ≡ false = sym passes ∙ fails in
          absurd cc
      by (Some r) e =
          let f = found_on Missing g r e in
          ap (λ (n : ℕ). Some n) (ap (λ (x : OpenToken). x.token) (the_same r f.0 f.1) ∙ t.number)

  -- it is the token of no other trigger
  not_on : (kind : TokenKind) (h : Trigger) → same_trigger g h ≡ false → open_on k.waits.tokens kind h ≡ Some token → ⊥
  not_on kind h other e = by (find (λ (r : OpenToken). is_open_on kind h r) k.waits.tokens) refl e
    where
      by : (o : Option OpenToken) → find (λ (r : OpenToken). is_open_on kind h r) k.waits.tokens ≡ o → option_map (λ (r : OpenToken). r.token) o ≡ Some token → ⊥
      by None is e = absurd cc
      by (Some r) is e =
          let f = found_on kind h r is in
          let number : r.token ≡ token = some_injective e in
          let one : r ≡ t.its = some_injective (sym f.0 ∙ ap (token_of k.waits.tokens) number ∙ t.is_open) in
          let no : true ≡ false = sym f.1 ∙ ap (λ (x : Trigger). same_trigger x h) (ap (λ (x : OpenToken). x.trigger) one ∙ t.on) ∙ other in
          cc

  -- without it the others are open as before
  open_same : (kind : TokenKind) (h : Trigger) → same_trigger g h ≡ false → open_on (without_token token k.waits.tokens) kind h ≡ open_on k.waits.tokens kind h
  open_same kind h other =
      ap (option_map (λ (r : OpenToken). r.token))
      (find_kept (λ (r : OpenToken). is_open_on kind h r) (λ (r : OpenToken). not (r.token == token)) k.waits.tokens
      (All-weaker (λ (r : OpenToken). token_of k.waits.tokens r.token ≡ Some r) (λ (r : OpenToken). is_open_on kind h r ≡ true → not (r.token == token) ≡ true)
      (λ r is passes. not_where_false (r.token == token) (false_unless_true (r.token == token) (λ equal.
      let one : r ≡ t.its = some_injective (sym is ∙ ap (token_of k.waits.tokens) (equal_by_test r.token token equal) ∙ t.is_open) in
      let on : same_trigger r.trigger h ≡ true = (both_of_and (same_trigger r.trigger h) (same_kind r.kind kind) passes).0 in
      let no : true ≡ false = sym on ∙ ap (λ (x : Trigger). same_trigger x h) (ap (λ (x : OpenToken). x.trigger) one ∙ t.on) ∙ other in
      absurd cc)))
      k.waits.tokens own_rows))

-- ---- the two worlds

-- what the acts of the job leave of what walks meet
pub record Leaves (k made : KernelState) (g : Trigger) (token : ℕ) : Type 0 where
  pub autofs : made.triggers.autofs ≡ k.triggers.autofs
  pub made_same : (h : Trigger) → same_trigger g h ≡ false → is_made made.triggers h ≡ is_made k.triggers h
  pub tokens : made.waits.tokens ≡ without_token token k.waits.tokens
  pub failures : (h : Trigger) → same_trigger g h ≡ false → failure_of made.failures h ≡ failure_of k.failures h
  pub negative : made.negative ≡ k.negative
  pub table : ComesThere k.table made.table (location_of k g.fs) (place_of g)

-- at the trigger, where the walk waits; or where it meets the same, and doesn't wait on the token
abbrev pub IsMetAs : KernelState → KernelState → ℕ → Trigger → ℕ → ℕ → MountRow → List (List ℕ) → Type 0
IsMetAs k made moment g token x row place =
    ((row.fs ≡ g.fs) × (place ≡ place_of g) × (next_at (scene_of k moment) x place ≡ nexts.Halts (stops.Block token)))
    ⊎ ((next_at (scene_of made moment) x place ≡ next_at (scene_of k moment) x place) × (next_at (scene_of k moment) x place ≡ nexts.Halts (stops.Block token) → ⊥))

module _ (k made : KernelState) (places : PlacesAgree k) (g : Trigger) (token moment : ℕ) (t : IsOpenOn k g token) (l : Leaves k made g token) (a : Autofs) (is_a : autofs_of k.triggers g.fs ≡ Some a) (own : trigger_in a (place_of g) ≡ Some g) where
  abbrev first : Scene
  first = scene_of k moment

  abbrev second : Scene
  second = scene_of made moment

  -- what receives from the daemon's mount is of its file system
  fs_there : (x : ℕ) (row : MountRow) → mount_row k.table.rows x ≡ Some row → IsThere k.table (location_of k g.fs) x → row.fs ≡ g.fs
  fs_there x row is there =
      let place = places.locations g.fs a is_a in
      let here : location_of k g.fs ≡ a.location = ap location_in is_a in
      let at : mount_row k.table.rows (location_of k g.fs) ≡ Some place.row = ap (mount_row k.table.rows) here ∙ place.is_row in
      ⊎_elim
      (λ same. ap (λ (r : MountRow). r.fs) (some_injective (sym is ∙ ap (mount_row k.table.rows) same ∙ at)) ∙ place.fs)
      (λ receives. sym (receiver_fs k.table places.whole (location_of k g.fs) x receives place.row row at is) ∙ place.fs)
      there

  pub autofs_first : (x : ℕ) (row : MountRow) → mount_row k.table.rows x ≡ Some row → autofs_at first x ≡ autofs_of k.triggers row.fs
  autofs_first x row is = ap (λ (o : Option MountRow). option_and_then (λ fs. autofs_of k.triggers fs) (option_map (λ (r : MountRow). r.fs) o)) is

  pub autofs_second : (x : ℕ) (row : MountRow) → mount_row k.table.rows x ≡ Some row → autofs_at second x ≡ autofs_of k.triggers row.fs
  autofs_second x row is =
      ap (λ (o : Option MountRow). option_and_then (λ fs. autofs_of made.triggers fs) (option_map (λ (r : MountRow). r.fs) o)) (l.table.stays x row is)
      ∙ ap (λ (rows : List Autofs). find (λ (r : Autofs). r.fs == row.fs) rows) l.autofs

  module _ (x : ℕ) (row : MountRow) (is : mount_row k.table.rows x ≡ Some row) (place : List (List ℕ)) where
    abbrev Met : Option Autofs → Type 0
    Met o =
        ((row.fs ≡ g.fs) × (place ≡ place_of g) × (at_site first o x place ≡ nexts.Halts (stops.Block token)))
        ⊎ ((at_site second o x place ≡ at_site first o x place) × (at_site first o x place ≡ nexts.Halts (stops.Block token) → ⊥))

    plainly : (IsThere k.table (location_of k g.fs) x → place ≡ place_of g → ⊥) → (at_plain second x place ≡ at_plain first x place) × (at_plain first x place ≡ nexts.Halts (stops.Block token) → ⊥)
    plainly other = (ap (λ (o : Option ℕ). if_entered o nexts.Rests) (l.table.tops x place other), plain_no_block (top_of k.table.rows x place) token)

    -- the autofs of another trigger, and the place of one
    apart : (b : Autofs) (h : Trigger) → autofs_of k.triggers row.fs ≡ Some b → trigger_in b place ≡ Some h → same_trigger g h ≡ false → IsThere k.table (location_of k g.fs) x → place ≡ place_of g → ⊥
    apart b h is_b on other there at =
        let same : b ≡ a = some_injective (sym is_b ∙ ap (autofs_of k.triggers) (fs_there x row is there) ∙ is_a) in
        let one : g ≡ h = some_injective (sym own ∙ ap (trigger_in a) (sym at) ∙ ap (λ (c : Autofs). trigger_in c place) (sym same) ∙ on) in
        let no : true ≡ false = sym (same_trigger_itself g) ∙ ap (same_trigger g) one ∙ other in
        cc

    -- nor is it at the daemon's mount of its own file system
    apart_behind : (b : Autofs) (h : Trigger) → autofs_of k.triggers row.fs ≡ Some b → trigger_in b place ≡ Some h → same_trigger g h ≡ false → IsThere k.table (location_of k g.fs) b.location → place_of h ≡ place_of g → ⊥
    apart_behind b h is_b on other there at =
        let its = places.locations row.fs b is_b in
        let system : row.fs ≡ g.fs = sym its.fs ∙ fs_there b.location its.row its.is_row there in
        let b_fs : b.fs ≡ row.fs = equal_by_test b.fs row.fs (found_passes (λ (r : Autofs). r.fs == row.fs) k.triggers.autofs b is_b) in
        let one : h ≡ g = trigger_same h g ((at_place b place h on).0 ∙ b_fs ∙ system) at in
        let no : true ≡ false = sym (same_trigger_itself g) ∙ ap (same_trigger g) (sym one) ∙ other in
        cc

    trap_same : (b : Autofs) (h : Trigger) → autofs_of k.triggers row.fs ≡ Some b → trigger_in b place ≡ Some h → same_trigger g h ≡ false →
        (at_trap made.waits.tokens second b h x place ≡ at_trap k.waits.tokens first b h x place) × (at_trap k.waits.tokens first b h x place ≡ nexts.Halts (stops.Block token) → ⊥)
    trap_same b h is_b on other =
        let expiring : open_on made.waits.tokens Expire h ≡ open_on k.waits.tokens Expire h = ap (λ (rows : List OpenToken). open_on rows Expire h) l.tokens ∙ open_same k g token t Expire h other in
        let pending : open_on made.waits.tokens Missing h ≡ open_on k.waits.tokens Missing h = ap (λ (rows : List OpenToken). open_on rows Missing h) l.tokens ∙ open_same k g token t Missing h other in
        let top = l.table.tops x place (apart b h is_b on other) in
        let dir = l.made_same h other in
        let behind = l.table.tops b.location (place_of h) (apart_behind b h is_b on other) in
        let failing : second.failing h ≡ first.failing h =
        ap (λ (n : ℕ). option_and_then (error_while moment n) (failure_of made.failures h)) l.negative ∙ ap (λ (o : Option Failure). option_and_then (error_while moment k.negative) o) (l.failures h other) in (
          ap (λ (o : Option ℕ). trap_by o (open_on made.waits.tokens Missing h) (top_of made.table.rows x place) (is_made made.triggers h) (top_of made.table.rows b.location (place_of h)) (second.failing h) b h) expiring
              ∙ ap (λ (o : Option ℕ). trap_by (open_on k.waits.tokens Expire h) o (top_of made.table.rows x place) (is_made made.triggers h) (top_of made.table.rows b.location (place_of h)) (second.failing h) b h) pending
              ∙ ap (λ (o : Option ℕ). trap_by (open_on k.waits.tokens Expire h) (open_on k.waits.tokens Missing h) o (is_made made.triggers h) (top_of made.table.rows b.location (place_of h)) (second.failing h) b h) top
              ∙ ap (λ (c : Bool). trap_by (open_on k.waits.tokens Expire h) (open_on k.waits.tokens Missing h) (top_of k.table.rows x place) c (top_of made.table.rows b.location (place_of h)) (second.failing h) b h) dir
              ∙ ap (λ (o : Option ℕ). trap_by (open_on k.waits.tokens Expire h) (open_on k.waits.tokens Missing h) (top_of k.table.rows x place) (is_made k.triggers h) o (second.failing h) b h) behind
              ∙ ap (λ (o : Option FailNo). trap_by (open_on k.waits.tokens Expire h) (open_on k.waits.tokens Missing h) (top_of k.table.rows x place) (is_made k.triggers h) (top_of k.table.rows b.location (place_of h)) o b h) failing,
          λ blocks. ⊎_elim (not_on k g token t Expire h other) (not_on k g token t Missing h other)
              (block_by (open_on k.waits.tokens Expire h) (open_on k.waits.tokens Missing h) (top_of k.table.rows x place) (is_made k.triggers h) (top_of k.table.rows b.location (place_of h)) (first.failing h) b h token blocks),
        )

    waits_there : (b : Autofs) (h : Trigger) → h ≡ g → at_trap k.waits.tokens first b h x place ≡ nexts.Halts (stops.Block token)
    waits_there b h one =
        let expiring : open_on k.waits.tokens Expire h ≡ None = ap (open_on k.waits.tokens Expire) one ∙ not_expiring k g token t in
        let pending : open_on k.waits.tokens Missing h ≡ Some token = ap (open_on k.waits.tokens Missing) one ∙ pending_on k g token t in
        rw (expiring, pending) refl

    met_trigger : (b : Autofs) → autofs_of k.triggers row.fs ≡ Some b → (h : Trigger) → trigger_in b place ≡ Some h → (c : Bool) → same_trigger g h ≡ c →
        ((row.fs ≡ g.fs) × (place ≡ place_of g) × (at_trap k.waits.tokens first b h x place ≡ nexts.Halts (stops.Block token)))
        ⊎ ((at_trap made.waits.tokens second b h x place ≡ at_trap k.waits.tokens first b h x place) × (at_trap k.waits.tokens first b h x place ≡ nexts.Halts (stops.Block token) → ⊥))
    met_trigger b is_b h on true same =
        let one : h ≡ g = sym (equal_by_same_trigger g h same) in
        let b_fs : b.fs ≡ row.fs = equal_by_test b.fs row.fs (found_passes (λ (r : Autofs). r.fs == row.fs) k.triggers.autofs b is_b) in
        let at = at_place b place h on in
        inl (sym b_fs ∙ sym at.0 ∙ ap (λ (y : Trigger). y.fs) one, at.1 ∙ ap place_of one, waits_there b h one)
    met_trigger b is_b h on false other = inr (trap_same b h is_b on other)

    met_autofs : (b : Autofs) → autofs_of k.triggers row.fs ≡ Some b → (h : Option Trigger) → trigger_in b place ≡ h →
        ((row.fs ≡ g.fs) × (place ≡ place_of g) × (at_autofs first b h x place ≡ nexts.Halts (stops.Block token)))
        ⊎ ((at_autofs second b h x place ≡ at_autofs first b h x place) × (at_autofs first b h x place ≡ nexts.Halts (stops.Block token) → ⊥))
    met_autofs b is_b None on =
        inr (plainly (λ there at.
        let same : b ≡ a = some_injective (sym is_b ∙ ap (autofs_of k.triggers) (fs_there x row is there) ∙ is_a) in
        let no : None ≡ Some g = sym on ∙ ap (λ (c : Autofs). trigger_in c place) same ∙ ap (trigger_in a) at ∙ own in
        absurd cc))
    met_autofs b is_b (Some h) on = met_trigger b is_b h on (same_trigger g h) refl

    met : (o : Option Autofs) → autofs_of k.triggers row.fs ≡ o → Met o
    met None none =
        inr (plainly (λ there at.
        let no : None ≡ Some a = sym none ∙ ap (autofs_of k.triggers) (fs_there x row is there) ∙ is_a in
        absurd cc))
    met (Some b) is_b = met_autofs b is_b (trigger_in b place) refl

  -- at each place of each mount
  pub met_as : (x : ℕ) (row : MountRow) → mount_row k.table.rows x ≡ Some row → (place : List (List ℕ)) → IsMetAs k made moment g token x row place
  met_as x row is place =
      let one : next_at first x place ≡ at_site first (autofs_of k.triggers row.fs) x place = ap (λ (o : Option Autofs). at_site first o x place) (autofs_first x row is) in
      let two : next_at second x place ≡ at_site second (autofs_of k.triggers row.fs) x place = ap (λ (o : Option Autofs). at_site second o x place) (autofs_second x row is) in
      ⊎_elim
      (λ at. inl (at.0, at.1, one ∙ at.2))
      (λ same. inr (two ∙ same.0 ∙ sym one, λ blocks. same.1 (sym one ∙ blocks)))
      (met x row is place (autofs_of k.triggers row.fs) refl)
