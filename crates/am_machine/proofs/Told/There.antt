-- Mounts, uses and pipes are what the trace tells of them.
use Rattle.std.proofs.Common.{◌≡◌, ◌∙◌, ℕ, ◌+◌, Bool, true, false, not, List, [], ◌∷◌, ◌++◌, map, filter, Option, refl, sym, ap}
use Rattle.std.specs.Prelude.{if◌then◌else◌}
use Rattle.std.specs.List.{flat_map}
use Rattle.am_names.specs.{is_among, Status, MountRow, TokenKind, WaitRow}
use Rattle.am_names.specs.declared.row.TokenKind.TheVariants.{Missing, Expire}
use Rattle.am_names.specs.declared.fail_no.FailNo.TheVariants.{ENOENT}
use Rattle.am_names.specs.declared.trigger.Status.TheVariants.{Fail}
use Rattle.am_names.specs.declared.trigger.Trigger.{Trigger}
use Rattle.am_state.specs.{QueuedRow, Record, Obs}
use Rattle.am_state.specs.declared.obs.Obs.TheVariants as seen
use Rattle.am_names.specs.declared.membership.Membership.TheVariants.{Private}
use Rattle.am_mount.specs.{mount_row}
use Rattle.am_propagate.specs.{all_mounts, fs_in, membership_of, removed}
use Rattle.am_propagate.proofs.CameLemmas.{mounted_came, copied_came}
use Rattle.am_wait.specs.{waiters_of}
use Rattle.am_kernel.specs.{KernelState, passes, releases, failures, wait_collected_from, trigger_position}
use Rattle.am_daemon.specs.{plan_of_packet}
use Rattle.am_job.specs.{is_reply}
use Rattle.am_machine.specs.{Event, Setup, initial_state_of, after, outcome_of, PlacesAgree, There, then_told, told_from, told, told_in}
use Rattle.am_machine.specs.State.{State}
use Rattle.am_machine.proofs.Tour.Walks as tour
use Rattle.am_machine.proofs.Tour.Walks.{AnyPath}
use Rattle.am_machine.proofs.Tour.Events as tours
use Rattle.am_machine.proofs.Tour.Events.{AnyJob, any_event}

-- ---- traces

pub told_append : (t : There) (xs ys : List Obs) → told_from t (xs ++ ys) ≡ told_from (told_from t xs) ys
told_append t [] ys = refl
told_append t (x ∷ xs) ys = told_append (then_told x t) xs ys

told_passes : (t : There) (walker : ℕ) (passed : List Trigger) (later : List Obs) → told_from t (passes walker passed ++ later) ≡ told_from t later
told_passes t walker [] later = refl
told_passes t walker (g ∷ passed) later = told_passes t walker passed later

told_releases : (t : There) (token : ℕ) (status : Status) (walkers : List ℕ) → told_from t (releases token status walkers) ≡ t
told_releases t token status [] = refl
told_releases t token status (walker ∷ walkers) = told_releases t token status walkers

told_failures : (t : There) (k : KernelState) (tokens : List ℕ) → told_from t (flat_map (failures k) tokens) ≡ t
told_failures t k [] = refl
told_failures t k (token ∷ tokens) =
    told_append t (failures k token) (flat_map (failures k) tokens)
    ∙ ap (λ (u : There). told_from u (flat_map (failures k) tokens)) (told_releases t token (Fail ENOENT) (waiters_of k.waits.tokens token))
    ∙ told_failures t k tokens

-- ---- mounts that go

kept_numbers : (gone : List ℕ) (rows : List MountRow) → map (λ (r : MountRow). r.mount) (filter (λ row. not (is_among gone row.mount)) rows) ≡ filter (λ m. not (is_among gone m)) (map (λ (r : MountRow). r.mount) rows)
kept_numbers gone [] = refl
kept_numbers gone (row ∷ rows) = by (not (is_among gone row.mount)) (kept_numbers gone rows)
  where
    by : (b : Bool) → map (λ (r : MountRow). r.mount) (filter (λ r. not (is_among gone r.mount)) rows) ≡ filter (λ m. not (is_among gone m)) (map (λ (r : MountRow). r.mount) rows) →
        map (λ (r : MountRow). r.mount) (if b then row ∷ filter (λ r. not (is_among gone r.mount)) rows else filter (λ r. not (is_among gone r.mount)) rows)
        ≡ (if b then row.mount ∷ filter (λ m. not (is_among gone m)) (map (λ (r : MountRow). r.mount) rows) else filter (λ m. not (is_among gone m)) (map (λ (r : MountRow). r.mount) rows))
    by true later = ap (λ (ms : List ℕ). row.mount ∷ ms) later
    by false later = later

-- ---- what an event leaves

abbrev with_mounts : KernelState → List ℕ → There
with_mounts k mounts = record (told_in k) { mounts = mounts }

abbrev TellsBy : KernelState → List Obs → KernelState → Type 0
TellsBy k shown made = told_from (told_in k) shown ≡ told_in made

after_freed : (kind : TokenKind) (k : KernelState) (wait : WaitRow) (moment : ℕ) (shown : List Obs) (made : KernelState) → TellsBy (wait_collected_from kind wait moment k) shown made → TellsBy k shown made
after_freed Missing k wait moment shown made later = later
after_freed Expire k wait moment shown made later = later

walkers : tour.Keeps AnyPath TellsBy
walkers = record {
  nothing = λ k. refl;
  arrived = λ k attempt at passed w. told_passes (told_in k) attempt.walker passed _;
  joined = λ k attempt token passed w. told_passes (told_in k) attempt.walker passed _;
  notified = λ k attempt trigger attach passed w is. told_passes (told_in k) attempt.walker passed _;
  expiring = λ k walker fs moment immediate trigger attach x. refl;
  made_catatonic = λ k fs. told_failures _ k _;
  collected = λ k kind wait status moment shown made g later. after_freed kind k wait moment shown made later;
}

record Tells (s : State) (shown : List Obs) (t : State) : Type 0 where
  tells : PlacesAgree s.kernel → told_from (told_in s.kernel) shown ≡ told_in t.kernel

-- nothing that is seen tells of it, and it stays
stays : (s t : State) (shown : List Obs) → told_from (told_in s.kernel) shown ≡ told_in s.kernel → told_in t.kernel ≡ told_in s.kernel → Tells s shown t
stays s t shown nothing same = record { tells = λ p. nothing ∙ sym same }

-- mounts come, or go
comes : (s t : State) (mounts : List ℕ) → (PlacesAgree s.kernel → all_mounts t.kernel.table ≡ all_mounts s.kernel.table ++ mounts) → t.kernel.uses ≡ s.kernel.uses → t.kernel.queue ≡ s.kernel.queue → Tells s (seen.Mounted mounts ∷ []) t
comes s t mounts more uses queue = record {
  tells = λ p.
      ap (with_mounts s.kernel) (sym (more p))
      ∙ ap (λ u. record { mounts = all_mounts t.kernel.table; uses = u; pipe = s.kernel.queue }) (sym uses)
      ∙ ap (λ (q : List QueuedRow). record { mounts = all_mounts t.kernel.table; uses = t.kernel.uses; pipe = q }) (sym queue);
}

goes : (s t : State) (gone : List ℕ) → t.kernel.table ≡ removed gone s.kernel.table → t.kernel.uses ≡ s.kernel.uses → t.kernel.queue ≡ s.kernel.queue → Tells s (seen.Unmounted gone ∷ []) t
goes s t gone table uses queue = record {
  tells = λ p.
      ap (with_mounts s.kernel) (sym (kept_numbers gone s.kernel.table.rows) ∙ ap all_mounts (sym table))
      ∙ ap (λ u. record { mounts = all_mounts t.kernel.table; uses = u; pipe = s.kernel.queue }) (sym uses)
      ∙ ap (λ (q : List QueuedRow). record { mounts = all_mounts t.kernel.table; uses = t.kernel.uses; pipe = q }) (sym queue);
}

recording_tells : (b : Bool) (t : There) (trigger : Trigger) (entry : Option Record) → told_from t (if b then [] else seen.Recorded trigger entry ∷ []) ≡ t
recording_tells true t trigger entry = refl
recording_tells false t trigger entry = refl

events : tours.Keeps AnyPath AnyJob TellsBy Tells
events = record {
  same = λ s. stays s s _ refl refl;
  attached = λ s path point at is fresh may. comes s _ _ (λ p. mounted_came s.kernel.table at (s.kernel.last_fs + 1) Private) refl refl;
  mounted = λ s ns path at is may. comes s _ _ (λ p. mounted_came s.kernel.table at (s.kernel.last_fs + 1) Private) refl refl;
  bound = λ s source at may. comes s _ _ (λ p. mounted_came s.kernel.table at (fs_in (mount_row s.kernel.table.rows source.mount)) (membership_of s.kernel.table source.mount)) refl refl;
  unmounted = λ s at may. goes s _ _ refl refl refl;
  changed = λ s change at may. stays s _ _ refl refl;
  copied = λ s ns form may. comes s _ _ (λ p. copied_came s.kernel.table p.whole ns form) refl refl;
  dropped = λ s ns may. goes s _ _ refl refl refl;
  walks = walkers;
  walked = λ s shown k moment tells. record { tells = λ p. tells };
  left = λ s walker mount is. record { tells = λ p. refl };
  made_catatonic = λ s fs. record { tells = λ p. told_failures _ s.kernel _ };
  timed = λ s fs timeout. stays s _ _ refl refl;
  died = λ s. stays s _ _ refl refl;
  reattached = λ s fs row is dead. stays s _ _ refl refl;
  delivered = λ s token row taken. record { tells = λ p. recording_tells (is_reply (plan_of_packet s.daemon row.packet)) _ _ _ };
  rested = λ s row a outcome i r. stays s _ _ refl refl;
  directory_made = λ s row trigger i. stays s _ _ refl refl;
  directory_gone = λ s row trigger i. stays s _ _ refl refl;
  mounted_on = λ s row trigger entry i may. comes s _ _ (λ p. mounted_came s.kernel.table (trigger_position s.kernel trigger) (s.kernel.last_fs + 1) Private) refl refl;
  unmounted_on = λ s row trigger mount i u. goes s _ _ refl refl refl;
  recorded = λ s row trigger entry i held. stays s _ _ refl refl;
  replied = λ s row status its i is. stays s _ _ (told_releases (told_in s.kernel) row.token status (waiters_of s.kernel.waits.tokens row.token)) refl;
}

-- an outcome leaves it so
pub outcome_there : (s : State) (event : Event) → PlacesAgree s.kernel → told_in s.kernel ≡ told s.trace → told_in (after s (outcome_of s event)).kernel ≡ told (after s (outcome_of s event)).trace
outcome_there s event p h =
    let o = outcome_of s event in
    sym ((tours.outcome AnyPath AnyJob TellsBy Tells events s event (any_event s event)).well.tells p)
    ∙ ap (λ (t : There). told_from t o.seen) h
    ∙ sym (told_append _ s.trace o.seen)

pub initial_there : (opening : Setup) → told_in (initial_state_of opening).kernel ≡ told []
initial_there opening = refl
